use Rattle.std.proofs.Common.{arith}
use Rattle.qc_script.proofs.FieldLemmas.{port_too_great}
use Rattle.qc_script.proofs.fields.read_port.Goals as goal

pub returns-in_err-port : goal.returns-in_err-port
returns-in_err-port c = rw c.from_residual.ensures (λ n small e. c.in_err-port.ensures n (omega (arith, small)) e)

pub returns-else-port-lt65536 : goal.returns-else-port-lt65536
returns-else-port-lt65536 c = port_too_great c.args.digits.now c.in_ok-port.port c.in_ok-port.ensures (omega arith) (omega (arith, c.if-port-lt65536.false))
