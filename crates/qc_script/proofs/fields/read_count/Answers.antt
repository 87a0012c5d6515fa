use Rattle.std.proofs.Common.{arith}
use Rattle.qc_script.proofs.FieldLemmas.{count_too_great}
use Rattle.qc_script.proofs.fields.read_count.Goals as goal

pub returns-in_err-count : goal.returns-in_err-count
returns-in_err-count c = rw c.from_residual.ensures (λ n small e. c.in_err-count.ensures n (omega (arith, small)) e)

pub returns-else-count-lt4294967296 : goal.returns-else-count-lt4294967296
returns-else-count-lt4294967296 c = count_too_great c.args.digits.now c.in_ok-count.count c.in_ok-count.ensures (omega arith) (omega (arith, c.if-count-lt4294967296.false))
