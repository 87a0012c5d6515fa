use Rattle.std.proofs.Common.{arith}
use Rattle.qc_state.specs.declared.input.Input.TheVariants.{RecvDatagram}
use Rattle.qc_script.proofs.LineLemmas.{is_next, no_recv}
use Rattle.qc_script.proofs.lines.recv_line.Goals as goal

pub returns-in-Some : goal.returns-in-Some
returns-in-Some c = rw c.from_nanos.ensures (is_next c.args.digits.now (RecvDatagram c.in-Some.now) c.in-Some.ensures (omega arith))

pub returns-in-None : goal.returns-in-None
returns-in-None c = no_recv c.args.digits.now c.in-None.ensures
