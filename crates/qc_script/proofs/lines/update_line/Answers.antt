use Rattle.std.proofs.Common.{arith}
use Rattle.qc_state.specs.declared.input.Input.TheVariants.{Update}
use Rattle.qc_script.proofs.LineLemmas.{is_next, no_update}
use Rattle.qc_script.proofs.lines.update_line.Goals as goal

pub returns-in-Some : goal.returns-in-Some
returns-in-Some c = rw c.from_nanos.ensures (is_next c.args.digits.now (Update c.in-Some.now) c.in-Some.ensures (omega arith))

pub returns-in-None : goal.returns-in-None
returns-in-None c = no_update c.args.digits.now c.in-None.ensures
