use Rattle.std.proofs.Common.{arith}
use Rattle.qc_script.proofs.SettingLemmas.{time_next, no_time}
use Rattle.qc_script.proofs.set_lines.time_line.Goals as goal

pub returns-in-Some : goal.returns-in-Some
returns-in-Some c side = rw c.from_nanos.ensures (time_next c.args.digits.now c.in-Some.now c.in-Some.ensures (omega arith) side)

pub returns-in-None : goal.returns-in-None
returns-in-None c = no_time c.args.digits.now c.in-None.ensures
