use Rattle.std.proofs.Common.{arith}
use Rattle.qc_script.proofs.SettingLemmas.{idle_next, no_idle}
use Rattle.qc_script.proofs.set_lines.idle_line.Goals as goal

pub returns-in-Some : goal.returns-in-Some
returns-in-Some c side = idle_next c.args.digits.now c.in-Some.limit c.in-Some.ensures (omega arith) side

pub returns-in-None : goal.returns-in-None
returns-in-None c = no_idle c.args.digits.now c.in-None.ensures
