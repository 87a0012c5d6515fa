use Rattle.qc_script.proofs.SettingLemmas.{mtud_next, no_mtud}
use Rattle.qc_script.proofs.set_lines.mtud_line.Goals as goal

pub returns-in-Some : goal.returns-in-Some
returns-in-Some c side = mtud_next c.args.field.now c.in-Some.allowed c.in-Some.ensures side

pub returns-in-None : goal.returns-in-None
returns-in-None c = no_mtud c.args.field.now c.in-None.ensures
