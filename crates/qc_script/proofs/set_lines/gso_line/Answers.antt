use Rattle.qc_script.proofs.SettingLemmas.{gso_next, no_gso}
use Rattle.qc_script.proofs.set_lines.gso_line.Goals as goal

pub returns-in-Some : goal.returns-in-Some
returns-in-Some c side = gso_next c.args.field.now c.in-Some.allowed c.in-Some.ensures side

pub returns-in-None : goal.returns-in-None
returns-in-None c = no_gso c.args.field.now c.in-None.ensures
