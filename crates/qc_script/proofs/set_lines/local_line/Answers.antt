use Rattle.qc_script.proofs.SettingLemmas.{local_next, no_local}
use Rattle.qc_script.proofs.set_lines.local_line.Goals as goal

pub returns-in-Some : goal.returns-in-Some
returns-in-Some c side = let id = rw c.in-Some.is at c.in_ok-id.ensures in local_next c.args.field.now c.in-Some.id id.0 id.1 side

pub returns-in-None : goal.returns-in-None
returns-in-None c = no_local c.args.field.now (rw c.in-None.is at c.in_ok-id.ensures)
