use Rattle.qc_script.proofs.SettingLemmas.{secret_next, no_secret}
use Rattle.qc_script.proofs.set_lines.secret_line.Goals as goal

pub returns-in-Some : goal.returns-in-Some
returns-in-Some c side = let bytes = rw c.in-Some.is at c.in_ok-bytes.ensures in secret_next c.args.field.now c.in-Some.bytes bytes.0 bytes.1 side

pub returns-in-None : goal.returns-in-None
returns-in-None c = no_secret c.args.field.now (rw c.in-None.is at c.in_ok-bytes.ensures)
