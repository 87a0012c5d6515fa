use Rattle.qc_script.proofs.SettingLemmas.{random_next, no_random}
use Rattle.qc_script.proofs.set_lines.random_line.Goals as goal

pub returns-in-Some : goal.returns-in-Some
returns-in-Some c side = let words = rw c.in-Some.is at c.in_ok-words.ensures in random_next c.args.field.now c.in-Some.words words.0 words.1 side

pub returns-in-None : goal.returns-in-None
returns-in-None c = no_random c.args.field.now (rw c.in-None.is at c.in_ok-words.ensures)
