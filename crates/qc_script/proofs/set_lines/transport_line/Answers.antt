use Rattle.std.proofs.Common.{◌++◌, codes}
use Rattle.qc_script.specs.Items.{IsOfTransport}
use Rattle.qc_script.proofs.SettingLemmas.{no_transport, read_of}
use Rattle.qc_script.proofs.set_lines.transport_line.Goals as goal

pub returns-in-Some : goal.returns-in-Some
returns-in-Some c side = rw c.in-Some.ensures (read_of IsOfTransport side (codes "set idle " ++ c.in-Some.digits.now) c.idle_line.result (c.idle_line.ensures side))

pub returns-in-Some-after_word : goal.returns-in-Some-after_word
returns-in-Some-after_word c side = rw c.in-Some-after_word.ensures (read_of IsOfTransport side (codes "set mtud " ++ c.in-Some-after_word.field.now) c.mtud_line.result (c.mtud_line.ensures side))

pub returns-in-Some-after_word-2 : goal.returns-in-Some-after_word-2
returns-in-Some-after_word-2 c side = rw c.in-Some-after_word-2.ensures (read_of IsOfTransport side (codes "set gso " ++ c.in-Some-after_word-2.field.now) c.gso_line.result (c.gso_line.ensures side))

pub returns-in-None : goal.returns-in-None
returns-in-None c = no_transport c.args.text.now c.in_default.ensures c.in_default-after_word.ensures c.in-None.ensures
