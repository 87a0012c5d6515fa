use Rattle.std.proofs.Common.{ℕ, List, ◌++◌, codes, Option, Result, Ok, Err, IfOk}
use Rattle.qc_base.specs.declared.side.Side.{Side}
use Rattle.qc_script.specs.declared.settings.Setting.{Setting}
use Rattle.qc_script.specs.Items.{IsOfServer, IsReadOf, IsSettingRead}
use Rattle.qc_script.proofs.SettingLemmas.{no_server, read_of}
use Rattle.qc_script.proofs.set_lines.server_line.Goals as goal

of_server : {E : Type 0} → (r : Result (Option Setting) E) (text : List ℕ) (side : Side) → IfOk r (IsSettingRead side text) → IfOk r (IsReadOf IsOfServer side text)
of_server (Ok x) text side h = read_of IsOfServer side text x h
of_server (Err e) text side h = h

pub returns-in-Some : goal.returns-in-Some
returns-in-Some c = rw c.in-Some.ensures (of_server c.orig_line.result (codes "set orig " ++ c.in-Some.field.now) c.args.side c.orig_line.ensures)

pub returns-in-Some-after_word : goal.returns-in-Some-after_word
returns-in-Some-after_word c = rw c.in-Some-after_word.ensures (of_server c.retry_line.result (codes "set retry " ++ c.in-Some-after_word.field.now) c.args.side c.retry_line.ensures)

pub returns-in-Some-after_word-2 : goal.returns-in-Some-after_word-2
returns-in-Some-after_word-2 c = rw c.in-Some-after_word-2.ensures (read_of IsOfServer c.args.side (codes "set validated " ++ c.in-Some-after_word-2.field.now) c.validated_line.result c.validated_line.ensures)

pub returns-in-Some-after_word-3 : goal.returns-in-Some-after_word-3
returns-in-Some-after_word-3 c = rw c.in-Some-after_word-3.ensures (read_of IsOfServer c.args.side (codes "set sent " ++ c.in-Some-after_word-3.digits.now) c.sent_line.result c.sent_line.ensures)

pub returns-in-Some-after_word-4 : goal.returns-in-Some-after_word-4
returns-in-Some-after_word-4 c = rw c.in-Some-after_word-4.ensures (read_of IsOfServer c.args.side (codes "set clock " ++ c.in-Some-after_word-4.digits.now) c.clock_line.result c.clock_line.ensures)

pub returns-in-None : goal.returns-in-None
returns-in-None c = no_server c.args.text.now c.in_default.ensures c.in_default-after_word.ensures c.in_default-after_word-2.ensures c.in_default-after_word-3.ensures c.in-None.ensures c.args.side
