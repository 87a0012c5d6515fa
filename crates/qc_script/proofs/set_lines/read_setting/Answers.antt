use Rattle.std.proofs.Common.{ℕ, List, ◌++◌, codes, Option, Result, Ok, Err, IfOk}
use Rattle.qc_base.specs.declared.side.Side.{Side}
use Rattle.qc_script.specs.declared.settings.Setting.{Setting}
use Rattle.qc_script.specs.Items.{IsSettingRead}
use Rattle.qc_script.proofs.SettingLemmas.{last_read}
use Rattle.qc_script.proofs.set_lines.read_setting.Goals as goal

on_side : {E : Type 0} → (r : Result (Option Setting) E) (text : List ℕ) (side : Side) → IfOk r (λ x. (side : Side) → IsSettingRead side text x) → IfOk r (IsSettingRead side text)
on_side (Ok x) text side h = h side
on_side (Err e) text side h = h

pub returns-in-Some : goal.returns-in-Some
returns-in-Some c = rw c.in-Some.ensures (on_side c.random_line.result (codes "set random " ++ c.in-Some.field.now) c.args.side c.random_line.ensures)

pub returns-in-Some-after_word : goal.returns-in-Some-after_word
returns-in-Some-after_word c = rw c.in-Some-after_word.ensures (c.time_line.ensures c.args.side)

pub returns-in-Some-after_word-7 : goal.returns-in-Some-after_word-7
returns-in-Some-after_word-7 c = rw c.in-Some-after_word-7.ensures (on_side c.secret_line.result (codes "set secret " ++ c.in-Some-after_word-7.field.now) c.args.side c.secret_line.ensures)

pub returns-in-Some-keys_line : goal.returns-in-Some-keys_line
returns-in-Some-keys_line c = c.in-Some-keys_line.ensures c.args.side

pub returns : goal.returns
returns c = last_read c.args.side c.args.text.now c.in_default.ensures c.in_default-after_word.ensures c.in_default-after_word-2.ensures c.in_default-after_word-3.ensures c.in_default-after_word-4.ensures c.in_default-after_word-5.ensures
    c.in_default-after_word-6.ensures c.in_default-after_word-7.ensures (c.in_default-keys_line.ensures c.args.side) (rw c.in_default-2.is at c.in_ok-setting.ensures) c.transport_line.result (c.transport_line.ensures c.args.side)
