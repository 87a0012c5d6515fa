use Rattle.std.proofs.Common.{◌∷◌, ◌++◌, ◌∙◌, ap, List, ℕ}
use Rattle.qc_script.proofs.FieldLemmas.{dir_no_split, dir_no_word}
use Rattle.qc_script.proofs.fields.first_dir.Goals as goal

pub returns-in_err-field : goal.returns-in_err-field
returns-in_err-field c = rw c.from_residual.ensures (dir_no_split c.args.text.now c.in_err-field.ensures)

pub returns-in_err-dir : goal.returns-in_err-dir
returns-in_err-dir c = rw c.from_residual-in_err-dir.ensures
    (dir_no_word c.args.text.now c.in_ok-field.field.now c.in_ok-field.rest.now c.in_ok-field.ensures.0 c.in_ok-field.ensures.1 c.in_err-dir.ensures)

pub returns : goal.returns
returns c = c.in_ok-field.ensures.0 ∙ ap (λ (z : List ℕ). z ++ 32 ∷ c.in_ok-field.rest.now) c.in_ok-dir.ensures
