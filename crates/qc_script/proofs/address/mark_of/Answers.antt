use Rattle.std.proofs.Common.{◌∷◌, [], ◌∙◌, Some, ap, sym, ℕ, arith}
use Rattle.qc_base.specs.declared.ecn.EcnCodepoint.TheVariants.{Ect0, Ect1, Ce}
use Rattle.qc_script.proofs.FieldLemmas.{ecn_is_digit, mark_other}
use Rattle.qc_script.proofs.address.mark_of.Goals as goal

pub returns-in-49 : goal.returns-in-49
returns-in-49 c = ap (λ (d : ℕ). d ∷ []) c.in-49.is ∙ sym (ecn_is_digit (Some Ect1))

pub returns-in-50 : goal.returns-in-50
returns-in-50 c = ap (λ (d : ℕ). d ∷ []) c.in-50.is ∙ sym (ecn_is_digit (Some Ect0))

pub returns-in-51 : goal.returns-in-51
returns-in-51 c = ap (λ (d : ℕ). d ∷ []) c.in-51.is ∙ sym (ecn_is_digit (Some Ce))

pub returns-in_default : goal.returns-in_default
returns-in_default c = mark_other c.args.digit (λ e. omega (arith, e, c.in_default)) (λ e. omega (arith, e, c.in_default)) (λ e. omega (arith, e, c.in_default)) (λ e. omega (arith, e, c.in_default))
