use Rattle.std.proofs.Common.{◌^◌, ◌∙◌, ◌++◌, ◌∷◌, List, ℕ, ap, arith}
use Rattle.qc_state.specs.declared.input.Input.TheVariants.{Identifiers}
use Rattle.qc_script.proofs.FieldLemmas.{begins_same}
use Rattle.qc_script.proofs.LineLemmas.{is_next, no_ids}
use Rattle.std.specs.Fmt.{decimal}
use Rattle.qc_script.proofs.id_lines.ids_line.Goals as goal

pub returns-in_default : goal.returns-in_default
returns-in_default c = no_ids c.args.fields.now (λ now rest b ids within e. c.in_default.ensures now rest b)

pub returns-in_default-2 : goal.returns-in_default-2
returns-in_default-2 c = no_ids c.args.fields.now (λ now rest b ids within e.
    let same = begins_same (2 ^ 64) c.args.fields.now c.in-Some.now c.in-Some.rest.now now rest (omega arith) c.in-Some.ensures b in
    (rw c.in_default-2.is at c.in_ok-ids.ensures) ids within (ap (λ (z : List ℕ). 32 ∷ z) same.1 ∙ e))

pub returns : goal.returns
returns c =
    let given = rw c.in-Some-2.is at c.in_ok-ids.ensures in
    let fields = c.in-Some.ensures.spelled ∙ ap (λ (z : List ℕ). decimal c.in-Some.now ++ z) given.0 in
    rw c.from_nanos.ensures (is_next c.args.fields.now (Identifiers c.in-Some.now c.in-Some-2.ids) fields (omega arith, given.1, given.2))
