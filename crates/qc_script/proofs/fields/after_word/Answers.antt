use Rattle.std.proofs.Common.{◌≡◌, ◌∙◌, ap, refl, length, take, true, false}
use Rattle.std.proofs.lemmas.List.{take_at}
use Rattle.std.proofs.lemmas.Slice.Eq.{slice_eq-Decides}
use Rattle.std.proofs.lemmas.Bool.Decides.{Decides-eqb}
use Rattle.qc_script.proofs.fields.after_word.Goals as goal

pub returns-else-eq : goal.returns-else-eq
returns-else-eq c rest e =
    let same : c.split_at.result.0.now ≡ c.args.word.now = c.split_at.ensures.front ∙ ap (take (length c.args.word.now)) e ∙ take_at c.args.word.now rest (length c.args.word.now) refl in
    let apart = rw c.if-eq.false at (slice_eq-Decides Decides-eqb c.split_at.result.0.now c.args.word.now c.eq.result c.eq.ensures) in
    let t : false ≡ true = apart.1 same in cc
