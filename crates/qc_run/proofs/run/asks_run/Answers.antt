use Rattle.std.proofs.Common.{◌≡◌, ℕ, List, [], ◌∷◌, codes, map, sym, ◌∙◌, ap, arith, get_or}
use Rattle.std.proofs.lemmas.Slice.Eq.{bytes_eq-Decides}
use Rattle.std.specs.Global.{Global}
use Rattle.std.specs.String.{string_bytes}
use Rattle.qc_run.proofs.EndingLemmas.{one_word}
use Rattle.qc_run.proofs.run.asks_run.Goals as goal

pub returns-in-len1 : goal.returns-in-len1
returns-in-len1 c =
    let one = one_word c.args.words.now c.word-item.result (omega arith) (omega arith) c.word-item.is in
    let tested = bytes_eq-Decides c.as_str.result.now (codes "run") in
    let bytes = c.as_str.ensures.value in
    let first : map (string_bytes {Z = Global}) c.args.words.now ≡ string_bytes c.word-item.result ∷ [] = ap (map (string_bytes {Z = Global})) one in
    (λ yes. first ∙ ap (λ (w : List ℕ). w ∷ []) (sym bytes ∙ tested.0 (sym c.eq.ensures ∙ yes)), λ asks. c.eq.ensures ∙ tested.1 (bytes ∙ ap (λ (ws : List (List ℕ)). get_or ws 0 []) (sym first ∙ asks)))
