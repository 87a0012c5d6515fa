-- Lemmas on the toy's messages.
use Rattle.std.proofs.Common.{◌≡◌, ℕ, ◌+◌, ◌-◌, ◌≤◌, List, ◌∷◌, ◌++◌, length, take, min, ap, sym, ◌∙◌, arith, length-append}
use Rattle.std.specs.Int.{w16, to_be_bytes}
use Rattle.std.proofs.lemmas.List.{take_min}
use Rattle.std.proofs.Math.Seq.{take-append-add}
use Rattle.qc_toy.specs.declared.messages.Kind.{Kind}
use Rattle.qc_toy.specs.Messages.{kind_byte, message, message_by_parts}

pub message_of_parts : (kind : Kind) (first rest : List ℕ) → length first ≤ 1
    → message kind (first ++ rest) ≡ message_by_parts kind first (take (min (length rest) (65535 - length first)) rest)
unfolding message
message_of_parts kind first rest h =
    let n = 65535 - length first in
    let cut = take (min (length rest) n) rest in
    let same : min (length rest) n ≡ min n (length rest) = omega arith in
    let fits : 65535 ≡ length first + n = omega arith in
    let body : take 65535 (first ++ rest) ≡ first ++ cut =
    ap (λ k. take k (first ++ rest)) fits ∙ take-append-add first rest n
    ∙ ap (λ xs. first ++ xs) (sym (take_min n rest) ∙ ap (λ k. take k rest) (sym same)) in
    ap (λ (xs : List ℕ). kind_byte kind ∷ to_be_bytes w16 (length xs) ++ xs) body
    ∙ ap (λ k. kind_byte kind ∷ to_be_bytes w16 k ++ (first ++ cut)) (length-append first cut)
