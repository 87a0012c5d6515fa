use Rattle.std.proofs.Common.{◌≡◌, ℕ, ◌/◌, ◌%◌, List, [], ◌∷◌, ◌++◌, refl, ap, sym, ◌∙◌, rules, append_assoc, append-nil}
use Rattle.std.proofs.lemmas.List.{nil_from_length}
use Rattle.std.specs.Prelude.{slice_index}
use Rattle.std.specs.Slice.Iter.{chunks_rest}
use Rattle.hex.specs.Hex.{encode_lower, encode_with, lower_digits}
use Rattle.qc_text.proofs.digits.put_hex.Goals as goal

-- the text of bytes behind one another
encode_joined : (t xs ys : List ℕ) → encode_with t (xs ++ ys) ≡ encode_with t xs ++ encode_with t ys
unfolding encode_with
encode_joined t [] ys = refl
encode_joined t (x ∷ xs) ys = ap (λ (l : List ℕ). slice_index t (x / 16) ∷ slice_index t (x % 16) ∷ l) (encode_joined t xs ys)

-- a part more was written
part_more : (out out' part rest rest' all : List ℕ) → out' ≡ out ++ encode_lower part → rest ≡ part ++ rest' → out ++ encode_lower rest ≡ all → out' ++ encode_lower rest' ≡ all
part_more out out' part rest rest' all is cut h =
    ap (λ (l : List ℕ). l ++ encode_lower rest') is ∙ append_assoc out (encode_lower part) (encode_lower rest') ∙ ap (λ (l : List ℕ). out ++ l) (sym (encode_joined lower_digits part rest') ∙ ap encode_lower (sym cut)) ∙ h

-- no byte is left
none_left : (out rest all : List ℕ) → rest ≡ [] → out ++ encode_lower rest ≡ all → out ≡ all
unfolding encode_with
none_left out rest all none h = sym (append-nil out) ∙ ap (λ (l : List ℕ). out ++ encode_lower l) (sym none) ∙ h

pub parts-init : goal.parts-init
parts-init c = (search rules, tt, search rules, search rules)

pub parts-preserved : goal.parts-preserved
parts-preserved c =
    let steps = c.in-Some.ensures.steps in
    (search rules, tt, steps.0 ∙ c.parts.invariant.2, part_more _ _ _ _ (chunks_rest c.next.new.self) _ c.in_ok-put_part.ensures steps.1.0 c.parts.invariant.3)

pub returns-clause-text : goal.returns-clause-text
returns-clause-text c = none_left _ _ _ (nil_from_length _ c.in-None.ensures.steps.1.0) c.parts.invariant.3
