-- A segment ends behind an offset exactly where the last one does
use Rattle.std.proofs.Common.{◌≡◌, ◌∙◌, ap, sym, ℕ, ◌<◌, ◌≤◌, inl, inr, List, [], ◌∷◌, length, Bool, true, false, arith, refl, Option, None, Some, map}
use Rattle.std.proofs.lemmas.Bool.{cases_lt, lt-ltb, le-ltb, false≢true}
use Rattle.std.proofs.lemmas.List.Elements.{All-head, All-tail}
use Rattle.std.specs.Prelude.{is_some, nat_lt}
use Rattle.std.specs.List.{All}
use Rattle.std.specs.Map.{lookup, keys_of}
use Rattle.std.specs.BTreeMap.{is_at}
use Rattle.std.specs.Ordering.{nat_cmp, is_lt}
use Rattle.qc_send_stream.specs.declared.segments.Segment.{Segment}
use Rattle.qc_send_stream.specs.Segments.{first_behind}
use Rattle.qc_send_stream.proofs.Cutting.{behind_first, behind_next, find_other}

-- where the segment under a key ends behind an offset, some segment does
one_behind : (o k : ℕ) (s : Segment) (es : List (ℕ × Segment)) → lookup (is_at (nat_cmp k)) es ≡ Some s → o < k → is_some (first_behind o es) ≡ true
one_behind o k s [] found less = absurd (let no : ⊥ = cc in no)
one_behind o k s (e ∷ es) found less = elim (cases_lt o e.0) [
  | inl low ↦ ap (λ (p : Option (ℕ × Segment)). is_some p) (behind_first o e es low)
  | inr high ↦
      ap (λ (p : Option (ℕ × Segment)). is_some p) (behind_next o e es high)
      ∙ one_behind o k s es (sym (find_other k e es (λ q. omega arith)) ∙ found) less
]

low_key : (k q : ℕ) → is_lt (nat_cmp k q) ≡ false → q ≤ k
low_key k q not_less = elim (cases_lt k q) [
  | inl less ↦ absurd (let is : is_lt (nat_cmp k q) ≡ true = rw (lt-ltb k q less) refl in false≢true (sym not_less ∙ is))
  | inr more ↦ more
]

-- where no key lies above k, no segment ends behind an offset from k on
none_behind : (o k : ℕ) (es : List (ℕ × Segment)) → All (λ q. is_lt (nat_cmp k q) ≡ false) (keys_of es) → k ≤ o → first_behind o es ≡ None
unfolding first_behind
none_behind o k [] all past = refl
none_behind o k (e ∷ es) all past =
    let low : e.0 ≤ k = low_key k e.0 (All-head (λ q. is_lt (nat_cmp k q) ≡ false) e.0 (keys_of es) all) in
    behind_next o e es (omega arith) ∙ none_behind o k es (All-tail (λ q. is_lt (nat_cmp k q) ≡ false) e.0 (keys_of es) all) past

pub last_behind : (o k : ℕ) (s : Segment) (es : List (ℕ × Segment)) → lookup (is_at (nat_cmp k)) es ≡ Some s
    → All (λ q. is_lt (nat_cmp k q) ≡ false) (keys_of es) → nat_lt o k ≡ is_some (first_behind o es)
last_behind o k s es found all = elim (cases_lt o k) [
  | inl less ↦ lt-ltb o k less ∙ sym (one_behind o k s es found less)
  | inr more ↦ le-ltb o k more ∙ sym (ap (λ (p : Option (ℕ × Segment)). is_some p) (none_behind o k es all more))
]

pub nothing_behind : (o : ℕ) (es : List (ℕ × Segment)) → (0 < length es → ⊥) → false ≡ is_some (first_behind o es)
unfolding first_behind
nothing_behind o [] none = refl
nothing_behind o (e ∷ es) none = absurd (none (omega arith))
