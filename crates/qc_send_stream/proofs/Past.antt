-- The first segment behind an offset is the first that a range of the map gives
use Rattle.std.proofs.Common.{◌≡◌, ◌∙◌, ap, sym, ℕ, ◌<◌, ◌≤◌, inl, inr, List, [], ◌∷◌, false, not, ◌&&◌, arith, refl, None, Some}
use Rattle.std.proofs.lemmas.Bool.{cases_order, cases_lt, lt-ltb, le-ltb, eq-eqb, ne_eqb}
use Rattle.std.specs.List.{filter}
use Rattle.std.specs.Ordering.{nat_cmp, is_lt}
use Rattle.qc_send_stream.specs.declared.segments.Segment.{Segment}
use Rattle.qc_send_stream.specs.Segments.{first_behind}

-- the entries whose keys lie behind o, as the map words it
abbrev pub behind : ℕ → List (ℕ × Segment) → List (ℕ × Segment)
behind o es = filter (λ e. is_lt (nat_cmp o e.0) && not false) es

behind_here : (o : ℕ) (e : ℕ × Segment) (es : List (ℕ × Segment)) → o < e.0 → behind o (e ∷ es) ≡ e ∷ behind o es
behind_here o e es less = rw (lt-ltb o e.0 less) refl

behind_later : (o : ℕ) (e : ℕ × Segment) (es : List (ℕ × Segment)) → e.0 ≤ o → behind o (e ∷ es) ≡ behind o es
behind_later o e es more = elim (cases_order o e.0) [
  | inl same ↦ rw (le-ltb o e.0 more, eq-eqb o e.0 same) refl
  | inr (inl less) ↦ absurd (omega arith)
  | inr (inr above) ↦ rw (le-ltb o e.0 more, ne_eqb o e.0 (λ q. omega arith)) refl
]

pub past_some : (o : ℕ) (es : List (ℕ × Segment)) (e : ℕ × Segment) (fs : List (ℕ × Segment)) → behind o es ≡ e ∷ fs → first_behind o es ≡ Some e
unfolding first_behind
past_some o [] e fs found = absurd (let no : ⊥ = cc in no)
past_some o (x ∷ xs) e fs found = elim (cases_lt o x.0) [
  | inl less ↦
      let all : x ∷ behind o xs ≡ e ∷ fs = sym (behind_here o x xs less) ∙ found in
      let same : x ≡ e = cc in
      rw (lt-ltb o x.0 less) (ap (λ (p : ℕ × Segment). Some p) same)
  | inr more ↦ rw (le-ltb o x.0 more) (past_some o xs e fs (sym (behind_later o x xs more) ∙ found))
]

pub past_none : (o : ℕ) (es : List (ℕ × Segment)) → behind o es ≡ [] → first_behind o es ≡ None
unfolding first_behind
past_none o [] found = refl
past_none o (x ∷ xs) found = elim (cases_lt o x.0) [
  | inl less ↦
      let all : x ∷ behind o xs ≡ [] = sym (behind_here o x xs less) ∙ found in
      absurd (let no : ⊥ = cc in no)
  | inr more ↦ rw (le-ltb o x.0 more) (past_none o xs (sym (behind_later o x xs more) ∙ found))
]
