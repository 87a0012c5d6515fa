-- The first part behind an offset is the first that a range of the map gives
use Rattle.std.proofs.Common.{◌≡◌, ◌∙◌, ap, sym, ℕ, ◌<◌, ◌≤◌, inl, inr, List, [], ◌∷◌, false, not, ◌&&◌, length, arith, refl, None, Some}
use Rattle.std.proofs.lemmas.Bool.{cases_order, cases_lt, lt-ltb, le-ltb, eq-eqb, ne_eqb}
use Rattle.std.specs.List.{filter}
use Rattle.std.specs.Ordering.{nat_cmp, is_lt}
use Rattle.qc_assembler.specs.Parts.{first_past}
use Rattle.qc_assembler.specs.Ahead.{range_past}

-- the entries whose keys lie behind o, as the map words it
abbrev pub behind : ℕ → List (ℕ × List ℕ) → List (ℕ × List ℕ)
behind o es = filter (λ e. is_lt (nat_cmp o e.0) && not false) es

behind_here : (o : ℕ) (e : ℕ × List ℕ) (es : List (ℕ × List ℕ)) → o < e.0 → behind o (e ∷ es) ≡ e ∷ behind o es
behind_here o e es less = rw (lt-ltb o e.0 less) refl

behind_later : (o : ℕ) (e : ℕ × List ℕ) (es : List (ℕ × List ℕ)) → e.0 ≤ o → behind o (e ∷ es) ≡ behind o es
behind_later o e es more = elim (cases_order o e.0) [
  | inl same ↦ rw (le-ltb o e.0 more, eq-eqb o e.0 same) refl
  | inr (inl less) ↦ absurd (omega arith)
  | inr (inr above) ↦ rw (le-ltb o e.0 more, ne_eqb o e.0 (λ q. omega arith)) refl
]

pub past_some : (o : ℕ) (es : List (ℕ × List ℕ)) (e : ℕ × List ℕ) (fs : List (ℕ × List ℕ)) → behind o es ≡ e ∷ fs → first_past o es ≡ Some (e.0, length e.1)
unfolding first_past
past_some o [] e fs found = absurd (let no : ⊥ = cc in no)
past_some o (x ∷ xs) e fs found = elim (cases_lt o x.0) [
  | inl less ↦
      let all : x ∷ behind o xs ≡ e ∷ fs = sym (behind_here o x xs less) ∙ found in
      let same : x ≡ e = cc in
      rw (lt-ltb o x.0 less) (ap (λ (p : ℕ × List ℕ). Some (p.0, length p.1)) same)
  | inr more ↦ rw (le-ltb o x.0 more) (past_some o xs e fs (sym (behind_later o x xs more) ∙ found))
]

pub past_none : (o : ℕ) (es : List (ℕ × List ℕ)) → behind o es ≡ [] → first_past o es ≡ None
unfolding first_past
past_none o [] found = refl
past_none o (x ∷ xs) found = elim (cases_lt o x.0) [
  | inl less ↦
      let all : x ∷ behind o xs ≡ [] = sym (behind_here o x xs less) ∙ found in
      absurd (let no : ⊥ = cc in no)
  | inr more ↦ rw (le-ltb o x.0 more) (past_none o xs (sym (behind_later o x xs more) ∙ found))
]

-- ---- the same of ranges, whose values are numbers

abbrev pub ranges_behind : ℕ → List (ℕ × ℕ) → List (ℕ × ℕ)
ranges_behind o es = filter (λ e. is_lt (nat_cmp o e.0) && not false) es

range_here : (o : ℕ) (e : ℕ × ℕ) (es : List (ℕ × ℕ)) → o < e.0 → ranges_behind o (e ∷ es) ≡ e ∷ ranges_behind o es
range_here o e es less = rw (lt-ltb o e.0 less) refl

range_later : (o : ℕ) (e : ℕ × ℕ) (es : List (ℕ × ℕ)) → e.0 ≤ o → ranges_behind o (e ∷ es) ≡ ranges_behind o es
range_later o e es more = elim (cases_order o e.0) [
  | inl same ↦ rw (le-ltb o e.0 more, eq-eqb o e.0 same) refl
  | inr (inl less) ↦ absurd (omega arith)
  | inr (inr above) ↦ rw (le-ltb o e.0 more, ne_eqb o e.0 (λ q. omega arith)) refl
]

pub range_some : (o : ℕ) (es : List (ℕ × ℕ)) (e : ℕ × ℕ) (fs : List (ℕ × ℕ)) → ranges_behind o es ≡ e ∷ fs → range_past o es ≡ Some e
unfolding range_past
range_some o [] e fs found = absurd (let no : ⊥ = cc in no)
range_some o (x ∷ xs) e fs found = elim (cases_lt o x.0) [
  | inl less ↦
      let all : x ∷ ranges_behind o xs ≡ e ∷ fs = sym (range_here o x xs less) ∙ found in
      let same : x ≡ e = cc in
      rw (lt-ltb o x.0 less) (ap (λ (p : ℕ × ℕ). Some p) same)
  | inr more ↦ rw (le-ltb o x.0 more) (range_some o xs e fs (sym (range_later o x xs more) ∙ found))
]

pub range_none : (o : ℕ) (es : List (ℕ × ℕ)) → ranges_behind o es ≡ [] → range_past o es ≡ None
unfolding range_past
range_none o [] found = refl
range_none o (x ∷ xs) found = elim (cases_lt o x.0) [
  | inl less ↦
      let all : x ∷ ranges_behind o xs ≡ [] = sym (range_here o x xs less) ∙ found in
      absurd (let no : ⊥ = cc in no)
  | inr more ↦ rw (le-ltb o x.0 more) (range_none o xs (sym (range_later o x xs more) ∙ found))
]
