-- Offsets that are read out of order are noted
use Rattle.std.proofs.Common.{◌≡◌, ◌∙◌, ap, sym, ℕ, ◌+◌, ◌-◌, ◌<◌, ◌≤◌, suc, zero, inl, inr, List, [], ◌∷◌, ◌++◌, false, arith, refl, subst, Option, None, Some}
use Rattle.std.proofs.lemmas.Bool.{cases_order, cases_lt, cases_eq, lt-ltb, le-ltb, eq-eqb, ne_eqb}
use Rattle.std.specs.Map.{remove_entry, lookup, set_value}
use Rattle.std.specs.BTreeMap.{is_at, insert_entry}
use Rattle.std.specs.Ordering.{nat_cmp}
use Rattle.qc_assembler.specs.Assembly.{note, noted}
use Rattle.qc_assembler.specs.Ahead.{row, listed, AreRanges, range_past, HasGap}
use Rattle.qc_assembler.proofs.Segments.{past_here, past_later, same_entry, range_bounds}

-- the first number is at lo or above
abbrev pub Above : ℕ → List ℕ → Type 0
Above lo [] = Unit {0}
Above lo (x ∷ xs) = lo ≤ x

note_front : (o : ℕ) (l : List ℕ) → Above (suc o) l → note o l ≡ o ∷ l
unfolding note
note_front o [] far = refl
note_front o (x ∷ xs) far = rw (lt-ltb o x far) refl

note_behind : (o x : ℕ) (l : List ℕ) → x < o → note o (x ∷ l) ≡ x ∷ note o l
unfolding note
note_behind o x l less = rw (le-ltb o x (omega arith), ne_eqb o x (λ e. omega arith)) refl

noted_behind : (o n x : ℕ) (l : List ℕ) → x < o → noted o n (x ∷ l) ≡ x ∷ noted o n l
unfolding noted
noted_behind o zero x l less = refl
noted_behind o (suc n) x l less = ap (λ (k : List ℕ). noted (suc o) n k) (note_behind o x l less) ∙ noted_behind (suc o) n x (note o l) (omega arith)

noted_past_row : (s m o n : ℕ) (rest : List ℕ) → s + m ≤ o → noted o n (row s m ++ rest) ≡ row s m ++ noted o n rest
unfolding row
noted_past_row s zero o n rest fits = refl
noted_past_row s (suc m) o n rest fits =
    noted_behind o n s (row (suc s) m ++ rest) (omega arith) ∙ ap (λ (k : List ℕ). s ∷ k) (noted_past_row (suc s) m o n rest (omega arith))

noted_front : (o n : ℕ) (l : List ℕ) → Above (o + n) l → noted o n l ≡ row o n ++ l
unfolding noted row
noted_front o zero l far = refl
noted_front o (suc n) l far =
    ap (λ (k : List ℕ). noted (suc o) n k) (note_front o l (nearer l far)) ∙ noted_behind (suc o) n o l (omega arith)
    ∙ ap (λ (k : List ℕ). o ∷ k) (noted_front (suc o) n l (along l far))
  where
    nearer : (l : List ℕ) → Above (o + suc n) l → Above (suc o) l
    nearer [] far = tt
    nearer (x ∷ xs) far = omega arith

    along : (l : List ℕ) → Above (o + suc n) l → Above (suc o + n) l
    along [] far = tt
    along (x ∷ xs) far = omega arith

above_row : (lo s m : ℕ) (rest : List ℕ) → 0 < m → lo ≤ s → Above lo (row s m ++ rest)
unfolding row
above_row lo s zero rest some low = absurd (omega arith)
above_row lo s (suc m) rest some low = low

insert_less : (n v : ℕ) (e : ℕ × ℕ) (es : List (ℕ × ℕ)) → n < e.0 → insert_entry nat_cmp (e ∷ es) n v ≡ (n, v) ∷ e ∷ es
insert_less n v e es less = rw (lt-ltb n e.0 less) refl

insert_more : (n v : ℕ) (e : ℕ × ℕ) (es : List (ℕ × ℕ)) → e.0 < n → insert_entry nat_cmp (e ∷ es) n v ≡ e ∷ insert_entry nat_cmp es n v
insert_more n v e es more = rw (le-ltb n e.0 (omega arith), ne_eqb n e.0 (λ q. omega arith)) refl

gap_here : (o n : ℕ) (e : ℕ × ℕ) (es : List (ℕ × ℕ)) → o < e.0 → HasGap n (range_past o (e ∷ es)) → n ≤ e.1
unfolding HasGap
gap_here o n e es less gap = subst (λ (p : Option (ℕ × ℕ)). HasGap n p) (past_here o e es less) gap

gap_later : (o n : ℕ) (e : ℕ × ℕ) (es : List (ℕ × ℕ)) → e.0 ≤ o → HasGap n (range_past o (e ∷ es)) → HasGap n (range_past o es)
gap_later o n e es more gap = subst (λ (p : Option (ℕ × ℕ)). HasGap n p) (past_later o e es more) gap

pub note_listed : (lo s n : ℕ) (es : List (ℕ × ℕ)) → AreRanges lo es → lo ≤ s → s < n → HasGap n (range_past s es)
    → listed (insert_entry nat_cmp es n s) ≡ noted s (n - s) (listed es)
unfolding listed AreRanges
note_listed lo s n [] ranges low some gap = sym (noted_front s (n - s) [] tt)
note_listed lo s n (e ∷ es) ranges low some gap = elim (cases_lt s e.0) [
  | inl less ↦
      let here : n ≤ e.1 = gap_here s n e es less gap in
      let full : e.1 < e.0 = ranges.1 in
      ap listed (insert_less n s e es (omega arith))
      ∙ sym (noted_front s (n - s) (row e.1 (e.0 - e.1) ++ listed es) (above_row (s + (n - s)) e.1 (e.0 - e.1) (listed es) (omega arith) (omega arith)))
  | inr more ↦
      let full : e.1 < e.0 = ranges.1 in
      ap listed (insert_more n s e es (omega arith))
      ∙ ap (λ (k : List ℕ). row e.1 (e.0 - e.1) ++ k) (note_listed e.0 s n es ranges.2 more some (gap_later s n e es more gap))
      ∙ sym (noted_past_row e.1 (e.0 - e.1) s (n - s) (listed es) (omega arith))
]

pub note_ranges : (lo s n : ℕ) (es : List (ℕ × ℕ)) → AreRanges lo es → lo ≤ s → s < n → HasGap n (range_past s es) → AreRanges lo (insert_entry nat_cmp es n s)
unfolding AreRanges
note_ranges lo s n [] ranges low some gap = (low, some, tt)
note_ranges lo s n (e ∷ es) ranges low some gap = elim (cases_lt s e.0) [
  | inl less ↦
      let here : n ≤ e.1 = gap_here s n e es less gap in
      let full : e.1 < e.0 = ranges.1 in
      subst (λ (l : List (ℕ × ℕ)). AreRanges lo l) (sym (insert_less n s e es (omega arith))) (low, some, (here, full, ranges.2))
  | inr more ↦
      let full : e.1 < e.0 = ranges.1 in
      subst (λ (l : List (ℕ × ℕ)). AreRanges lo l) (sym (insert_more n s e es (omega arith)))
      (ranges.0, ranges.1, note_ranges e.0 s n es ranges.2 more some (gap_later s n e es more gap))
]

-- ---- two ranges that join become one

abbrev pub joined_at : ℕ → ℕ → ℕ → List (ℕ × ℕ) → List (ℕ × ℕ)
joined_at k end start es = set_value (is_at (nat_cmp end)) (remove_entry (is_at (nat_cmp k)) es) start

row_append : (s m n : ℕ) (rest : List ℕ) → row s m ++ (row (s + m) n ++ rest) ≡ row s (m + n) ++ rest
unfolding row
row_append s zero n rest = let e : s + 0 ≡ s = omega arith in let z : 0 + n ≡ n = omega arith in rw (e, z) refl
row_append s (suc m) n rest =
    let e : s + suc m ≡ suc s + m = omega arith in
    let z : suc m + n ≡ suc (m + n) = omega arith in
    rw (e, z) (ap (λ (k : List ℕ). s ∷ k) (row_append (suc s) m n rest))

absent_below : (k lo : ℕ) (es : List (ℕ × ℕ)) → AreRanges lo es → k ≤ lo → lookup (is_at (nat_cmp k)) es ≡ None
unfolding AreRanges
absent_below k lo [] ranges low = refl
absent_below k lo (e ∷ es) ranges low =
    let from : lo ≤ e.1 = ranges.0 in
    let full : e.1 < e.0 = ranges.1 in
    rw (lt-ltb k e.0 (omega arith)) (absent_below k e.0 es ranges.2 (omega arith))

find_here : {X : Type 0} (k : ℕ) (x : ℕ × X) (xs : List (ℕ × X)) → k ≡ x.0 → lookup (is_at (nat_cmp k)) (x ∷ xs) ≡ Some x.1
find_here k x xs e = rw (le-ltb k x.0 (omega arith), eq-eqb k x.0 e) refl

find_later : (k : ℕ) (x : ℕ × ℕ) (xs : List (ℕ × ℕ)) → x.0 < k → lookup (is_at (nat_cmp k)) (x ∷ xs) ≡ lookup (is_at (nat_cmp k)) xs
find_later k x xs less = rw (le-ltb k x.0 (omega arith), ne_eqb k x.0 (λ e. omega arith)) refl

find_before : (k : ℕ) (x : ℕ × ℕ) (xs : List (ℕ × ℕ)) → AreRanges x.0 xs → k < x.0 → lookup (is_at (nat_cmp k)) (x ∷ xs) ≡ None
find_before k x xs ranges less = rw (lt-ltb k x.0 less) (absent_below k x.0 xs ranges (omega arith))

remove_here : (k : ℕ) (x : ℕ × ℕ) (xs : List (ℕ × ℕ)) → k ≡ x.0 → remove_entry (is_at (nat_cmp k)) (x ∷ xs) ≡ xs
remove_here k x xs e = rw (le-ltb k x.0 (omega arith), eq-eqb k x.0 e) refl

remove_later : (k : ℕ) (x : ℕ × ℕ) (xs : List (ℕ × ℕ)) → x.0 < k → remove_entry (is_at (nat_cmp k)) (x ∷ xs) ≡ x ∷ remove_entry (is_at (nat_cmp k)) xs
remove_later k x xs less = rw (le-ltb k x.0 (omega arith), ne_eqb k x.0 (λ e. omega arith)) refl

set_here : (k v : ℕ) (x : ℕ × ℕ) (xs : List (ℕ × ℕ)) → k ≡ x.0 → set_value (is_at (nat_cmp k)) (x ∷ xs) v ≡ (x.0, v) ∷ xs
set_here k v x xs e = rw (le-ltb k x.0 (omega arith), eq-eqb k x.0 e) refl

set_later : (k v : ℕ) (x : ℕ × ℕ) (xs : List (ℕ × ℕ)) → x.0 < k → set_value (is_at (nat_cmp k)) (x ∷ xs) v ≡ x ∷ set_value (is_at (nat_cmp k)) xs v
set_later k v x xs less = rw (le-ltb k x.0 (omega arith), ne_eqb k x.0 (λ e. omega arith)) refl

same_start : (a b : ℕ) → (let p : Option ℕ = Some a in p) ≡ Some b → a ≡ b
same_start a b q = cc

join_here : (lo k end start : ℕ) (x : ℕ × ℕ) (xs : List (ℕ × ℕ)) → AreRanges lo (x ∷ xs) → k ≡ x.0 → start ≡ x.1 → range_past k xs ≡ Some (end, k)
    → (listed (joined_at k end start (x ∷ xs)) ≡ listed (x ∷ xs)) × AreRanges lo (joined_at k end start (x ∷ xs))
unfolding listed AreRanges range_past
join_here lo k end start x [] ranges at from found = absurd (let no : ⊥ = cc in no)
join_here lo k end start x (y ∷ ys) ranges at from found =
    let low : lo ≤ x.1 = ranges.0 in
    let full : x.1 < x.0 = ranges.1 in
    let next : x.0 ≤ y.1 = ranges.2.0 in
    let some : y.1 < y.0 = ranges.2.1 in
    let same = same_entry y (end, k) (sym (past_here k y ys (omega arith)) ∙ found) in
    let e : y.0 ≡ end = ap (λ (p : ℕ × ℕ). p.0) same in
    let b : y.1 ≡ k = ap (λ (p : ℕ × ℕ). p.1) same in
    let one : joined_at k end start (x ∷ y ∷ ys) ≡ (y.0, start) ∷ ys =
    ap (λ (l : List (ℕ × ℕ)). set_value (is_at (nat_cmp end)) l start) (remove_here k x (y ∷ ys) at) ∙ set_here end start y ys (sym e) in
    let first : x.0 - x.1 + (y.0 - y.1) ≡ y.0 - start = omega arith in
    let second : x.1 + (x.0 - x.1) ≡ y.1 = omega arith in (
      ap listed one
          ∙ ap (λ (i : ℕ). row i (y.0 - start) ++ listed ys) from
          ∙ ap (λ (i : ℕ). row x.1 i ++ listed ys) (sym first)
          ∙ sym (row_append x.1 (x.0 - x.1) (y.0 - y.1) (listed ys))
          ∙ ap (λ (i : ℕ). row x.1 (x.0 - x.1) ++ (row i (y.0 - y.1) ++ listed ys)) second,
      subst (λ (l : List (ℕ × ℕ)). AreRanges lo l) (sym one) (omega arith, omega arith, ranges.2.2),
    )

pub join : (lo k end start : ℕ) (es : List (ℕ × ℕ)) → AreRanges lo es → Some start ≡ lookup (is_at (nat_cmp k)) es → range_past k es ≡ Some (end, k)
    → (listed (joined_at k end start es) ≡ listed es) × AreRanges lo (joined_at k end start es)
unfolding listed AreRanges range_past
join lo k end start [] ranges there found = absurd (let no : ⊥ = cc in no)
join lo k end start (x ∷ xs) ranges there found = elim (cases_order k x.0) [
  | inl e ↦
      join_here lo k end start x xs ranges e (same_start start x.1 (there ∙ find_here k x xs e)) (sym (past_later k x xs (omega arith)) ∙ found)
  | inr (inl less) ↦ absurd (none start (there ∙ find_before k x xs ranges.2 less))
  | inr (inr more) ↦
      let rest = join x.0 k end start xs ranges.2 (there ∙ find_later k x xs more) (sym (past_later k x xs (omega arith)) ∙ found) in
      let bounds = range_bounds x.0 k (end, k) xs ranges.2 (sym (past_later k x xs (omega arith)) ∙ found) in
      let far : k < end = bounds.0 in
      let one : joined_at k end start (x ∷ xs) ≡ x ∷ joined_at k end start xs =
      ap (λ (l : List (ℕ × ℕ)). set_value (is_at (nat_cmp end)) l start) (remove_later k x xs more) ∙ set_later end start x (remove_entry (is_at (nat_cmp k)) xs) (omega arith) in (
        ap listed one ∙ ap (λ (l : List ℕ). row x.1 (x.0 - x.1) ++ l) rest.0,
        subst (λ (l : List (ℕ × ℕ)). AreRanges lo l) (sym one) (ranges.0, ranges.1, rest.1),
      )
]
  where
    none : (s : ℕ) → (let p : Option ℕ = Some s in p) ≡ None → ⊥
    none s q = cc

pub set_absent : {X : Type 0} (k : ℕ) (v : X) (es : List (ℕ × X)) → None ≡ lookup (is_at (nat_cmp k)) es → es ≡ set_value (is_at (nat_cmp k)) es v
set_absent k v [] absent = refl
set_absent k v (x ∷ xs) absent = elim (cases_eq k x.0) [
  | inl e ↦ absurd (none x.1 (absent ∙ find_here k x xs e))
  | inr other ↦
      let test : is_at (nat_cmp k) x.0 ≡ false = is_other k x.0 other in
      rw test (ap (λ l. x ∷ l) (set_absent k v xs (absent ∙ (rw test refl))))
]
  where
    none : {X : Type 0} (s : X) → (let p : Option X = None in p) ≡ Some s → ⊥
    none s q = cc

    is_other : (a b : ℕ) → (a ≡ b → ⊥) → is_at (nat_cmp a) b ≡ false
    is_other a b other = elim (cases_lt a b) [
      | inl less ↦ rw (lt-ltb a b less) refl
      | inr more ↦ rw (le-ltb a b more, ne_eqb a b other) refl
    ]
