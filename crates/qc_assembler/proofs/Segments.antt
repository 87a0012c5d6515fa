-- Bytes that come are kept or passed over, segment by segment
use Rattle.std.proofs.Common.{◌≡◌, ◌∙◌, ap, sym, ℕ, ◌+◌, ◌-◌, ◌<◌, ◌≤◌, suc, zero, inl, inr, List, [], ◌∷◌, ◌++◌, Bool, true, false, cond, length, take, drop, arith, refl, subst, Option, None, Some}
use Rattle.std.specs.Prelude.{◌==◌, nat_lt}
use Rattle.std.proofs.lemmas.Bool.{cases_order, cases_lt, lt-ltb, le-ltb, eq-eqb, ne_eqb, or_from, or_left, or_right}
use Rattle.std.proofs.lemmas.List.{length-take-le}
use Rattle.qc_assembler.specs.Assembly.{Assembly, put, add, among, was_read, byte_came, inserted}
use Rattle.qc_assembler.specs.Parts.{flat}
use Rattle.qc_assembler.specs.Ahead.{row, listed, AreRanges, range_past, assembled}

-- all offsets of a segment were read, or none
abbrev pub AllRead : Bool → ℕ → ℕ → Assembly → Type 0
AllRead b o n a = (i : ℕ) → o ≤ i → i < o + n → was_read i a ≡ b

pub inserted_unread : (o : ℕ) (bs : List ℕ) (a : Assembly) → AllRead false o (length bs) a → inserted o bs a ≡ record a { came = add o bs a.came }
unfolding inserted byte_came add was_read
inserted_unread o [] a none = refl
inserted_unread o (b ∷ bs) a none =
    let now : was_read o a ≡ false = none o (omega arith) (omega arith) in
    ap (λ (t : Bool). inserted (suc o) bs (cond t a (record a { came = put o b a.came }))) now
    ∙ inserted_unread (suc o) bs (record a { came = put o b a.came }) (λ i low high. none i (omega arith) (omega arith))

pub inserted_read : (o : ℕ) (bs : List ℕ) (a : Assembly) → AllRead true o (length bs) a → inserted o bs a ≡ a
unfolding inserted byte_came
inserted_read o [] a all = refl
inserted_read o (b ∷ bs) a all =
    let now : was_read o a ≡ true = all o (omega arith) (omega arith) in
    ap (λ (t : Bool). inserted (suc o) bs (cond t a (record a { came = put o b a.came }))) now
    ∙ inserted_read (suc o) bs a (λ i low high. all i (omega arith) (omega arith))

pub inserted_split : (o n : ℕ) (bs : List ℕ) (a : Assembly) → n ≤ length bs → inserted o bs a ≡ inserted (o + n) (drop n bs) (inserted o (take n bs) a)
unfolding inserted
inserted_split o zero bs a fits = let e : o ≡ o + 0 = omega arith in ap (λ i. inserted i bs a) e
inserted_split o (suc n) [] a fits = absurd (omega arith)
inserted_split o (suc n) (b ∷ bs) a fits =
    let e : suc o + n ≡ o + suc n = omega arith in
    inserted_split (suc o) n bs (byte_came o b a) (omega arith) ∙ ap (λ i. inserted i (drop n bs) (inserted (suc o) (take n bs) (byte_came o b a))) e

pub inserted_none : (o : ℕ) (bs : List ℕ) (a : Assembly) → length bs ≡ 0 → inserted o bs a ≡ a
unfolding inserted
inserted_none o [] a none = refl
inserted_none o (b ∷ bs) a none = absurd (omega arith)

-- ---- the ranges

among_row : (i s n : ℕ) (rest : List ℕ) → s ≤ i → i < s + n → among i (row s n ++ rest) ≡ true
unfolding among row
among_row i s zero rest low high = absurd (omega arith)
among_row i s (suc n) rest low high = elim (cases_order s i) [
  | inl e ↦ or_left (i == s) (among i (row (suc s) n ++ rest)) (eq-eqb i s (sym e))
  | inr (inl less) ↦ or_right (i == s) (among i (row (suc s) n ++ rest)) (among_row i (suc s) n rest (omega arith) (omega arith))
  | inr (inr more) ↦ absurd (omega arith)
]

among_below : (i s n : ℕ) (rest : List ℕ) → i < s → among i (row s n ++ rest) ≡ among i rest
unfolding among row
among_below i s zero rest low = refl
among_below i s (suc n) rest low = rw (ne_eqb i s (λ e. omega arith)) (among_below i (suc s) n rest (omega arith))

among_above : (i s n : ℕ) (rest : List ℕ) → s + n ≤ i → among i (row s n ++ rest) ≡ among i rest
unfolding among row
among_above i s zero rest low = refl
among_above i s (suc n) rest low = rw (ne_eqb i s (λ e. omega arith)) (among_above i (suc s) n rest (omega arith))

none_listed : (i lo : ℕ) (es : List (ℕ × ℕ)) → AreRanges lo es → i < lo → among i (listed es) ≡ false
unfolding among listed AreRanges
none_listed i lo [] ranges low = refl
none_listed i lo (e ∷ es) ranges low =
    let from : lo ≤ e.1 = ranges.0 in
    let some : e.1 < e.0 = ranges.1 in
    among_below i e.1 (e.0 - e.1) (listed es) (omega arith) ∙ none_listed i e.0 es ranges.2 (omega arith)

pub same_entry : (x e : ℕ × ℕ) → (let p : Option (ℕ × ℕ) = Some x in p) ≡ Some e → x ≡ e
same_entry x e q = cc

pub past_here : (o : ℕ) (e : ℕ × ℕ) (es : List (ℕ × ℕ)) → o < e.0 → range_past o (e ∷ es) ≡ Some e
unfolding range_past
past_here o e es less = rw (lt-ltb o e.0 less) refl

pub past_later : (o : ℕ) (e : ℕ × ℕ) (es : List (ℕ × ℕ)) → e.0 ≤ o → range_past o (e ∷ es) ≡ range_past o es
unfolding range_past
past_later o e es more = rw (le-ltb o e.0 more) refl

pub range_bounds : (lo o : ℕ) (e : ℕ × ℕ) (es : List (ℕ × ℕ)) → AreRanges lo es → range_past o es ≡ Some e → (o < e.0) × (e.1 < e.0)
unfolding range_past AreRanges
range_bounds lo o e [] ranges found = absurd (let no : ⊥ = cc in no)
range_bounds lo o e (x ∷ xs) ranges found = elim (cases_lt o x.0) [
  | inl less ↦
      let same = same_entry x e (sym (past_here o x xs less) ∙ found) in
      let some : x.1 < x.0 = ranges.1 in
      subst (λ (p : ℕ × ℕ). (o < p.0) × (p.1 < p.0)) same (less, some)
  | inr more ↦ range_bounds x.0 o e xs ranges.2 (sym (past_later o x xs more) ∙ found)
]

pub listed_inside : (lo o i : ℕ) (e : ℕ × ℕ) (es : List (ℕ × ℕ)) → AreRanges lo es → range_past o es ≡ Some e → e.1 ≤ i → o ≤ i → i < e.0 → among i (listed es) ≡ true
unfolding listed AreRanges among range_past
listed_inside lo o i e [] ranges found from low high = absurd (let no : ⊥ = cc in no)
listed_inside lo o i e (x ∷ xs) ranges found from low high = elim (cases_lt o x.0) [
  | inl less ↦
      let same = same_entry x e (sym (past_here o x xs less) ∙ found) in
      let start : x.1 ≡ e.1 = ap (λ (p : ℕ × ℕ). p.1) same in
      let end : x.0 ≡ e.0 = ap (λ (p : ℕ × ℕ). p.0) same in
      among_row i x.1 (x.0 - x.1) (listed xs) (omega arith) (omega arith)
  | inr more ↦
      let some : x.1 < x.0 = ranges.1 in
      among_above i x.1 (x.0 - x.1) (listed xs) (omega arith) ∙ listed_inside x.0 o i e xs ranges.2 (sym (past_later o x xs more) ∙ found) from low high
]

pub listed_outside : (lo o i : ℕ) (e : ℕ × ℕ) (es : List (ℕ × ℕ)) → AreRanges lo es → range_past o es ≡ Some e → o ≤ i → i < e.1 → among i (listed es) ≡ false
unfolding listed AreRanges among range_past
listed_outside lo o i e [] ranges found low high = refl
listed_outside lo o i e (x ∷ xs) ranges found low high = elim (cases_lt o x.0) [
  | inl less ↦
      let same = same_entry x e (sym (past_here o x xs less) ∙ found) in
      let start : x.1 ≡ e.1 = ap (λ (p : ℕ × ℕ). p.1) same in
      let some : x.1 < x.0 = ranges.1 in
      among_below i x.1 (x.0 - x.1) (listed xs) (omega arith) ∙ none_listed i x.0 xs ranges.2 (omega arith)
  | inr more ↦
      let some : x.1 < x.0 = ranges.1 in
      among_above i x.1 (x.0 - x.1) (listed xs) (omega arith) ∙ listed_outside x.0 o i e xs ranges.2 (sym (past_later o x xs more) ∙ found) low high
]

pub listed_beyond : (lo o i : ℕ) (es : List (ℕ × ℕ)) → AreRanges lo es → range_past o es ≡ None → o ≤ i → among i (listed es) ≡ false
unfolding listed AreRanges among range_past
listed_beyond lo o i [] ranges found low = refl
listed_beyond lo o i (x ∷ xs) ranges found low = elim (cases_lt o x.0) [
  | inl less ↦ absurd (no x (sym (past_here o x xs less) ∙ found))
  | inr more ↦
      let some : x.1 < x.0 = ranges.1 in
      among_above i x.1 (x.0 - x.1) (listed xs) (omega arith) ∙ listed_beyond x.0 o i xs ranges.2 (sym (past_later o x xs more) ∙ found) low
]
  where
    no : (x : ℕ × ℕ) → (let p : Option (ℕ × ℕ) = Some x in p) ≡ None → ⊥
    no x q = cc

-- ---- what is kept, step by step

-- bytes whose offsets were read change nothing
pub skip_step : (o n : ℕ) (bs : List ℕ) (a : Assembly) → n ≤ length bs → AllRead true o n a → inserted o bs a ≡ inserted (o + n) (drop n bs) a
skip_step o n bs a fits all =
    let long : length (take n bs) ≡ n = length-take-le n bs fits in
    inserted_split o n bs a fits
    ∙ ap (λ (w : Assembly). inserted (o + n) (drop n bs) w) (inserted_read o (take n bs) a (λ i low high. all i low (omega arith)))

-- bytes whose offsets weren't read are added to those that came
pub fill_step : (o n read : ℕ) (ranges : List (ℕ × ℕ)) (bs : List ℕ) (old new : List (ℕ × List ℕ)) → n ≤ length bs
    → AllRead false o n (assembled read ranges old) → flat new ≡ add o (take n bs) (flat old)
    → inserted o bs (assembled read ranges old) ≡ inserted (o + n) (drop n bs) (assembled read ranges new)
unfolding assembled
fill_step o n read ranges bs old new fits none came =
    let long : length (take n bs) ≡ n = length-take-le n bs fits in
    inserted_split o n bs (assembled read ranges old) fits
    ∙ ap (λ (w : Assembly). inserted (o + n) (drop n bs) w)
    (inserted_unread o (take n bs) (assembled read ranges old) (λ i low high. none i low (omega arith))
    ∙ ap (λ (w : List (ℕ × ℕ)). (let x : Assembly = record { read = read; ahead = listed ranges; came = w } in x)) (sym came))

pub read_below : (o n read : ℕ) (ranges : List (ℕ × ℕ)) (parts : List (ℕ × List ℕ)) → o + n ≤ read → AllRead true o n (assembled read ranges parts)
unfolding assembled was_read
read_below o n read ranges parts fits i low high = or_left (nat_lt i read) (among i (listed ranges)) (lt-ltb i read (omega arith))

pub read_inside : (o n read : ℕ) (e : ℕ × ℕ) (ranges : List (ℕ × ℕ)) (parts : List (ℕ × List ℕ)) → AreRanges 0 ranges → range_past o ranges ≡ Some e
    → e.1 ≤ o → o + n ≤ e.0 → AllRead true o n (assembled read ranges parts)
unfolding assembled was_read
read_inside o n read e ranges parts kept found from fits i low high =
    or_right (nat_lt i read) (among i (listed ranges)) (listed_inside 0 o i e ranges kept found (omega arith) low (omega arith))

pub unread_before : (o n read : ℕ) (e : ℕ × ℕ) (ranges : List (ℕ × ℕ)) (parts : List (ℕ × List ℕ)) → AreRanges 0 ranges → range_past o ranges ≡ Some e
    → read ≤ o → o + n ≤ e.1 → AllRead false o n (assembled read ranges parts)
unfolding assembled was_read
unread_before o n read e ranges parts kept found from fits i low high =
    or_from (nat_lt i read) (among i (listed ranges)) (le-ltb i read (omega arith)) (listed_outside 0 o i e ranges kept found low (omega arith))

pub unread_beyond : (o n read : ℕ) (ranges : List (ℕ × ℕ)) (parts : List (ℕ × List ℕ)) → AreRanges 0 ranges → range_past o ranges ≡ None
    → read ≤ o → AllRead false o n (assembled read ranges parts)
unfolding assembled was_read
unread_beyond o n read ranges parts kept found from i low high =
    or_from (nat_lt i read) (among i (listed ranges)) (le-ltb i read (omega arith)) (listed_beyond 0 o i ranges kept found low)
