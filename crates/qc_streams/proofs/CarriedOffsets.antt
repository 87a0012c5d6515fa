-- The bytes that came, each at its offset: which byte there is at an offset, and how often
use Rattle.std.proofs.Common.{◌≡◌, ◌∙◌, ℕ, zero, suc, ◌+◌, ◌<◌, ◌≤◌, ◌==◌, Bool, true, false, cond, ◌||◌, nat_lt, List, [], ◌∷◌, ◌++◌, length, Option, None, Some, inl, inr, ap, sym, refl, arith}
use Rattle.std.specs.List.{All}
use Rattle.std.specs.Map.{lookup}
use Rattle.std.specs.Option.{unwrap_or}
use Rattle.std.proofs.lemmas.Bool.{cases_eq, cases_order, eq-eqb, le-ltb, lt-ltb, ne_eqb}
use Rattle.std.proofs.lemmas.Bool.Decides.{nat_tests}
use Rattle.std.proofs.lemmas.List.Elements.{All-cons, All-nil}
use Rattle.std.proofs.lemmas.List.Sums.{sum_by-cons}
use Rattle.qc_assembler.specs.Assembly.{Assembly, add, advanced, among, note, noted, put, run, taken, was_read}
use Rattle.qc_streams.specs.Carried.{times}

-- the byte at an offset, the first where there are more
abbrev pub value_at : ℕ → List (ℕ × ℕ) → Option ℕ
value_at i v = lookup (λ k. k == i) v

-- every byte of a list is the one at its offset
abbrev pub AreFound : List (ℕ × ℕ) → List (ℕ × ℕ) → Type 0
AreFound all bytes = All (λ e. value_at e.0 all ≡ Some e.1) bytes

-- ---- offsets that ascend

-- they do, from lo on
unfoldable pub Ascends : ℕ → List (ℕ × ℕ) → Type 0
Ascends lo [] = Unit {0}
Ascends lo (x ∷ v) = (lo ≤ x.0) × Ascends (suc x.0) v

pub ascends_none : (lo : ℕ) → Ascends lo []
unfolding Ascends
ascends_none lo = tt

pub ascends_put : (lo o b : ℕ) (v : List (ℕ × ℕ)) → lo ≤ o → Ascends lo v → Ascends lo (put o b v)
unfolding Ascends put
ascends_put lo o b [] low h = (low, tt)
ascends_put lo o b (x ∷ v) low h = elim (cases_order o x.0) [
  | inl e ↦ rw (le-ltb o x.0 (omega arith), eq-eqb o x.0 e) h
  | inr (inl less) ↦ rw (lt-ltb o x.0 less) (low, (less, h.1))
  | inr (inr more) ↦
      rw (le-ltb o x.0 (omega arith), ne_eqb o x.0 (λ e. omega arith)) (h.0, ascends_put (suc x.0) o b v (omega arith) h.1)
]

pub ascends_add : (lo o : ℕ) (bs : List ℕ) (v : List (ℕ × ℕ)) → lo ≤ o → Ascends lo v → Ascends lo (add o bs v)
unfolding add
ascends_add lo o [] v low h = h
ascends_add lo o (b ∷ bs) v low h = ascends_add lo (suc o) bs (put o b v) (omega (arith, low)) (ascends_put lo o b v low h)

ascends_more : (lo hi : ℕ) (v : List (ℕ × ℕ)) → lo ≤ hi → Ascends hi v → Ascends lo v
unfolding Ascends
ascends_more lo hi [] more h = tt
ascends_more lo hi (x ∷ v) more h = let low : hi ≤ x.0 = h.0 in (omega (arith, more, low), h.1)

-- so do those behind a row
pub ascends_rest : (lo o : ℕ) (bs : List ℕ) (w : List (ℕ × ℕ)) → Ascends lo (run o bs ++ w) → Ascends 0 w
unfolding Ascends run
ascends_rest lo o [] w h = ascends_more 0 lo w (omega arith) h
ascends_rest lo o (b ∷ bs) w h = ascends_rest (suc o) (suc o) bs w h.1

-- there is none below the first
none_below : (lo i : ℕ) (v : List (ℕ × ℕ)) → i < lo → Ascends lo v → value_at i v ≡ None
unfolding Ascends
none_below lo i [] less h = refl
none_below lo i (x ∷ v) less h =
    let low : lo ≤ x.0 = h.0 in
    rw (ne_eqb x.0 i (λ e. omega (arith, e, low, less))) (none_below (suc x.0) i v (omega (arith, low, less)) h.1)

-- ---- a byte that comes

-- one that came there before stays
pub value_put : (lo o b : ℕ) (v : List (ℕ × ℕ)) → Ascends lo v → value_at o (put o b v) ≡ Some (unwrap_or (value_at o v) b)
unfolding Ascends put
value_put lo o b [] h = rw (eq-eqb o o refl) refl
value_put lo o b (x ∷ v) h = elim (cases_order o x.0) [
  | inl e ↦ rw (le-ltb o x.0 (omega arith), eq-eqb o x.0 e, eq-eqb x.0 o (sym e)) refl
  | inr (inl less) ↦ rw (lt-ltb o x.0 less, eq-eqb o o refl, ne_eqb x.0 o (λ e. omega arith), none_below (suc x.0) o v (omega arith) h.1) refl
  | inr (inr more) ↦
      rw (le-ltb o x.0 (omega arith), ne_eqb o x.0 (λ e. omega arith), ne_eqb x.0 o (λ e. omega arith)) (value_put (suc x.0) o b v h.1)
]

-- and so do those at other offsets
pub value_other : (o b i : ℕ) (v : List (ℕ × ℕ)) → (o ≡ i → ⊥) → value_at i (put o b v) ≡ value_at i v
unfolding put
value_other o b i [] other = rw (ne_eqb o i other) refl
value_other o b i (x ∷ v) other = by (nat_lt o x.0) (o == x.0) (value_other o b i v other)
  where
    by : (c d : Bool) → value_at i (put o b v) ≡ value_at i v → value_at i (cond c ((o, b) ∷ x ∷ v) (cond d (x ∷ v) (x ∷ put o b v))) ≡ value_at i (x ∷ v)
    by true d then = rw (ne_eqb o i other) refl
    by false true then = refl
    by false false then = ap (λ (p : Option ℕ). cond (x.0 == i) (Some x.1) p) then

value_kept : (lo o b i c : ℕ) (v : List (ℕ × ℕ)) → Ascends lo v → value_at i v ≡ Some c → value_at i (put o b v) ≡ Some c
value_kept lo o b i c v h is = elim (cases_eq i o) [
  | inl e ↦ here e
  | inr other ↦ value_other o b i v (λ e. other (sym e)) ∙ is
]
  where
    here : i ≡ o → value_at i (put o b v) ≡ Some c
    here e =
        ap (λ (j : ℕ). value_at j (put o b v)) e ∙ value_put lo o b v h ∙ ap (λ (j : ℕ). let p : Option ℕ = Some (unwrap_or (value_at j v) b) in p) (sym e)
        ∙ ap (λ (q : Option ℕ). let p : Option ℕ = Some (unwrap_or q b) in p) is

value_added : (lo o i c : ℕ) (bs : List ℕ) (v : List (ℕ × ℕ)) → lo ≤ o → Ascends lo v → value_at i v ≡ Some c → value_at i (add o bs v) ≡ Some c
unfolding add
value_added lo o i c [] v low h is = is
value_added lo o i c (b ∷ bs) v low h is =
    value_added lo (suc o) i c bs (put o b v) (omega (arith, low)) (ascends_put lo o b v low h) (value_kept lo o b i c v h is)

-- what was found stays so where bytes come
pub found_added : (o : ℕ) (bs : List ℕ) (all bytes : List (ℕ × ℕ)) → Ascends 0 all → AreFound all bytes → AreFound (add o bs all) bytes
found_added o bs all bytes h found = λ k d less. value_added 0 o _ _ bs all (omega arith) h (found k d less)

-- ---- bytes in a row

-- whether an offset is one of n in a row, the first at o
unfoldable pub within : ℕ → ℕ → ℕ → Bool
within o zero i = false
within o (suc n) i = o == i || within (suc o) n i

within_below : (o n i : ℕ) → i < o → within o n i ≡ false
unfolding within
within_below o zero i less = refl
within_below o (suc n) i less = rw (ne_eqb o i (λ e. omega arith)) (within_below (suc o) n i (omega arith))

-- each of them is there once
pub times_run : (o i : ℕ) (bs : List ℕ) → times i (run o bs) ≡ cond (within o (length bs) i) 1 0
unfolding run within
times_run o i [] = refl
times_run o i (b ∷ bs) =
    sum_by-cons (λ (e : ℕ × ℕ). cond (e.0 == i) 1 0) (o, b) (run (suc o) bs) ∙ by (o == i) refl (times_run (suc o) i bs)
  where
    by : (t : Bool) → (o == i) ≡ t → times i (run (suc o) bs) ≡ cond (within (suc o) (length bs) i) 1 0
        → cond t 1 0 + times i (run (suc o) bs) ≡ cond (t || within (suc o) (length bs) i) 1 0
    by true e then =
        let same : o ≡ i = grind (arith, nat_tests) in
        let none : times i (run (suc o) bs) ≡ 0 = then ∙ ap (λ (c : Bool). cond c 1 0) (within_below (suc o) (length bs) i (omega (arith, same))) in
        omega (arith, none)
    by false e then = let same : 0 + times i (run (suc o) bs) ≡ times i (run (suc o) bs) = omega arith in same ∙ then

none_either : (t : Bool) (p : Option ℕ) → p ≡ None → cond t None p ≡ None
none_either true p is = refl
none_either false p is = is

-- what is behind them is what there is beside them
pub value_rest : (lo o i : ℕ) (bs : List ℕ) (w : List (ℕ × ℕ)) → Ascends lo (run o bs ++ w)
    → value_at i w ≡ cond (within o (length bs) i) None (value_at i (run o bs ++ w))
unfolding Ascends run within
value_rest lo o i [] w h = refl
value_rest lo o i (b ∷ bs) w h = by (o == i) refl (value_rest (suc o) (suc o) i bs w h.1)
  where
    by : (t : Bool) → (o == i) ≡ t → value_at i w ≡ cond (within (suc o) (length bs) i) None (value_at i (run (suc o) bs ++ w))
        → value_at i w ≡ cond (t || within (suc o) (length bs) i) None (cond t (Some b) (value_at i (run (suc o) bs ++ w)))
    by true e then =
        let same : o ≡ i = grind (arith, nat_tests) in
        then ∙ none_either (within (suc o) (length bs) i) _ (none_below (suc o) i (run (suc o) bs ++ w) (omega (arith, same)) h.1)
    by false e then = then

-- there is one at each of their offsets
pub value_within : (o i : ℕ) (bs : List ℕ) (w : List (ℕ × ℕ)) → within o (length bs) i ≡ true → value_at i (run o bs ++ w) ≡ None → ⊥
unfolding run within
value_within o i [] w is none = cc
value_within o i (b ∷ bs) w is none = by (o == i) is none (value_within (suc o) i bs w)
  where
    by : (t : Bool) → (t || within (suc o) (length bs) i) ≡ true → cond t (Some b) (value_at i (run (suc o) bs ++ w)) ≡ None
        → (within (suc o) (length bs) i ≡ true → value_at i (run (suc o) bs ++ w) ≡ None → ⊥) → ⊥
    by true is none more = cc
    by false is none more = more is none

-- they are found where all that are in front of a rest are
pub found_run : (o : ℕ) (bs : List ℕ) (w all : List (ℕ × ℕ)) → ((i c : ℕ) → o ≤ i → value_at i (run o bs ++ w) ≡ Some c → value_at i all ≡ Some c)
    → AreFound all (run o bs)
unfolding run
found_run o [] w all keep = All-nil (λ (e : ℕ × ℕ). value_at e.0 all ≡ Some e.1)
found_run o (b ∷ bs) w all keep =
    All-cons (λ (e : ℕ × ℕ). value_at e.0 all ≡ Some e.1) (o, b) (run (suc o) bs)
    (keep o b (omega arith) (rw (eq-eqb o o refl) refl))
    (found_run (suc o) bs w all (λ i c low is. keep i c (omega (arith, low)) (rw (ne_eqb o i (λ e. omega (arith, e, low))) is)))

-- ---- offsets that are read

or_none : (a : Bool) → a ≡ (a || false)
or_none true = refl
or_none false = refl

or_swap : (a b : Bool) → (a || b) ≡ (b || a)
or_swap true true = refl
or_swap true false = refl
or_swap false true = refl
or_swap false false = refl

or_both : (a b c : Bool) → ((a || b) || c) ≡ (a || (b || c))
or_both true b c = refl
or_both false b c = refl

or_turn : (a b c : Bool) → ((a || c) || b) ≡ ((a || b) || c)
or_turn true b c = refl
or_turn false b c = or_swap c b

or_again : (a b : Bool) → (a || b) ≡ ((a || b) || a)
or_again true b = refl
or_again false b = or_none b

same_back : (i o : ℕ) → (i == o) ≡ (o == i)
same_back i o = elim (cases_eq i o) [
  | inl e ↦ rw (eq-eqb i o e, eq-eqb o i (sym e)) refl
  | inr other ↦ rw (ne_eqb i o other, ne_eqb o i (λ e. other (sym e))) refl
]

among_note : (i o : ℕ) (l : List ℕ) → among i (note o l) ≡ (among i l || o == i)
unfolding among note
among_note i o [] = sym (or_none (i == o)) ∙ same_back i o
among_note i o (x ∷ l) = elim (cases_order o x) [
  | inl e ↦ rw (le-ltb o x (omega arith), eq-eqb o x e) (
      or_again (i == x) (among i l)
      ∙ ap (λ (t : Bool). (i == x || among i l) || t) (sym (ap (λ (k : ℕ). k == i) e ∙ same_back x i)))
  | inr (inl less) ↦ rw (lt-ltb o x less) (
      ap (λ (t : Bool). t || (i == x || among i l)) (same_back i o) ∙ or_swap (o == i) (i == x || among i l))
  | inr (inr more) ↦ rw (le-ltb o x (omega arith), ne_eqb o x (λ e. omega arith)) (
      ap (λ (t : Bool). i == x || t) (among_note i o l) ∙ sym (or_both (i == x) (among i l) (o == i)))
]

among_noted : (i o n : ℕ) (l : List ℕ) → among i (noted o n l) ≡ (among i l || within o n i)
unfolding noted within
among_noted i o zero l = or_none (among i l)
among_noted i o (suc n) l =
    among_noted i (suc o) n (note o l) ∙ ap (λ (t : Bool). t || within (suc o) n i) (among_note i o l)
    ∙ or_both (among i l) (o == i) (within (suc o) n i)

below_next : (i r : ℕ) → nat_lt i (suc r) ≡ (nat_lt i r || r == i)
below_next i r = elim (cases_order i r) [
  | inl e ↦ rw (lt-ltb i (suc r) (omega arith), le-ltb i r (omega arith), eq-eqb r i (sym e)) refl
  | inr (inl less) ↦ rw (lt-ltb i (suc r) (omega arith), lt-ltb i r less) refl
  | inr (inr more) ↦ rw (le-ltb i (suc r) more, le-ltb i r (omega arith), ne_eqb r i (λ e. omega arith)) refl
]

below_more : (i r n : ℕ) → nat_lt i (r + n) ≡ (nat_lt i r || within r n i)
unfolding within
below_more i r zero = let same : r + 0 ≡ r = omega arith in ap (λ (k : ℕ). nat_lt i k) same ∙ or_none (nat_lt i r)
below_more i r (suc n) =
    let same : r + suc n ≡ suc r + n = omega arith in
    ap (λ (k : ℕ). nat_lt i k) same ∙ below_more i (suc r) n ∙ ap (λ (t : Bool). t || within (suc r) n i) (below_next i r)
    ∙ or_both (nat_lt i r) (r == i) (within (suc r) n i)

-- a read in order makes the next offsets read
pub read_advanced : (i n : ℕ) (a : Assembly) → was_read i (advanced n a) ≡ (was_read i a || within a.read n i)
unfolding was_read advanced
read_advanced i n a =
    ap (λ (t : Bool). t || among i a.ahead) (below_more i a.read n) ∙ or_turn (nat_lt i a.read) (among i a.ahead) (within a.read n i)

-- and one out of order those that it gives
pub read_taken : (i o n : ℕ) (a : Assembly) → was_read i (taken o n a) ≡ (was_read i a || within o n i)
unfolding was_read taken
read_taken i o n a =
    ap (λ (t : Bool). nat_lt i a.read || t) (among_noted i o n a.ahead) ∙ sym (or_both (nat_lt i a.read) (among i a.ahead) (within o n i))
