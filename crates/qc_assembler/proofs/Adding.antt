-- Bytes that are added to those that came
use Rattle.std.proofs.Common.{◌≡◌, ◌∙◌, ap, sym, ℕ, ◌+◌, ◌<◌, ◌≤◌, suc, zero, inl, inr, List, [], ◌∷◌, ◌++◌, length, take, drop, arith, refl}
use Rattle.std.proofs.lemmas.Bool.{cases_order, lt-ltb, le-ltb, eq-eqb, ne_eqb}
use Rattle.qc_assembler.specs.Assembly.{run, put, add}

-- the first byte is at lo or above
abbrev pub Beyond : ℕ → List (ℕ × ℕ) → Type 0
Beyond lo [] = Unit {0}
Beyond lo (x ∷ xs) = lo ≤ x.0

put_front : (o b : ℕ) (v : List (ℕ × ℕ)) → Beyond (suc o) v → put o b v ≡ (o, b) ∷ v
unfolding put
put_front o b [] far = refl
put_front o b (x ∷ xs) far = rw (lt-ltb o x.0 far) refl

put_behind : (o b : ℕ) (x : ℕ × ℕ) (v : List (ℕ × ℕ)) → x.0 < o → put o b (x ∷ v) ≡ x ∷ put o b v
unfolding put
put_behind o b x v less = rw (le-ltb o x.0 (omega arith), ne_eqb o x.0 (λ e. omega arith)) refl

put_same : (o b : ℕ) (x : ℕ × ℕ) (v : List (ℕ × ℕ)) → x.0 ≡ o → put o b (x ∷ v) ≡ x ∷ v
unfolding put
put_same o b x v e = rw (le-ltb o x.0 (omega arith), eq-eqb o x.0 (sym e)) refl

pub add_behind : (o : ℕ) (bs : List ℕ) (x : ℕ × ℕ) (v : List (ℕ × ℕ)) → x.0 < o → add o bs (x ∷ v) ≡ x ∷ add o bs v
unfolding add
add_behind o [] x v less = refl
add_behind o (b ∷ bs) x v less = ap (λ w. add (suc o) bs w) (put_behind o b x v less) ∙ add_behind (suc o) bs x (put o b v) (omega arith)

pub add_past_run : (s o : ℕ) (p bs : List ℕ) (rest : List (ℕ × ℕ)) → s + length p ≤ o → add o bs (run s p ++ rest) ≡ run s p ++ add o bs rest
unfolding run
add_past_run s o [] bs rest fits = refl
add_past_run s o (q ∷ p) bs rest fits =
    add_behind o bs (s, q) (run (suc s) p ++ rest) (omega arith) ∙ ap (λ w. (s, q) ∷ w) (add_past_run (suc s) o p bs rest (omega arith))

pub add_front : (o : ℕ) (bs : List ℕ) (v : List (ℕ × ℕ)) → Beyond (o + length bs) v → add o bs v ≡ run o bs ++ v
unfolding add run
add_front o [] v far = refl
add_front o (b ∷ bs) v far =
    ap (λ w. add (suc o) bs w) (put_front o b v (nearer o (length bs) v far)) ∙ add_behind (suc o) bs (o, b) v (omega arith)
    ∙ ap (λ w. (o, b) ∷ w) (add_front (suc o) bs v (along o (length bs) v far))
  where
    nearer : (o n : ℕ) (v : List (ℕ × ℕ)) → Beyond (o + suc n) v → Beyond (suc o) v
    nearer o n [] far = tt
    nearer o n (x ∷ xs) far = omega arith

    along : (o n : ℕ) (v : List (ℕ × ℕ)) → Beyond (o + suc n) v → Beyond (suc o + n) v
    along o n [] far = tt
    along o n (x ∷ xs) far = omega arith

put_within : (o b s : ℕ) (p : List ℕ) (rest : List (ℕ × ℕ)) → s ≤ o → o < s + length p → put o b (run s p ++ rest) ≡ run s p ++ rest
unfolding run
put_within o b s [] rest low high = absurd (omega arith)
put_within o b s (q ∷ p) rest low high = elim (cases_order s o) [
  | inl e ↦ put_same o b (s, q) (run (suc s) p ++ rest) e
  | inr (inl less) ↦ put_behind o b (s, q) (run (suc s) p ++ rest) less ∙ ap (λ w. (s, q) ∷ w) (put_within o b (suc s) p rest (omega arith) (omega arith))
  | inr (inr more) ↦ absurd (omega arith)
]

-- bytes that a part has already change nothing
pub add_within : (o s n : ℕ) (bs p : List ℕ) (rest : List (ℕ × ℕ)) → s ≤ o → o + n ≤ s + length p → n ≤ length bs
    → add o bs (run s p ++ rest) ≡ add (o + n) (drop n bs) (run s p ++ rest)
unfolding add
add_within o s zero bs p rest low high fits = let e : o ≡ o + 0 = omega arith in ap (λ i. add i bs (run s p ++ rest)) e
add_within o s (suc n) [] p rest low high fits = absurd (omega arith)
add_within o s (suc n) (b ∷ bs) p rest low high fits =
    let e : suc o + n ≡ o + suc n = omega arith in
    ap (λ w. add (suc o) bs w) (put_within o b s p rest low (omega arith)) ∙ add_within (suc o) s n bs p rest (omega arith) (omega arith) (omega arith)
    ∙ ap (λ i. add i (drop n bs) (run s p ++ rest)) e

pub add_split : (o n : ℕ) (bs : List ℕ) (v : List (ℕ × ℕ)) → n ≤ length bs → add o bs v ≡ add (o + n) (drop n bs) (add o (take n bs) v)
unfolding add
add_split o zero bs v fits = let e : o ≡ o + 0 = omega arith in ap (λ i. add i bs v) e
add_split o (suc n) [] v fits = absurd (omega arith)
add_split o (suc n) (b ∷ bs) v fits =
    let e : suc o + n ≡ o + suc n = omega arith in
    add_split (suc o) n bs (put o b v) (omega arith) ∙ ap (λ i. add i (drop n bs) (add (suc o) (take n bs) (put o b v))) e

pub add_none : (o : ℕ) (bs : List ℕ) (v : List (ℕ × ℕ)) → length bs ≡ 0 → add o bs v ≡ v
unfolding add
add_none o [] v none = refl
add_none o (b ∷ bs) v none = absurd (omega arith)
