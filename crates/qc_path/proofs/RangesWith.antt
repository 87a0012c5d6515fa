-- Normal ranges are told by their numbers, so that adding a number and cutting numbers off are functions.
use Rattle.std.proofs.Common.{◌≡◌, ℕ, ◌+◌, ◌<◌, ◌≤◌, ◌⊎◌, ◌↔◌, inl, inr, List, [], ◌∷◌, length, ◌-◌, Bool, true, false, nat_lt, nat_le, ◌==◌, if◌then◌else◌, refl, sym, ap, ◌∙◌, subst, arith}
use Rattle.std.proofs.lemmas.Bool.{cases_lt}
use Rattle.std.proofs.lemmas.Bool.Decides.{nat_tests}
use Rattle.qc_base.specs.declared.range_set.NumberRange.{NumberRange}
use Rattle.qc_base.specs.RangeSet.{Member, Above, Normal, Adds, KeepsFrom, latest}
use Rattle.qc_base.proofs.RangeLaws.{normal_drop}
use Rattle.qc_base.proofs.AddedRanges.{Added, beyond, later, joins, raises, inside, lowers, before, adds, member_beyond}
use Rattle.qc_path.specs.AckRanges.{raised_to, with_number, from_number}
use Rattle.qc_path.specs.Acks.{TakesIn}

first_least : (r : NumberRange) (rs : List NumberRange) (k : ℕ) → Normal (r ∷ rs) → Member k (r ∷ rs) → r.first ≤ k
first_least r rs k h (inl m) = m.0
first_least r rs k h (inr m) = let far : r.last + 1 < k = member_beyond r.last k rs h.1 h.2 m in omega (arith, h.0)

-- a range that begins as another one and whose numbers are all in the other list reaches no further
reach_by : (r q : NumberRange) (rs qs : List NumberRange) → r.first ≡ q.first → Normal (r ∷ rs) → Normal (q ∷ qs) → q.last < r.last → Member (q.last + 1) (q ∷ qs) → ⊥
reach_by r q rs qs e h k far (inl m) = omega (arith, m.1)
reach_by r q rs qs e h k far (inr m) = let past : q.last + 1 < q.last + 1 = member_beyond q.last (q.last + 1) qs k.1 k.2 m in omega (arith, past)

reach : (r q : NumberRange) (rs qs : List NumberRange) → r.first ≡ q.first → Normal (r ∷ rs) → Normal (q ∷ qs) → ((k : ℕ) → Member k (r ∷ rs) → Member k (q ∷ qs)) → r.last ≤ q.last
reach r q rs qs e h k s = reach_cases (cases_lt q.last r.last)
  where
    reach_cases : (q.last < r.last) ⊎ (r.last ≤ q.last) → r.last ≤ q.last
    reach_cases (inl far) = absurd (reach_by r q rs qs e h k far (s (q.last + 1) (inl (omega (arith, e, k.0), omega arith))))
    reach_cases (inr near) = near

tail_in : (r : NumberRange) (rs qs : List NumberRange) (n : ℕ) → Normal (r ∷ rs) → Member n rs → Member n (r ∷ qs) → Member n qs
tail_in r rs qs n h m (inl here) = let far : r.last + 1 < n = member_beyond r.last n rs h.1 h.2 m in absurd (omega (arith, here.1))
tail_in r rs qs n h m (inr there) = there

-- normal ranges with the same numbers are the same
pub one_normal : (a b : List NumberRange) → Normal a → Normal b → ((k : ℕ) → Member k a ↔ Member k b) → a ≡ b
one_normal [] [] h k s = refl
one_normal [] (q ∷ qs) h k s = absurd ((s q.first).1 (inl (omega arith, k.0)))
one_normal (r ∷ rs) [] h k s = absurd ((s r.first).0 (inl (omega arith, h.0)))
one_normal (r ∷ rs) (q ∷ qs) h k s =
    let low : q.first ≤ r.first = first_least q qs r.first k ((s r.first).0 (inl (omega arith, h.0))) in
    let high : r.first ≤ q.first = first_least r rs q.first h ((s q.first).1 (inl (omega arith, k.0))) in
    let first : r.first ≡ q.first = omega arith in
    let there : r.last ≤ q.last = reach r q rs qs first h k (λ n. (s n).0) in
    let back : q.last ≤ r.last = reach q r qs rs (sym first) k h (λ n. (s n).1) in
    let last : r.last ≡ q.last = omega arith in
    let head : r ≡ q = λ i. record { first = first i; last = last i } in
    let s' : (n : ℕ) → Member n (r ∷ rs) ↔ Member n (r ∷ qs) = subst (λ (x : NumberRange). (n : ℕ) → Member n (r ∷ rs) ↔ Member n (x ∷ qs)) (sym head) s in
    let k' : Normal (r ∷ qs) = subst (λ (x : NumberRange). Normal (x ∷ qs)) (sym head) k in
    let rest : rs ≡ qs = one_normal rs qs h.2 k'.2 (λ n. ((λ m. tail_in r rs qs n h m ((s' n).0 (inr m))), (λ m. tail_in r qs rs n k' m ((s' n).1 (inr m))))) in
    λ i. head i ∷ rest i

-- ---- one number more

raised_added : (n : ℕ) (r : NumberRange) (rs : List NumberRange) (b : Bool) → Normal (r ∷ rs) → n ≡ r.last + 1 → Added n (r ∷ rs) (raised_to n r rs) true
raised_added n r [] b h e = raises r [] e tt
raised_added n r (q ∷ qs) b h e = raised_by (q.first == n + 1) refl
  where
    raised_by : (t : Bool) → (q.first == n + 1) ≡ t → Added n (r ∷ q ∷ qs) (if t then record { first = r.first; last = q.last } ∷ qs else record { first = r.first; last = n } ∷ q ∷ qs) true
    raised_by true is = joins r q qs e (grind (arith, nat_tests))
    raised_by false is = let far : n + 1 < q.first = grind (arith, nat_tests) in raises r (q ∷ qs) e far

record AddedSome (n : ℕ) (old new : List NumberRange) : Type 0 where
  fresh : Bool
  added : Added n old new fresh

with_added : (n : ℕ) (old : List NumberRange) → Normal old → AddedSome n old (with_number n old)
with_added n [] h = record { fresh = true; added = beyond }
with_added n (r ∷ rs) h = by_order (with_added n rs h.2) (nat_lt (r.last + 1) n) (n == r.last + 1) (nat_le r.first n) (n + 1 == r.first) refl refl refl refl
  where
    by_order : AddedSome n rs (with_number n rs) → (a b c d : Bool) → nat_lt (r.last + 1) n ≡ a → (n == r.last + 1) ≡ b → nat_le r.first n ≡ c → (n + 1 == r.first) ≡ d →
        AddedSome n (r ∷ rs) (if a then r ∷ with_number n rs else if b then raised_to n r rs else if c then r ∷ rs else if d then record { first = n; last = r.last } ∷ rs else record { first = n; last = n } ∷ r ∷ rs)
    by_order rest true b c d p q s t = record { fresh = rest.fresh; added = later r rs (with_number n rs) rest.fresh (grind (arith, nat_tests)) rest.added }
    by_order rest false true c d p q s t = record { fresh = true; added = raised_added n r rs true h (grind (arith, nat_tests)) }
    by_order rest false false true d p q s t = record { fresh = false; added = inside r rs (grind (arith, nat_tests)) (grind (arith, nat_tests)) }
    by_order rest false false false true p q s t = record { fresh = true; added = lowers r rs (grind (arith, nat_tests)) }
    by_order rest false false false false p q s t = record { fresh = true; added = before r rs (grind (arith, nat_tests)) }

-- what has the old numbers and n is the list with n
pub adds_is : (n : ℕ) (old all : List NumberRange) → Normal old → Adds n old all → all ≡ with_number n old
adds_is n old all h a =
    let some = with_added n old h in
    let b : Adds n old (with_number n old) = adds n old (with_number n old) some.fresh h some.added in
    one_normal all (with_number n old) a.normal b.normal (λ k. ((λ m. (b.numbers k).1 ((a.numbers k).0 m)), (λ m. (a.numbers k).1 ((b.numbers k).0 m))))

-- ---- without the numbers below one

from_member : (n k : ℕ) (old : List NumberRange) → Normal old → Member k (from_number n old) ↔ (Member k old × (n ≤ k))
from_member n k [] h = ((λ m. absurd m), (λ m. m.0))
from_member n k (r ∷ rs) h = by_place (from_member n k rs h.2) (nat_lt r.last n) (nat_lt r.first n) refl refl
  where
    beyond_last : Member k rs → r.last + 1 < k
    beyond_last m = member_beyond r.last k rs h.1 h.2 m

    lower : (r.last < n) → (Member k rs × (n ≤ k)) ↔ (Member k (r ∷ rs) × (n ≤ k))
    lower below = ((λ m. (inr m.0, m.1)), (λ m. (in_tail m.0 m.1, m.1)))
      where
        in_tail : Member k (r ∷ rs) → n ≤ k → Member k rs
        in_tail (inl here) high = absurd (omega (arith, here.1))
        in_tail (inr there) high = there

    cut : (r.first < n) → (n ≤ r.last) → Member k (record { first = n; last = r.last } ∷ rs) ↔ (Member k (r ∷ rs) × (n ≤ k))
    cut below reaches = (to, from)
      where
        to : Member k (record { first = n; last = r.last } ∷ rs) → Member k (r ∷ rs) × (n ≤ k)
        to (inl here) = (inl (omega (arith, here.0), here.1), here.0)
        to (inr there) = (inr there, omega (arith, beyond_last there))

        from : Member k (r ∷ rs) × (n ≤ k) → Member k (record { first = n; last = r.last } ∷ rs)
        from m = split m.0 m.1
          where
            split : Member k (r ∷ rs) → n ≤ k → Member k (record { first = n; last = r.last } ∷ rs)
            split (inl here) high = inl (high, here.1)
            split (inr there) high = inr there

    whole : (n ≤ r.first) → Member k (r ∷ rs) ↔ (Member k (r ∷ rs) × (n ≤ k))
    whole high = ((λ m. (m, omega (arith, first_least r rs k h m))), (λ m. m.0))

    by_place : (Member k (from_number n rs) ↔ (Member k rs × (n ≤ k))) → (a b : Bool) → nat_lt r.last n ≡ a → nat_lt r.first n ≡ b → Member k (if a then from_number n rs else if b then record { first = n; last = r.last } ∷ rs else r ∷ rs) ↔ (Member k (r ∷ rs) × (n ≤ k))
    by_place rest true b p q =
        let low = lower (grind (arith, nat_tests)) in
        ((λ m. low.0 (rest.0 m)), (λ m. rest.1 (low.1 m)))
    by_place rest false true p q = cut (grind (arith, nat_tests)) (grind (arith, nat_tests))
    by_place rest false false p q = whole (grind (arith, nat_tests))

from_above : (n m : ℕ) (old : List NumberRange) → Above m old → Normal old → Above m (from_number n old)
from_above n m [] a h = tt
from_above n m (r ∷ rs) a h = by_place (λ b. from_above n m rs b h.2) (nat_lt r.last n) (nat_lt r.first n) refl refl
  where
    farther : Above m rs
    farther = far rs h.1 h.2
      where
        far : (qs : List NumberRange) → Above r.last qs → Normal qs → Above m qs
        far [] b k = tt
        far (q ∷ qs) b k = omega (arith, a, h.0, b)

    by_place : (Above m rs → Above m (from_number n rs)) → (x y : Bool) → nat_lt r.last n ≡ x → nat_lt r.first n ≡ y → Above m (if x then from_number n rs else if y then record { first = n; last = r.last } ∷ rs else r ∷ rs)
    by_place rest true y p q = rest farther
    by_place rest false true p q = let up : r.first < n = grind (arith, nat_tests) in omega (arith, a)
    by_place rest false false p q = a

from_normal : (n : ℕ) (old : List NumberRange) → Normal old → Normal (from_number n old)
from_normal n [] h = tt
from_normal n (r ∷ rs) h = by_place (from_normal n rs h.2) (nat_lt r.last n) (nat_lt r.first n) refl refl
  where
    by_place : Normal (from_number n rs) → (x y : Bool) → nat_lt r.last n ≡ x → nat_lt r.first n ≡ y → Normal (if x then from_number n rs else if y then record { first = n; last = r.last } ∷ rs else r ∷ rs)
    by_place rest true y p q = rest
    by_place rest false true p q = (grind (arith, nat_tests), h.1, h.2)
    by_place rest false false p q = h

-- what has the old numbers from n on is the list without those below it
pub keeps_is : (n : ℕ) (old rest : List NumberRange) → Normal old → KeepsFrom n old rest → rest ≡ from_number n old
keeps_is n old rest h a = one_normal rest (from_number n old) a.normal (from_normal n old h) (λ k. let f = from_member n k old h in ((λ m. f.1 ((a.numbers k).0 m)), (λ m. (a.numbers k).1 (f.0 m))))

-- a set's call that adds a number, as an equation
pub insertion_is : (n : ℕ) (old new all : List NumberRange) → Normal old → Adds n old all → new ≡ latest all → new ≡ latest (with_number n old)
insertion_is n old new all h a e = e ∙ ap (λ (x : List NumberRange). latest x) (adds_is n old all h a)

-- what it leaves is normal
pub latest_normal : (n : ℕ) (old new all : List NumberRange) → Adds n old all → new ≡ latest all → Normal new
latest_normal n old new all a e = subst Normal (sym e) (normal_drop (length all - 64) all a.normal)

-- ---- what the functions mean

pub with_takes_in : (n : ℕ) (old : List NumberRange) → Normal old → TakesIn n old (latest (with_number n old))
with_takes_in n old h = let some = with_added n old h in record { all = with_number n old; added = adds n old (with_number n old) some.fresh h some.added; kept = refl }

pub from_keeps : (n : ℕ) (old : List NumberRange) → Normal old → KeepsFrom n old (from_number n old)
from_keeps n old h = record { normal = from_normal n old h; numbers = λ k. from_member n k old h }
