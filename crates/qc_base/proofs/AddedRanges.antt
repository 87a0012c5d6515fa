-- How a number is added to a list of ranges, case by case
use Rattle.std.proofs.Common.{◌≡◌, ℕ, ◌+◌, ◌-◌, ◌<◌, ◌≤◌, ◌⊎◌, ◌↔◌, suc, zero, inl, inr, List, [], ◌∷◌, ◌++◌, Bool, true, false, IsTrue, length, get_or, set, take, drop, arith, refl, subst, append_assoc}
use Rattle.std.proofs.Math.Seq.{drop-cons, take-suc-set, drop-length}
use Rattle.std.proofs.lemmas.List.{set_split, take-append-drop, drop-set-lt}
use Rattle.std.proofs.lemmas.Bool.{cases_order}
use Rattle.std.specs.List.{insert, remove}
use Rattle.qc_base.specs.declared.range_set.NumberRange.{NumberRange}
use Rattle.qc_base.specs.RangeSet.{Member, Above, Normal, Adds, latest}

-- the ranges old with n added are new, and n is new to them or not
pub data Added (n : ℕ) : List NumberRange → List NumberRange → Bool → Type 0 where
  -- above all of them
  beyond : Added n [] (record { first = n; last = n } ∷ []) true
  -- above a range and its neighbours
  later : (range : NumberRange) (old new : List NumberRange) (is_new : Bool) → range.last + 1 < n → Added n old new is_new → Added n (range ∷ old) (range ∷ new) is_new
  -- between two ranges that become one
  joins : (range next : NumberRange) (old : List NumberRange) → n ≡ range.last + 1 → next.first ≡ n + 1 → Added n (range ∷ next ∷ old) (record { first = range.first; last = next.last } ∷ old) true
  -- right above a range
  raises : (range : NumberRange) (old : List NumberRange) → n ≡ range.last + 1 → Above n old → Added n (range ∷ old) (record { first = range.first; last = n } ∷ old) true
  -- in a range
  inside : (range : NumberRange) (old : List NumberRange) → range.first ≤ n → n ≤ range.last → Added n (range ∷ old) (range ∷ old) false
  -- right below a range
  lowers : (range : NumberRange) (old : List NumberRange) → n + 1 ≡ range.first → Added n (range ∷ old) (record { first = n; last = range.last } ∷ old) true
  -- below a range and its neighbours
  before : (range : NumberRange) (old : List NumberRange) → n + 1 < range.first → Added n (range ∷ old) (record { first = n; last = n } ∷ range ∷ old) true

-- ---- behind the ranges that lie below n

abbrev pub nowhere : NumberRange
nowhere = record { first = 0; last = 0 }

abbrev pub AllBelow : ℕ → List NumberRange → ℕ → Type 0
AllBelow n ranges place = (k : ℕ) → k < place → (get_or ranges k nowhere).last + 1 < n

pub behind : (n : ℕ) (old : List NumberRange) (place : ℕ) (new : List NumberRange) (is_new : Bool) → place ≤ length old → AllBelow n old place
    → Added n (drop place old) new is_new → Added n old (take place old ++ new) is_new
behind n old zero new is_new fits below added = added
behind n [] (suc place) new is_new fits below added = added
behind n (range ∷ old) (suc place) new is_new fits below added =
    later range old (take place old ++ new) is_new (below 0 (omega arith))
    (behind n old place new is_new (omega arith) (λ k less. below (suc k) (omega arith)) added)

-- ---- the edits

pub added_beyond : (n : ℕ) (old : List NumberRange) (place : ℕ) → place ≡ length old → AllBelow n old place
    → Added n old (insert old place (record { first = n; last = n })) true
added_beyond n old place end below =
    behind n old place (record { first = n; last = n } ∷ drop place old) true (omega arith) below
    (rw (end, drop-length old) beyond)

pub added_before : (n : ℕ) (old : List NumberRange) (place : ℕ) → place < length old → AllBelow n old place → n + 1 < (get_or old place nowhere).first
    → Added n old (insert old place (record { first = n; last = n })) true
added_before n old place fits below gap =
    behind n old place (record { first = n; last = n } ∷ drop place old) true (omega arith) below
    (rw (drop-cons old place nowhere fits) (before (get_or old place nowhere) (drop (suc place) old) gap))

pub added_set : (n : ℕ) (old : List NumberRange) (place : ℕ) (range : NumberRange) → place < length old → AllBelow n old place
    → Added n (get_or old place nowhere ∷ drop (suc place) old) (range ∷ drop (suc place) old) true → Added n old (set old place range) true
added_set n old place range fits below added =
    rw (set_split old place range fits)
    (behind n old place (range ∷ drop (suc place) old) true (omega arith) below (rw (drop-cons old place nowhere fits) added))

pub added_lowers : (n : ℕ) (old : List NumberRange) (place : ℕ) → place < length old → AllBelow n old place → n + 1 ≡ (get_or old place nowhere).first
    → Added n old (set old place (record { first = n; last = (get_or old place nowhere).last })) true
added_lowers n old place fits below touches =
    added_set n old place _ fits below (lowers (get_or old place nowhere) (drop (suc place) old) touches)

pub added_raises : (n : ℕ) (old : List NumberRange) (place : ℕ) → place < length old → AllBelow n old place → n ≡ (get_or old place nowhere).last + 1
    → Above n (drop (suc place) old)
    → Added n old (set old place (record { first = (get_or old place nowhere).first; last = n })) true
added_raises n old place fits below touches above =
    added_set n old place _ fits below (raises (get_or old place nowhere) (drop (suc place) old) touches above)

pub added_inside : (n : ℕ) (old : List NumberRange) (place : ℕ) → place < length old → AllBelow n old place
    → (get_or old place nowhere).first ≤ n → n ≤ (get_or old place nowhere).last → Added n old old false
added_inside n old place fits below low high =
    subst (λ (new : List NumberRange). Added n old new false) (take-append-drop place old)
    (behind n old place (drop place old) false (omega arith) below
    (rw (drop-cons old place nowhere fits) (inside (get_or old place nowhere) (drop (suc place) old) low high)))

pub added_joins : (n : ℕ) (old : List NumberRange) (place : ℕ) → suc place < length old → AllBelow n old place
    → n ≡ (get_or old place nowhere).last + 1 → (get_or old (suc place) nowhere).first ≡ n + 1
    → Added n old (remove (set old place (record { first = (get_or old place nowhere).first; last = (get_or old (suc place) nowhere).last })) (suc place)) true
added_joins n old place fits below low high =
    let old_from = joins (get_or old place nowhere) (get_or old (suc place) nowhere) (drop (suc (suc place)) old) low high in
    rw (
      take-suc-set old place (record { first = (get_or old place nowhere).first; last = (get_or old (suc place) nowhere).last }) (omega arith),
      drop-set-lt (suc (suc place)) old place (record { first = (get_or old place nowhere).first; last = (get_or old (suc place) nowhere).last }) (omega arith),
      append_assoc,
    )
    (behind n old place (record { first = (get_or old place nowhere).first; last = (get_or old (suc place) nowhere).last } ∷ drop (suc (suc place)) old) true (omega arith) below
    (rw (drop-cons old place nowhere (omega arith), drop-cons old (suc place) nowhere fits) old_from))

-- ---- what they amount to

-- a member lies beyond what the ranges are above
pub member_beyond : (m k : ℕ) (ranges : List NumberRange) → Above m ranges → Normal ranges → Member k ranges → m + 1 < k
member_beyond m k [] above normal member = absurd member
member_beyond m k (range ∷ ranges) above normal (inl here) = omega arith
member_beyond m k (range ∷ ranges) above normal (inr there) =
    let far : range.last + 1 < k = member_beyond range.last k ranges normal.1 normal.2 there in omega arith

pub added_above : (n m : ℕ) (old new : List NumberRange) (is_new : Bool) → Above m old → m + 1 < n → Added n old new is_new → Above m new
added_above n m old new is_new above gap beyond = gap
added_above n m old new is_new above gap (later range rest more b less added) = above
added_above n m old new is_new above gap (joins range next rest low high) = above
added_above n m old new is_new above gap (raises range rest low high) = above
added_above n m old new is_new above gap (inside range rest low high) = above
added_above n m old new is_new above gap (lowers range rest low) = gap
added_above n m old new is_new above gap (before range rest low) = gap

pub added_normal : (n : ℕ) (old new : List NumberRange) (is_new : Bool) → Normal old → Added n old new is_new → Normal new
added_normal n old new is_new normal beyond = (omega arith, tt, tt)
added_normal n old new is_new normal (later range rest more b less added) =
    (normal.0, added_above n range.last rest more b normal.1 less added, added_normal n rest more b normal.2 added)
added_normal n old new is_new normal (joins range next rest low high) =
    let first : range.first ≤ range.last = normal.0 in let second : next.first ≤ next.last = normal.2.0 in
    (omega arith, normal.2.1, normal.2.2)
added_normal n old new is_new normal (raises range rest low high) = let first : range.first ≤ range.last = normal.0 in (omega arith, high, normal.2)
added_normal n old new is_new normal (inside range rest low high) = normal
added_normal n old new is_new normal (lowers range rest low) = let first : range.first ≤ range.last = normal.0 in (omega arith, normal.1, normal.2)
added_normal n old new is_new normal (before range rest low) = (omega arith, low, normal)

-- every number in the new ranges was in the old ones, or is n
pub added_only : (n k : ℕ) (old new : List NumberRange) (is_new : Bool) → Added n old new is_new → Member k new → (k ≡ n) ⊎ Member k old
added_only n k old new is_new beyond (inl here) = inl (omega arith)
added_only n k old new is_new beyond (inr there) = absurd there
added_only n k old new is_new (later range rest more b less added) (inl here) = inr (inl here)
added_only n k old new is_new (later range rest more b less added) (inr there) =
    elim (added_only n k rest more b added there) [ inl e ↦ inl e | inr m ↦ inr (inr m) ]
added_only n k old new is_new (joins range next rest low high) (inl here) =
    elim (cases_order k n) [
      | inl e ↦ inl e
      | inr (inl less) ↦ inr (inl (here.0, omega arith))
      | inr (inr more) ↦ inr (inr (inl (omega arith, here.1)))
    ]
added_only n k old new is_new (joins range next rest low high) (inr there) = inr (inr (inr there))
added_only n k old new is_new (raises range rest low high) (inl here) =
    elim (cases_order k n) [
      | inl e ↦ inl e
      | inr (inl less) ↦ inr (inl (here.0, omega arith))
      | inr (inr more) ↦ let none : ⊥ = omega arith in absurd none
    ]
added_only n k old new is_new (raises range rest low high) (inr there) = inr (inr there)
added_only n k old new is_new (inside range rest low high) member = inr member
added_only n k old new is_new (lowers range rest low) (inl here) =
    elim (cases_order k n) [
      | inl e ↦ inl e
      | inr (inl less) ↦ let none : ⊥ = omega arith in absurd none
      | inr (inr more) ↦ inr (inl (omega arith, here.1))
    ]
added_only n k old new is_new (lowers range rest low) (inr there) = inr (inr there)
added_only n k old new is_new (before range rest low) (inl here) = inl (omega arith)
added_only n k old new is_new (before range rest low) (inr there) = inr there

-- n is in the new ranges
pub added_self : (n : ℕ) (old new : List NumberRange) (is_new : Bool) → Normal old → Added n old new is_new → Member n new
added_self n old new is_new normal beyond = inl (omega arith)
added_self n old new is_new normal (later range rest more b less added) = inr (added_self n rest more b normal.2 added)
added_self n old new is_new normal (joins range next rest low high) =
    let first : range.first ≤ range.last = normal.0 in let second : next.first ≤ next.last = normal.2.0 in inl (omega arith)
added_self n old new is_new normal (raises range rest low high) = let first : range.first ≤ range.last = normal.0 in inl (omega arith)
added_self n old new is_new normal (inside range rest low high) = inl (low, high)
added_self n old new is_new normal (lowers range rest low) = let first : range.first ≤ range.last = normal.0 in inl (omega arith)
added_self n old new is_new normal (before range rest low) = inl (omega arith)

-- and so is every old number
pub added_keeps : (n k : ℕ) (old new : List NumberRange) (is_new : Bool) → Normal old → Added n old new is_new → Member k old → Member k new
added_keeps n k old new is_new normal beyond member = absurd member
added_keeps n k old new is_new normal (later range rest more b less added) (inl here) = inl here
added_keeps n k old new is_new normal (later range rest more b less added) (inr there) = inr (added_keeps n k rest more b normal.2 added there)
added_keeps n k old new is_new normal (joins range next rest low high) (inl here) = let second : next.first ≤ next.last = normal.2.0 in inl (omega arith)
added_keeps n k old new is_new normal (joins range next rest low high) (inr (inl here)) = let first : range.first ≤ range.last = normal.0 in inl (omega arith)
added_keeps n k old new is_new normal (joins range next rest low high) (inr (inr there)) = inr there
added_keeps n k old new is_new normal (raises range rest low high) (inl here) = inl (omega arith)
added_keeps n k old new is_new normal (raises range rest low high) (inr there) = inr there
added_keeps n k old new is_new normal (inside range rest low high) member = member
added_keeps n k old new is_new normal (lowers range rest low) (inl here) = inl (omega arith)
added_keeps n k old new is_new normal (lowers range rest low) (inr there) = inr there
added_keeps n k old new is_new normal (before range rest low) member = inr member

-- what is new was not there
pub added_new : (n : ℕ) (old new : List NumberRange) (is_new : Bool) → Normal old → Added n old new is_new → IsTrue is_new → Member n old → ⊥
added_new n old new is_new normal beyond is_so member = member
added_new n old new is_new normal (later range rest more b less added) is_so (inl here) = omega arith
added_new n old new is_new normal (later range rest more b less added) is_so (inr there) = added_new n rest more b normal.2 added is_so there
added_new n old new is_new normal (joins range next rest low high) is_so (inl here) = omega arith
added_new n old new is_new normal (joins range next rest low high) is_so (inr (inl here)) = omega arith
added_new n old new is_new normal (joins range next rest low high) is_so (inr (inr there)) =
    let second : next.first ≤ next.last = normal.2.0 in
    let far : next.last + 1 < n = member_beyond next.last n rest normal.2.1 normal.2.2 there in omega arith
added_new n old new is_new normal (raises range rest low high) is_so (inl here) = omega arith
added_new n old new is_new normal (raises range rest low high) is_so (inr there) =
    let far : n + 1 < n = member_beyond n n rest high normal.2 there in omega arith
added_new n old new is_new normal (inside range rest low high) is_so member = cc
added_new n old new is_new normal (lowers range rest low) is_so (inl here) = omega arith
added_new n old new is_new normal (lowers range rest low) is_so (inr there) =
    let first : range.first ≤ range.last = normal.0 in
    let far : range.last + 1 < n = member_beyond range.last n rest normal.1 normal.2 there in omega arith
added_new n old new is_new normal (before range rest low) is_so (inl here) = omega arith
added_new n old new is_new normal (before range rest low) is_so (inr there) =
    let first : range.first ≤ range.last = normal.0 in
    let far : range.last + 1 < n = member_beyond range.last n rest normal.1 normal.2 there in omega arith

-- what is not was
pub added_known : (n : ℕ) (old new : List NumberRange) (is_new : Bool) → Normal old → Added n old new is_new → is_new ≡ false → Member n old
added_known n old new is_new normal beyond is_not = cc
added_known n old new is_new normal (later range rest more b less added) is_not = inr (added_known n rest more b normal.2 added is_not)
added_known n old new is_new normal (joins range next rest low high) is_not = cc
added_known n old new is_new normal (raises range rest low high) is_not = cc
added_known n old new is_new normal (inside range rest low high) is_not = inl (low, high)
added_known n old new is_new normal (lowers range rest low) is_not = cc
added_known n old new is_new normal (before range rest low) is_not = cc

-- ---- neighbours

pub neighbours : (ranges : List NumberRange) (place : ℕ) → Normal ranges → suc place < length ranges
    → (get_or ranges place nowhere).last + 1 < (get_or ranges (suc place) nowhere).first
neighbours [] place normal fits = let none : ⊥ = omega arith in absurd none
neighbours (range ∷ []) zero normal fits = let none : ⊥ = omega arith in absurd none
neighbours (range ∷ next ∷ ranges) zero normal fits = normal.1
neighbours (range ∷ ranges) (suc place) normal fits = neighbours ranges place normal.2 (omega arith)

pub above_none : (n : ℕ) (old : List NumberRange) (place : ℕ) → suc place ≡ length old → Above n (drop (suc place) old)
above_none n old place e = rw (e, drop-length old) tt

pub above_next : (n : ℕ) (old : List NumberRange) (place : ℕ) → suc place < length old → n + 1 < (get_or old (suc place) nowhere).first → Above n (drop (suc place) old)
above_next n old place fits gap = rw (drop-cons old (suc place) nowhere fits) gap

-- ---- both together

known_or_same : (n k : ℕ) (old new : List NumberRange) (is_new : Bool) → Normal old → Added n old new is_new → ((k ≡ n) ⊎ Member k old) → Member k new
known_or_same n k old new is_new normal added (inl e) = rw e (added_self n old new is_new normal added)
known_or_same n k old new is_new normal added (inr member) = added_keeps n k old new is_new normal added member

pub adds : (n : ℕ) (old new : List NumberRange) (is_new : Bool) → Normal old → Added n old new is_new → Adds n old new
adds n old new is_new normal added = record {
  normal = added_normal n old new is_new normal added;
  numbers = λ k. (
    (λ member. added_only n k old new is_new added member),
    (λ was. known_or_same n k old new is_new normal added was),
  );
}

pub answers : (n : ℕ) (old new : List NumberRange) (is_new : Bool) → Normal old → Added n old new is_new → IsTrue is_new ↔ (Member n old → ⊥)
answers n old new true normal added = ((λ is_so. added_new n old new true normal added is_so), (λ _. refl))
answers n old new false normal added = ((λ (is_so : IsTrue false). let none : ⊥ = cc in absurd none), (λ none. absurd (none (added_known n old new false normal added refl))))

-- no more than 64 ranges are all kept
pub latest_all : (ranges : List NumberRange) → length ranges ≤ 64 → ranges ≡ latest ranges
latest_all ranges few = let none : length ranges - 64 ≡ 0 = omega arith in rw none refl

-- what a call that adds a number says of the ranges before and after it
abbrev pub IsAddition : ℕ → List NumberRange → List NumberRange → Bool → Type 0
IsAddition n old new is_new = ((all : List NumberRange) × Adds n old all × (new ≡ latest all)) × (IsTrue is_new ↔ (Member n old → ⊥))

pub addition : (n : ℕ) (old all new : List NumberRange) (is_new : Bool) → Normal old → Added n old all is_new → new ≡ latest all → IsAddition n old new is_new
addition n old all new is_new normal added same = ((all, adds n old all is_new normal added, same), answers n old all is_new normal added)

pub short_addition : (n : ℕ) (old new : List NumberRange) (is_new : Bool) → Normal old → Added n old new is_new → length new ≤ 64 → IsAddition n old new is_new
short_addition n old new is_new normal added few = addition n old new new is_new normal added (latest_all new few)
