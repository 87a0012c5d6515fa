-- Numbers in ranges that go from low to high
use Rattle.std.proofs.Common.{◌≡◌, ℕ, zero, suc, ◌+◌, ◌-◌, ◌<◌, ◌≤◌, Bool, false, ◌||◌, List, [], ◌∷◌, length, drop, get_or, refl, sym, ◌∙◌, add-one, arith}
use Rattle.std.specs.Prelude.{nat_le}
use Rattle.std.proofs.lemmas.Bool.Decides.{nat_tests}
use Rattle.qc_base.specs.RangeSet.{Above, Normal}
use Rattle.qc_base.specs.declared.range_set.NumberRange.{NumberRange}
use Rattle.qc_flight.specs.Packets.{Entry, Agree, PassesUpTo, Reaches, Skips, is_acked, is_in, is_lost, is_within}

in_cons : (range : NumberRange) (ranges : List NumberRange) (n : ℕ) → is_in (range ∷ ranges) n ≡ (is_within n range || is_in ranges n)
unfolding is_in
in_cons range ranges n = refl

in_nil : (n : ℕ) → is_in [] n ≡ false
unfolding is_in
in_nil n = refl

-- no number up to the one that they lie above
not_below : (n k : ℕ) (ranges : List NumberRange) → Above n ranges → Normal ranges → k ≤ n → is_in ranges k ≡ false
not_below n k [] above normal le = in_nil k
not_below n k (range ∷ ranges) above normal le =
    let rest : is_in ranges k ≡ false = not_below range.last k ranges normal.1 normal.2 (omega (arith, above, normal.0)) in
    let here : is_within k range ≡ false = (let low : k < range.first = omega (arith, above) in grind (arith, nat_tests)) in
    in_cons range ranges k ∙ rw (here, rest) refl

pub skips_none : (number : ℕ) (ranges : List NumberRange) → Normal ranges → Skips number ranges ranges
skips_none number ranges normal = record { same = λ n le. refl; normal = normal }

-- a range that ends below the number is passed
skip_first : (number : ℕ) (before : List NumberRange) (range : NumberRange) (ranges : List NumberRange) → Skips number before (range ∷ ranges) → range.last < number → Skips number before ranges
skip_first number before range ranges s past = record {
  same = λ n le. s.same n le ∙ in_cons range ranges n ∙ (let here : is_within n range ≡ false = grind (arith, nat_tests) in rw here refl);
  normal = s.normal.2;
}

skips_suc : (number : ℕ) (before all : List NumberRange) (at : ℕ) (d : NumberRange) → Skips number before (drop at all) → at < length all → (get_or all at d).last < number → Skips number before (drop (suc at) all)
skips_suc number before [] at d s within past = absurd (omega arith)
skips_suc number before (x ∷ all) zero d s within past = skip_first number before x all s past
skips_suc number before (x ∷ all) (suc at) d s within past = skips_suc number before all at d s (omega arith) past

pub skips_one : (number : ℕ) (before all : List NumberRange) (at : ℕ) (d : NumberRange) → Skips number before (drop at all) → at < length all → (get_or all at d).last < number → Skips number before (drop (at + 1) all)
skips_one number before all at d s within past = rw add-one (skips_suc number before all at d s within past)

pub reaches_here : (number : ℕ) (all : List NumberRange) (at : ℕ) (d : NumberRange) → at < length all → number ≤ (get_or all at d).last → Reaches number (drop at all)
reaches_here number [] at d within le = absurd (omega arith)
reaches_here number (x ∷ all) zero d within le = le
reaches_here number (x ∷ all) (suc at) d within le = reaches_here number all at d (omega arith) le

pub reaches_end : (number : ℕ) (all : List NumberRange) (at : ℕ) → length all ≤ at → Reaches number (drop at all)
reaches_end number [] zero le = tt
reaches_end number [] (suc at) le = tt
reaches_end number (x ∷ all) zero le = absurd (omega arith)
reaches_end number (x ∷ all) (suc at) le = reaches_end number all at (omega arith)

pub in_none : (all : List NumberRange) (place number : ℕ) → place ≡ length all → is_in (drop place all) number ≡ false
in_none [] zero number end = in_nil number
in_none [] (suc place) number end = in_nil number
in_none (x ∷ all) zero number end = absurd (omega arith)
in_none (x ∷ all) (suc place) number end = in_none all place number (omega arith)

first_only : (range : NumberRange) (ranges : List NumberRange) (number : ℕ) → Normal (range ∷ ranges) → number ≤ range.last → nat_le range.first number ≡ is_in (range ∷ ranges) number
first_only range ranges number normal le =
    let rest : is_in ranges number ≡ false = not_below range.last number ranges normal.1 normal.2 le in
    sym (in_cons range ranges number ∙ rw rest (grind (arith, nat_tests)))

pub in_first : (all : List NumberRange) (place number : ℕ) (d : NumberRange) → place < length all → Normal (drop place all) → Reaches number (drop place all) → nat_le (get_or all place d).first number ≡ is_in (drop place all) number
in_first [] place number d within normal reaches = absurd (omega arith)
in_first (x ∷ all) zero number d within normal reaches = first_only x all number normal reaches
in_first (x ∷ all) (suc place) number d within normal reaches = in_first all place number d (omega arith) normal reaches

pub agree_after : (number : ℕ) (before after : List NumberRange) → Skips number before after → Agree number (λ e. is_in before e.0) (λ e. is_in after e.0)
agree_after number before after s = record { above = λ e less. s.same e.0 (omega arith) }

pub agree_same : (n : ℕ) (p : Entry → Bool) → Agree n p p
agree_same n p = record { above = λ e less. refl }

-- all that is in ranges which go from low to high lies below what is above their last one
abbrev AllEndBelow : ℕ → List NumberRange → Type 0
AllEndBelow n [] = Unit {0}
AllEndBelow n (range ∷ ranges) = (range.last < n) × AllEndBelow n ranges

length_none : (ranges : List NumberRange) → length ranges ≡ 0 → ranges ≡ []
length_none [] none = refl
length_none (x ∷ ranges) none = absurd (omega arith)

above_last : (ranges : List NumberRange) (i : ℕ) (d : NumberRange) (n : ℕ) → Normal ranges → length ranges ≡ suc i → (get_or ranges i d).last < n → (is_in ranges n ≡ false) × AllEndBelow n ranges
above_last [] i d n normal some past = absurd (omega arith)
above_last (x ∷ ranges) zero d n normal some past =
    let out : is_within n x ≡ false = grind (arith, nat_tests) in
    let nothing : ranges ≡ [] = length_none ranges (omega arith) in
    (in_cons x ranges n ∙ rw (out, nothing, in_nil n) refl, (past, rw nothing tt))
above_last (x ∷ []) (suc i) d n normal some past = absurd (omega arith)
above_last (x ∷ y ∷ ranges) (suc i) d n normal some past =
    let rest = above_last (y ∷ ranges) i d n normal.2 (omega arith) past in
    let below : x.last < n = omega (arith, rest.1.0, normal.1, normal.2.0) in
    let out : is_within n x ≡ false = grind (arith, nat_tests) in
    (in_cons x (y ∷ ranges) n ∙ rw (out, rest.0) refl, (below, rest.1))

-- no packet above the last range passes
pub none_above_last : (ranges : List NumberRange) (d : NumberRange) → Normal ranges → 0 < length ranges → PassesUpTo (get_or ranges (length ranges - 1) d).last (is_acked ranges)
none_above_last ranges d normal some = record { none = λ e past. (above_last ranges (length ranges - 1) d e.0 normal (omega arith) past).0 }

pub none_lost_above : (largest threshold now delay : ℕ) → PassesUpTo largest (is_lost largest threshold now delay)
unfolding is_lost
none_lost_above largest threshold now delay = record { none = λ e past. grind (arith, nat_tests) }
