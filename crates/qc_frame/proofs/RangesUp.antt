-- Ranges of a set, said as an ACK says them
use Rattle.std.proofs.Common.{◌≡◌, ℕ, zero, suc, ◌+◌, ◌-◌, ◌<◌, ◌≤◌, ◌⊎◌, inl, inr, List, [], ◌∷◌, ◌++◌, length, reverse, drop, get_or, refl, sym, ap, ◌∙◌, subst, arith, append_assoc}
use Rattle.std.specs.List.{flat_map, All}
use Rattle.std.proofs.Math.Seq.{drop-cons}
use Rattle.std.proofs.lemmas.Grind.{reverse_onto}
use Rattle.std.proofs.lemmas.List.Elements.{All-nil, All-cons}
use mathlib.Core.List.{reverse_aux}
use Rattle.qc_base.specs.declared.range_set.NumberRange.{NumberRange}
use Rattle.qc_base.specs.RangeSet.{Above, Member, Normal}
use Rattle.qc_base.specs.Varint.{IsNumber, varint}
use Rattle.qc_base.proofs.AddedRanges.{nowhere}
use Rattle.qc_base.proofs.RangeLaws.{last_greatest, last_member}
use Rattle.qc_frame.specs.FrameSpelling.{numbers_of}
use Rattle.qc_frame.proofs.Numbers.{numbers_of-varints}
use Rattle.qc_frame.specs.AckRanges.{ArePackets, SaysSet, range_down, ranges_down, range_numbers, numbers_up}
use Rattle.qc_frame.specs.FrameFits.{AllNumbers, MoreRangesFit, RangesFit}

-- ---- from the numbers to the ranges

-- ranges that fit, before others that lie above them
down_normal : (largest : ℕ) (ns : List ℕ) (above : List NumberRange) → RangesFit largest ns → Above largest above → Normal above
    → Normal (reverse_aux (ranges_down largest ns) above)
down_normal largest [] above fits apart normal = absurd fits
down_normal largest (len ∷ []) above fits apart normal = (omega arith, apart, normal)
down_normal largest (len ∷ gap ∷ []) above fits apart normal = absurd fits.1
down_normal largest (len ∷ gap ∷ next ∷ ns) above fits apart normal =
    let low : gap + 2 ≤ largest - len = fits.1.0 in
    down_normal (largest - len - (gap + 2)) (next ∷ ns) (range_down largest len ∷ above) (fits.1.1, fits.1.2) (omega arith) (omega arith, apart, normal)

pub ranges_normal : (largest : ℕ) (ns : List ℕ) → RangesFit largest ns → Normal (reverse (ranges_down largest ns))
ranges_normal largest ns fits = down_normal largest ns [] fits tt tt

pub ranges_within : (most largest : ℕ) (ns : List ℕ) → largest ≤ most → All (λ range. range.last ≤ most) (ranges_down largest ns)
ranges_within most largest [] h = All-nil (λ (range : NumberRange). range.last ≤ most)
ranges_within most largest (len ∷ []) h = All-cons (λ (range : NumberRange). range.last ≤ most) (range_down largest len) [] h (All-nil (λ (range : NumberRange). range.last ≤ most))
ranges_within most largest (len ∷ gap ∷ ns) h =
    All-cons (λ (range : NumberRange). range.last ≤ most) (range_down largest len) (ranges_down (largest - len - (gap + 2)) ns) h (ranges_within most (largest - len - (gap + 2)) ns (omega arith))

pub largest_there : (largest : ℕ) (ns : List ℕ) → RangesFit largest ns → Member largest (ranges_down largest ns)
largest_there largest [] fits = absurd fits
largest_there largest (len ∷ []) fits = inl (omega arith, omega arith)
largest_there largest (len ∷ gap ∷ ns) fits = inl (omega arith, omega arith)

-- each number is one that a variable-length integer has room for
more_numbers : (smallest : ℕ) (ns : List ℕ) → IsNumber smallest → MoreRangesFit smallest ns → AllNumbers ns
more_numbers smallest [] small fits = tt
more_numbers smallest (gap ∷ []) small fits = absurd fits
more_numbers smallest (gap ∷ len ∷ ns) small fits =
    let low = fits.0 in let lower = fits.1 in
    (omega arith, (omega arith, more_numbers (smallest - (gap + 2) - len) ns (omega arith) fits.2))

all_numbers : (largest : ℕ) (ns : List ℕ) → IsNumber largest → RangesFit largest ns → AllNumbers ns
all_numbers largest [] small fits = absurd fits
all_numbers largest (len ∷ ns) small fits = let low = fits.0 in (omega arith, more_numbers (largest - len) ns (omega arith) fits.1)

-- ---- one more range, below the others

-- the lowest number of the ranges
lowest : ℕ → List ℕ → ℕ
lowest largest [] = largest
lowest largest (len ∷ []) = largest - len
lowest largest (len ∷ gap ∷ ns) = lowest (largest - len - (gap + 2)) ns

lowest_more : (largest gap len : ℕ) (ns : List ℕ) → RangesFit largest ns → lowest largest (ns ++ gap ∷ len ∷ []) ≡ lowest largest ns - (gap + 2) - len
unfolding lowest
lowest_more largest gap len [] fits = absurd fits
lowest_more largest gap len (x ∷ []) fits = refl
lowest_more largest gap len (x ∷ y ∷ []) fits = absurd fits.1
lowest_more largest gap len (x ∷ y ∷ z ∷ ns) fits = lowest_more (largest - x - (y + 2)) gap len (z ∷ ns) (fits.1.1, fits.1.2)

down_more : (largest gap len : ℕ) (ns : List ℕ) → RangesFit largest ns
    → ranges_down largest (ns ++ gap ∷ len ∷ []) ≡ ranges_down largest ns ++ range_down (lowest largest ns - (gap + 2)) len ∷ []
unfolding lowest
down_more largest gap len [] fits = absurd fits
down_more largest gap len (x ∷ []) fits = refl
down_more largest gap len (x ∷ y ∷ []) fits = absurd fits.1
down_more largest gap len (x ∷ y ∷ z ∷ ns) fits =
    ap (λ (ranges : List NumberRange). range_down largest x ∷ ranges) (down_more (largest - x - (y + 2)) gap len (z ∷ ns) (fits.1.1, fits.1.2))

fits_more : (largest gap len : ℕ) (ns : List ℕ) → RangesFit largest ns → gap + 2 ≤ lowest largest ns → len ≤ lowest largest ns - (gap + 2)
    → RangesFit largest (ns ++ gap ∷ len ∷ [])
unfolding lowest
fits_more largest gap len [] fits low lower = absurd fits
fits_more largest gap len (x ∷ []) fits low lower = (fits.0, (low, lower, tt))
fits_more largest gap len (x ∷ y ∷ []) fits low lower = absurd fits.1
fits_more largest gap len (x ∷ y ∷ z ∷ ns) fits low lower =
    let more = fits_more (largest - x - (y + 2)) gap len (z ∷ ns) (fits.1.1, fits.1.2) low lower in
    (fits.0, (fits.1.0, more.0, more.1))

-- ---- from a set's ranges to the numbers, and back

-- the last number of the greatest range
pub top_of : NumberRange → List NumberRange → ℕ
top_of range [] = range.last
top_of range (above ∷ ranges) = top_of above ranges

record Says (range : NumberRange) (ranges : List NumberRange) (ns : List ℕ) : Type 0 where
  pub fits : RangesFit (top_of range ranges) ns
  pub low : lowest (top_of range ranges) ns ≡ range.first
  pub said : ranges_down (top_of range ranges) ns ≡ reverse (range ∷ ranges)

says_one : (range : NumberRange) → range.first ≤ range.last → Says range [] (numbers_up (range ∷ []))
unfolding top_of lowest
says_one range some =
    let first : range.last - (range.last - range.first) ≡ range.first = omega arith in
    record {
      fits = (omega arith, tt);
      low = first;
      said = ap (λ (n : ℕ). record { first = n; last = range.last } ∷ []) first;
    }

says_more : (top gap len : ℕ) (range : NumberRange) (ranges : List NumberRange) (ns : List ℕ) → RangesFit top ns → ranges_down top ns ≡ reverse ranges
    → lowest top ns - (gap + 2) ≡ range.last → range.last - len ≡ range.first → ranges_down top (ns ++ gap ∷ len ∷ []) ≡ reverse (range ∷ ranges)
says_more top gap len range ranges ns fits said high low =
    let one : range_down (lowest top ns - (gap + 2)) len ≡ range = ap (λ (n : ℕ). range_down n len) high ∙ ap (λ (n : ℕ). record { first = n; last = range.last }) low in
    down_more top gap len ns fits ∙ ap (λ (r : NumberRange). ranges_down top ns ++ r ∷ []) one ∙ ap (λ (rs : List NumberRange). rs ++ range ∷ []) said ∙ sym (reverse_onto ranges range [])

says : (range : NumberRange) (ranges : List NumberRange) → Normal (range ∷ ranges) → Says range ranges (numbers_up (range ∷ ranges))
unfolding top_of
says range [] normal = says_one range normal.0
says range (above ∷ ranges) normal =
    let others = says above ranges normal.2 in
    let ns : List ℕ = numbers_up (above ∷ ranges) in
    let gap : ℕ = above.first - range.last - 2 in
    let len : ℕ = range.last - range.first in
    let some : range.first ≤ range.last = normal.0 in
    let apart : range.last + 1 < above.first = normal.1 in
    let low : lowest (top_of above ranges) ns ≡ above.first = others.low in
    let high : lowest (top_of above ranges) ns - (gap + 2) ≡ range.last = omega arith in
    let first : range.last - len ≡ range.first = omega arith in
    record {
      fits = fits_more (top_of above ranges) gap len ns others.fits (omega arith) (omega arith);
      low = lowest_more (top_of above ranges) gap len ns others.fits ∙ ap (λ (n : ℕ). n - len) high ∙ first;
      said = says_more (top_of above ranges) gap len range (above ∷ ranges) ns others.fits others.said high first;
    }

-- the ranges of a set, said and read again
pub record Said (largest : ℕ) (ranges : List NumberRange) (ns : List ℕ) : Type 0 where
  pub fits : RangesFit largest ns
  pub numbers : IsNumber largest → AllNumbers ns
  pub said : ranges_down largest ns ≡ reverse ranges

top_is : (range : NumberRange) (ranges : List NumberRange) (place : ℕ) (d : NumberRange) → place ≡ length ranges → (get_or (range ∷ ranges) place d).last ≡ top_of range ranges
unfolding top_of
top_is range [] zero d e = refl
top_is range [] (suc place) d e = absurd (omega arith)
top_is range (above ∷ ranges) zero d e = absurd (omega arith)
top_is range (above ∷ ranges) (suc place) d e = top_is above ranges place d (omega arith)

pub set_said : (ranges : List NumberRange) (place : ℕ) (d : NumberRange) → place + 1 ≡ length ranges → Normal ranges
    → Said (get_or ranges place d).last ranges (numbers_up ranges)
set_said [] place d e normal = absurd (omega arith)
set_said (range ∷ ranges) place d e normal =
    let there = says range ranges normal in
    let top = top_is range ranges place d (omega arith) in
    subst (λ (n : ℕ). Said n (range ∷ ranges) (numbers_up (range ∷ ranges))) (sym top)
    (record { fits = there.fits; numbers = λ small. all_numbers (top_of range ranges) (numbers_up (range ∷ ranges)) small there.fits; said = there.said })

-- ---- membership, whichever way the ranges are turned

member_turned : (n : ℕ) (ranges others : List NumberRange) → Member n ranges ⊎ Member n others → Member n (reverse_aux ranges others)
member_turned n [] others (inl none) = absurd none
member_turned n [] others (inr there) = there
member_turned n (range ∷ ranges) others (inl (inl here)) = member_turned n ranges (range ∷ others) (inr (inl here))
member_turned n (range ∷ ranges) others (inl (inr there)) = member_turned n ranges (range ∷ others) (inl there)
member_turned n (range ∷ ranges) others (inr there) = member_turned n ranges (range ∷ others) (inr (inr there))

member_back : (n : ℕ) (ranges others : List NumberRange) → Member n (reverse_aux ranges others) → Member n ranges ⊎ Member n others
member_back n [] others there = inr there
member_back n (range ∷ ranges) others there = elim (member_back n ranges (range ∷ others) there) [
  | inl behind ↦ inl (inr behind)
  | inr (inl here) ↦ inl (inl here)
  | inr (inr other) ↦ inr other
]

pub member_reverse : (n : ℕ) (ranges : List NumberRange) → Member n ranges → Member n (reverse ranges)
member_reverse n ranges there = member_turned n ranges [] (inl there)

pub reverse_member : (n : ℕ) (ranges : List NumberRange) → Member n (reverse ranges) → Member n ranges
reverse_member n ranges there = elim (member_back n ranges [] there) [
  | inl behind ↦ behind
  | inr none ↦ absurd none
]

-- ---- the loop that writes them

flat_append : (f : ℕ → List ℕ) (xs ys : List ℕ) → flat_map f (xs ++ ys) ≡ flat_map f xs ++ flat_map f ys
flat_append f [] ys = refl
flat_append f (x ∷ xs) ys = ap (λ (zs : List ℕ). f x ++ zs) (flat_append f xs ys) ∙ sym (append_assoc (f x) (flat_map f xs) (flat_map f ys))

pub one_written : (ranges : List NumberRange) (place next : ℕ) (d : NumberRange) (before out : List ℕ) → place < length ranges → next ≡ suc place
    → out ≡ before ++ flat_map varint (numbers_up (drop next ranges))
    → out ++ flat_map varint (range_numbers (get_or ranges place d) (drop next ranges)) ≡ before ++ flat_map varint (numbers_up (drop place ranges))
one_written ranges place next d before out fits e is =
    let cons : drop place ranges ≡ get_or ranges place d ∷ drop next ranges = drop-cons ranges place d fits ∙ ap (λ (n : ℕ). get_or ranges place d ∷ drop n ranges) (sym e) in
    rw (is, cons) (append_assoc before _ _ ∙ ap (λ (bytes : List ℕ). before ++ bytes)
    (sym (flat_append varint (numbers_up (drop next ranges)) (range_numbers (get_or ranges place d) (drop next ranges)))))

pub normal_from : (ranges : List NumberRange) (place next : ℕ) (d : NumberRange) → Normal ranges → place < length ranges → next ≡ suc place
    → Normal (get_or ranges place d ∷ drop next ranges)
normal_from [] place next d normal fits e = absurd (omega arith)
normal_from (range ∷ ranges) zero next d normal fits e = rw e normal
normal_from (range ∷ ranges) (suc place) next d normal fits e = rw e (normal_from ranges place (suc place) d normal.2 (omega arith) refl)

-- ---- an ACK made of a set

pub set_ack : (ranges : List NumberRange) (place : ℕ) (start additional : List ℕ) → Normal ranges → 0 < length ranges
    → (get_or ranges place nowhere).last < 4611686018427387904 → place ≡ length ranges - 1 → start ≡ []
    → additional ≡ start ++ flat_map varint (numbers_up ranges) → SaysSet (get_or ranges place nowhere).last additional ranges
set_ack ranges place start additional normal some small at none text =
    let largest : ℕ = (get_or ranges place nowhere).last in
    let said = set_said ranges place nowhere (omega arith) normal in
    let numbers : numbers_of additional ≡ numbers_up ranges =
    ap numbers_of (text ∙ ap (λ (s : List ℕ). s ++ flat_map varint (numbers_up ranges)) none) ∙ numbers_of-varints (numbers_up ranges) (said.numbers small) in
    record {
      small = small;
      fits = subst (λ (ns : List ℕ). RangesFit largest ns) (sym numbers) said.fits;
      said = ap (λ (ns : List ℕ). ranges_down largest ns) numbers ∙ said.said;
      shortest = text ∙ ap (λ (s : List ℕ). s ++ flat_map varint (numbers_up ranges)) none ∙ ap (λ (ns : List ℕ). flat_map varint ns) (sym numbers);
    }

-- the numbers of ranges are packet numbers where the last one is
pub packets_there : (ranges : List NumberRange) (place : ℕ) → Normal ranges → 0 < length ranges → place ≡ length ranges - 1
    → (get_or ranges place nowhere).last < 4611686018427387904 → ArePackets ranges
packets_there ranges place normal some at small =
    (some, λ n there. let most : n ≤ (get_or ranges place nowhere).last = last_greatest ranges place n (omega arith) normal there in omega arith)

pub packets_last : (ranges : List NumberRange) (place : ℕ) → Normal ranges → place ≡ length ranges - 1 → ArePackets ranges
    → (0 < length ranges) × ((get_or ranges place nowhere).last < 4611686018427387904)
packets_last ranges place normal at packets =
    let some = packets.0 in
    (some, packets.1 (get_or ranges place nowhere).last (last_member ranges place (omega arith) normal))
