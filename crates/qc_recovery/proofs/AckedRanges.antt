-- No range of an ACK goes above its largest number
use Rattle.std.proofs.Common.{◌≡◌, ℕ, ◌<◌, ◌≤◌, false, List, [], ◌∷◌, reverse, arith}
use Rattle.std.specs.List.{All}
use Rattle.std.proofs.lemmas.Bool.Decides.{nat_tests}
use Rattle.std.proofs.lemmas.List.Elements.{All-nil, All-cons, All-head, All-tail, All-weaker}
use Rattle.std.proofs.lemmas.List.Folds.{list_any_none}
use mathlib.Core.List.{reverse_aux}
use Rattle.qc_base.specs.declared.range_set.NumberRange.{NumberRange}
use Rattle.qc_flight.specs.Packets.{PassesUpTo, is_acked, is_in, is_within}

all_onto : (P : NumberRange → Type 0) (xs ys : List NumberRange) → All P xs → All P ys → All P (reverse_aux xs ys)
all_onto P [] ys a b = b
all_onto P (x ∷ xs) ys a b = all_onto P xs (x ∷ ys) (All-tail P x xs a) (All-cons P x ys (All-head P x xs a) b)

all_reverse : (P : NumberRange → Type 0) (xs : List NumberRange) → All P xs → All P (reverse xs)
all_reverse P xs a = all_onto P xs [] a (All-nil P)

out_of : (n largest : ℕ) (range : NumberRange) → largest < n → range.last ≤ largest → is_within n range ≡ false
out_of n largest range above le = grind (arith, nat_tests)

none_in : (n largest : ℕ) (ranges : List NumberRange) → largest < n → All (λ range. range.last ≤ largest) ranges → is_in ranges n ≡ false
unfolding is_in
none_in n largest ranges above all = list_any_none (is_within n) ranges (All-weaker (λ range. range.last ≤ largest) (λ range. is_within n range ≡ false) (λ range le. out_of n largest range above le) ranges all)

pub up_to_largest : (largest : ℕ) (ranges : List NumberRange) → All (λ range. range.last ≤ largest) ranges → PassesUpTo largest (is_acked (reverse ranges))
up_to_largest largest ranges all = record { none = λ e above. none_in e.0 largest (reverse ranges) above (all_reverse (λ range. range.last ≤ largest) ranges all) }

-- one range alone
pub one_range : (range : NumberRange) → PassesUpTo range.last (is_acked (range ∷ []))
one_range range = record { none = λ e above. none_in e.0 range.last (range ∷ []) above (All-cons (λ r. r.last ≤ range.last) range [] (omega arith) (All-nil (λ r. r.last ≤ range.last))) }
