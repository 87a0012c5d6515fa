-- The numbers that bytes spell, one by one
use Rattle.std.proofs.Common.{◌≡◌, ℕ, ◌+◌, ◌-◌, ◌<◌, ◌≤◌, List, [], ◌∷◌, ◌++◌, append_assoc, append-nil, length, Option, None, Some, refl, ap, sym, ◌∙◌, arith, zero, suc}
use Rattle.std.specs.List.{flat_map}
use Rattle.qc_base.specs.Varint.{varint}
use Rattle.qc_base.specs.Reading.{varint_of}
use Rattle.std.specs.Option.{option_map_or}
use Rattle.qc_base.proofs.Varints.{varint_shorter, varint_spelled, found_varint}
use Rattle.qc_frame.specs.FrameFits.{AllNumbers}
use Rattle.qc_frame.specs.FrameSpelling.{numbers_within, numbers_of}

-- a number, and those behind it
pub number_next : (most i n : ℕ) (bytes rest : List ℕ) → i < most → varint_of bytes ≡ Some (n, rest) → numbers_within (most - i) bytes ≡ n ∷ numbers_within (most - (i + 1)) rest
number_next most i n bytes rest h is = let e : most - i ≡ suc (most - (i + 1)) = omega arith in rw (e, is) refl

-- no number is left
pub number_none : (most : ℕ) (bytes : List ℕ) → varint_of bytes ≡ None → numbers_within most bytes ≡ []
number_none zero bytes is = refl
number_none (suc most) bytes is = rw is refl

pub numbers_done : (most i : ℕ) (bytes : List ℕ) → most ≤ i → numbers_within (most - i) bytes ≡ []
numbers_done most i bytes h = let e : most - i ≡ 0 = omega arith in rw e refl

-- what stood in a buffer, the numbers written to it, and those to come are together the same before and after one number
pub written_next : (most i n : ℕ) (bytes rest out all : List ℕ) → i < most → varint_of bytes ≡ Some (n, rest)
    → out ++ flat_map varint (numbers_within (most - i) bytes) ≡ all → (out ++ varint n) ++ flat_map varint (numbers_within (most - (i + 1)) rest) ≡ all
written_next most i n bytes rest out all h is e =
    append_assoc out (varint n) _ ∙ ap (λ (ns : List ℕ). out ++ flat_map varint ns) (sym (number_next most i n bytes rest h is)) ∙ e

pub written_none : (most : ℕ) (bytes out all : List ℕ) → varint_of bytes ≡ None → out ++ flat_map varint (numbers_within most bytes) ≡ all → out ≡ all
written_none most bytes out all is e =
    sym (append-nil out) ∙ ap (λ (ns : List ℕ). out ++ flat_map varint ns) (sym (number_none most bytes is)) ∙ e

-- ---- a bound that is long enough changes nothing

same_numbers : (v : Option (ℕ × List ℕ)) (g h : List ℕ → List ℕ) → ((n : ℕ) (b : List ℕ) → v ≡ Some (n, b) → g b ≡ h b)
    → option_map_or (λ x. x.0 ∷ g x.1) v [] ≡ option_map_or (λ x. x.0 ∷ h x.1) v []
same_numbers None g h same = refl
same_numbers (Some x) g h same = ap (λ (ns : List ℕ). x.0 ∷ ns) (same x.0 x.1 refl)

none_left : (most : ℕ) (a : List ℕ) → length a ≡ 0 → numbers_within most a ≡ []
unfolding varint_of
none_left zero a e = refl
none_left (suc most) [] e = refl
none_left (suc most) (b ∷ a) e = absurd (omega arith)

numbers_enough : (m n : ℕ) (a : List ℕ) → length a ≤ m → length a ≤ n → numbers_within m a ≡ numbers_within n a
numbers_enough zero zero a g h = refl
numbers_enough zero (suc n) a g h = sym (none_left (suc n) a (omega arith))
numbers_enough (suc m) zero a g h = none_left (suc m) a (omega arith)
numbers_enough (suc m) (suc n) a g h =
    same_numbers (varint_of a) (numbers_within m) (numbers_within n)
    (λ x b e. let less = varint_shorter a x b e in numbers_enough m n b (omega (arith, less)) (omega (arith, less)))

pub numbers_of_none : numbers_of [] ≡ []
unfolding numbers_of
numbers_of_none = refl

first_number : (most n : ℕ) (a b : List ℕ) → length a ≡ suc most → varint_of a ≡ Some (n, b) → numbers_within (suc most) a ≡ n ∷ numbers_within most b
first_number most n a b size is = rw is refl

pub numbers_of_next : (n : ℕ) (a b : List ℕ) → varint_of a ≡ Some (n, b) → numbers_of a ≡ n ∷ numbers_of b
unfolding numbers_of
numbers_of_next n [] b is = let less = varint_shorter [] n b is in absurd (omega (arith, less))
numbers_of_next n (x ∷ a) b is =
    let less = varint_shorter (x ∷ a) n b is in
    first_number (length a) n (x ∷ a) b refl is ∙ ap (λ (ns : List ℕ). n ∷ ns) (numbers_enough (length a) (length b) b (omega (arith, less)) (omega arith))

-- numbers that were written are read back
pub numbers_of-varints : (ns : List ℕ) → AllNumbers ns → numbers_of (flat_map varint ns) ≡ ns
numbers_of-varints [] fits = numbers_of_none
numbers_of-varints (n ∷ ns) fits =
    numbers_of_next n (varint n ++ flat_map varint ns) (flat_map varint ns) (found_varint.again (varint n ++ flat_map varint ns) n (flat_map varint ns) (varint_spelled n (flat_map varint ns) fits.0))
    ∙ ap (λ (others : List ℕ). n ∷ others) (numbers_of-varints ns fits.1)
