-- The first of a list is taken out.
use Rattle.std.proofs.Common.{◌≡◌, ℕ, List, [], ◌∷◌, length, drop, refl, ap, true, false, Some, None, arith}
use Rattle.std.proofs.lemmas.Bool.Decides.{nat_tests}
use Rattle.std.specs.Prelude.{◌==◌, remove, slice_get, slice_index_or}

-- a count that was tested for 0
pub empty_of : (n : ℕ) → (n == 0) ≡ true → n ≡ 0
empty_of n h = grind (arith, nat_tests)

module _ {A : Type 0} where
  pub first_taken : (xs : List A) (x : A) → (length xs == 0) ≡ false → x ≡ slice_index_or xs 0 x → Some x ≡ slice_get xs 0
  first_taken [] x some is = cc
  first_taken (y ∷ ys) x some is = ap Some is

  pub others_left : (xs ys : List A) → (length xs == 0) ≡ false → ys ≡ remove xs 0 → ys ≡ drop 1 xs
  others_left [] ys some is = cc
  others_left (x ∷ xs) ys some is = is

  pub none_first : (xs : List A) → (length xs == 0) ≡ true → None ≡ slice_get xs 0
  none_first [] none = refl
  none_first (x ∷ xs) none = absurd (omega (arith, empty_of (length (x ∷ xs)) none))

  pub none_left : (xs : List A) → (length xs == 0) ≡ true → xs ≡ drop 1 xs
  none_left [] none = refl
  none_left (x ∷ xs) none = absurd (omega (arith, empty_of (length (x ∷ xs)) none))
