-- A walk along a list by place
use Rattle.std.proofs.Common.{◌≡◌, ℕ, zero, suc, ◌+◌, ◌<◌, ◌≤◌, Bool, true, false, List, [], ◌∷◌, ◌++◌, length, take, drop, get_or, append-nil, refl, sym, ap, add-one, arith}
use Rattle.std.specs.List.{list_any}

suc_here : {X : Type 0} (xs : List X) (place : ℕ) (x : X) → x ≡ get_or xs place x → place < length xs → drop place xs ≡ x ∷ drop (suc place) xs
suc_here [] place x is within = absurd (omega arith)
suc_here (y ∷ xs) zero x is within = ap (λ z. z ∷ xs) (sym is)
suc_here (y ∷ xs) (suc place) x is within = suc_here xs place x is (omega arith)

-- what is left is the element at the place, and what comes after it
pub here : {X : Type 0} (xs : List X) (place : ℕ) (x : X) → x ≡ get_or xs place x → place < length xs → drop place xs ≡ x ∷ drop (place + 1) xs
here xs place x is within = rw add-one (suc_here xs place x is within)

pub nothing_left : {X : Type 0} (xs : List X) (place : ℕ) → length xs ≤ place → drop place xs ≡ []
nothing_left [] zero le = refl
nothing_left [] (suc place) le = refl
nothing_left (x ∷ xs) zero le = absurd (omega arith)
nothing_left (x ∷ xs) (suc place) le = nothing_left xs place (omega arith)

pub all_left : {X : Type 0} (xs : List X) → drop 0 xs ≡ xs
all_left [] = refl
all_left (x ∷ xs) = refl

pub any_here : {X : Type 0} (test : X → Bool) (xs : List X) (place : ℕ) (x : X) → x ≡ get_or xs place x → place < length xs → test x ≡ true → list_any test (drop place xs) ≡ true
any_here test xs place x is within passes = rw (here xs place x is within, passes) refl

pub any_more : {X : Type 0} (test : X → Bool) (xs : List X) (place : ℕ) (x : X) → x ≡ get_or xs place x → place < length xs → test x ≡ false → list_any test (drop (place + 1) xs) ≡ list_any test (drop place xs)
any_more test xs place x is within fails = rw (here xs place x is within, fails) refl

pub any_none : {X : Type 0} (test : X → Bool) (xs : List X) (place : ℕ) → length xs ≤ place → list_any test (drop place xs) ≡ false
any_none test xs place le = rw (nothing_left xs place le) refl

take_all : {X : Type 0} (xs : List X) (n : ℕ) → length xs ≤ n → take n xs ≡ xs
take_all [] zero le = refl
take_all [] (suc n) le = refl
take_all (x ∷ xs) zero le = absurd (omega arith)
take_all (x ∷ xs) (suc n) le = ap (λ ys. x ∷ ys) (take_all xs n (omega arith))

-- elements written over all others
pub written_over : {X : Type 0} (xs ys : List X) (n : ℕ) → n ≡ length ys → length xs ≡ length ys → take n (xs ++ drop (length xs) ys) ≡ xs
written_over xs ys n is same = rw (nothing_left ys (length xs) (omega arith), append-nil xs) (take_all xs n (omega arith))
