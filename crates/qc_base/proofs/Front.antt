-- The front of bytes
use Rattle.std.proofs.Common.{◌≡◌, ℕ, ◌+◌, ◌<◌, ◌≤◌, List, ◌++◌, Bool, true, false, length, get_or, take, drop, Option, None, Some, refl, ap, sym, arith, cond, nat_lt}
use Rattle.std.proofs.Math.Seq.{take-append_seam, drop-append_seam}
use Rattle.std.proofs.lemmas.List.{take-append-drop, get_or-append-add, get_or_append_left, length-take-le, length-append}
use Rattle.std.proofs.lemmas.Bool.Decides.{nat_tests}
use Rattle.qc_base.specs.Reading.{bytes_of}
use Rattle.qc_base.specs.Grammar.{IsBytes}

-- bytes behind others are bytes, and so are those before them
pub behind_bytes : (a z : List ℕ) → IsBytes (a ++ z) → IsBytes z
behind_bytes a z h i = rw (← get_or-append-add a z i 0) (h (length a + i))

pub before_bytes : (a z : List ℕ) → IsBytes (a ++ z) → (i : ℕ) → i < length a → get_or a i 0 < 256
before_bytes a z h i less = rw (← get_or_append_left a z 0 i less) (h i)

-- too few bytes, or enough
short : (n m : ℕ) → n < m → nat_lt n m ≡ true
short n m h = grind (arith, nat_tests)

enough : (n m : ℕ) → m ≤ n → nat_lt n m ≡ false
enough n m h = grind (arith, nat_tests)

long : (n m : ℕ) → nat_lt n m ≡ false → m ≤ n
long n m h = grind (arith, nat_tests)

pub bytes_again : (n : ℕ) (x z : List ℕ) → length x ≡ n → bytes_of n (x ++ z) ≡ Some (x, z)
bytes_again n x z e =
    let fits : n ≤ length (x ++ z) = omega (arith, length-append x z) in
    rw (enough (length (x ++ z)) n fits, ← e, take-append_seam x z, drop-append_seam x z) refl

first_of_some : {A B : Type 0} → Option (A × B) → A → A
first_of_some None d = d
first_of_some (Some p) d = p.0

second_of_some : {A B : Type 0} → Option (A × B) → B → B
second_of_some None d = d
second_of_some (Some p) d = p.1

-- the parts of equal pairs
pub same_first : {A B : Type 0} (p q : A × B) → Some p ≡ Some q → p.0 ≡ q.0
unfolding first_of_some
same_first p q e = ap (λ o. first_of_some o p.0) e

pub same_second : {A B : Type 0} (p q : A × B) → Some p ≡ Some q → p.1 ≡ q.1
unfolding second_of_some
same_second p q e = ap (λ o. second_of_some o p.1) e

taken : (n : ℕ) (a x z : List ℕ) (b : Bool) → nat_lt (length a) n ≡ b → cond {A = Option (List ℕ × List ℕ)} b None (Some (take n a, drop n a)) ≡ Some (x, z) → (length x ≡ n) × (a ≡ x ++ z)
taken n a x z true t e = cc
taken n a x z false t e =
    let fits : n ≤ length a = long (length a) n t in
    let front : take n a ≡ x = same_first (take n a, drop n a) (x, z) e in
    let back : drop n a ≡ z = same_second (take n a, drop n a) (x, z) e in
    (rw (← front) (length-take-le n a fits), rw (← front, ← back) (sym (take-append-drop n a)))

pub bytes_take : (n : ℕ) (a x z : List ℕ) → bytes_of n a ≡ Some (x, z) → (length x ≡ n) × (a ≡ x ++ z)
bytes_take n a x z e = taken n a x z (nat_lt (length a) n) refl e
