-- The greatest of a list of numbers stands for all of them.
use Rattle.std.specs.Prelude.{true, false, ◌||◌, max, Option, Some, None, nat_le, if◌then◌else◌}
use Rattle.std.proofs.Common.{◌≡◌, ℕ, List, [], ◌∷◌, ◌++◌, refl, ap, ◌∙◌, arith}
use Rattle.std.proofs.lemmas.Bool.Decides.{nat_tests}
use Rattle.qc_rings.specs.Ring.{Ring, is_from, after_acked}
use Rattle.qc_rings.specs.TwoRings.{after_all_acked}
use Rattle.qc_rings.specs.Parties.{greatest_with}

-- the greatest of a list, if it has any
abbrev pub greatest : List ℕ → Option ℕ
greatest [] = None
greatest (n ∷ ns) = Some (greatest_with (greatest ns) n)

exchanged : (o : Option ℕ) (m n : ℕ) → greatest_with (Some (greatest_with o n)) m ≡ greatest_with (Some (greatest_with o m)) n
exchanged None m n = omega arith
exchanged (Some o) m n = omega arith

pub greatest-push : (ns : List ℕ) (n : ℕ) → greatest (ns ++ n ∷ []) ≡ Some (greatest_with (greatest ns) n)
greatest-push [] n = refl
greatest-push (m ∷ ns) n = ap (λ (o : Option ℕ). Some (greatest_with o m)) (greatest-push ns n) ∙ ap (λ (k : ℕ). Some k) (exchanged (greatest ns) m n)

-- acknowledging a number, if there is one
abbrev pub acked_by : Ring → Option ℕ → Ring
acked_by r None = r
acked_by r (Some n) = after_acked r n

from_max : (first : Option ℕ) (m n : ℕ) → is_from first (max n m) ≡ (is_from first m || is_from first n)
from_max None m n = refl
from_max (Some f) m n =
    elim (nat_le f m) as (λ t. nat_le f m ≡ t → nat_le f (max n m) ≡ (t || nat_le f n)) [
      | true ↦ λ e. grind (arith, nat_tests)
      | false ↦ λ e. elim (nat_le f n) as (λ u. nat_le f n ≡ u → nat_le f (max n m) ≡ u) [
        | true ↦ λ g. grind (arith, nat_tests)
        | false ↦ λ g. grind (arith, nat_tests)
      ] refl
    ] refl

-- two numbers are acknowledged as the greater one is
acked_twice : (r : Ring) (m n : ℕ) → after_acked (after_acked r m) n ≡ after_acked r (max n m)
unfolding after_acked
acked_twice r m n =
    let f = from_max r.first m n in
    elim (is_from r.first m) as (λ t. is_from r.first (max n m) ≡ (t || is_from r.first n) → (if is_from (if t then record r { acked = true } else r).first n then record (if t then record r { acked = true } else r) { acked = true } else (if t then record r { acked = true } else r)) ≡ (if is_from r.first (max n m) then record r { acked = true } else r)) [
      | true ↦ λ e. rw e (elim (is_from r.first n) as (λ u. (if u then record r { acked = true } else record r { acked = true }) ≡ record r { acked = true }) [ true ↦ refl | false ↦ refl ])
      | false ↦ λ e. rw e refl
    ] f

-- a list of numbers is acknowledged as its greatest one is
pub acked_by_greatest : (r : Ring) (ns : List ℕ) → after_all_acked r ns ≡ acked_by r (greatest ns)
acked_by_greatest r [] = refl
acked_by_greatest r (n ∷ ns) = acked_by_greatest (after_acked r n) ns ∙ one r n (greatest ns)
  where
    one : (r : Ring) (n : ℕ) (o : Option ℕ) → acked_by (after_acked r n) o ≡ after_acked r (greatest_with o n)
    one r n None = refl
    one r n (Some o) = acked_twice r n o
