-- How the bytes that came are kept: each part under the offset where it ends
use Rattle.std.specs.Prelude.{◌≡◌, ℕ, ◌+◌, ◌-◌, ◌<◌, ◌≤◌, Bool, false, ◌==◌, nat_lt, if◌then◌else◌, List, [], ◌∷◌, ◌++◌, length, take, drop, Option, None, Some, is_some}
use Rattle.std.specs.Map.{remove_entry, lookup}
use Rattle.std.specs.BTreeMap.{is_at}
use Rattle.std.specs.Ordering.{nat_cmp}
use Rattle.qc_assembler.specs.Assembly.{run}

-- the bytes of all parts with their offsets
unfoldable pub flat : List (ℕ × List ℕ) → List (ℕ × ℕ)
flat [] = []
flat (e ∷ es) = run (e.0 - length e.1) e.1 ++ flat es

-- parts that hold bytes, ascend, don't overlap and lie at lo or above
unfoldable pub Apart : ℕ → List (ℕ × List ℕ) → Type 0
Apart lo [] = Unit {0}
Apart lo (e ∷ es) = (0 < length e.1) × (lo + length e.1 ≤ e.0) × Apart e.0 es

-- whether the first part begins at o
unfoldable pub starts_at : ℕ → List (ℕ × List ℕ) → Bool
starts_at o [] = false
starts_at o (e ∷ es) = e.0 - length e.1 == o

-- 1 for a test that holds
unfoldable pub one : Bool → ℕ
one b = if b then 1 else 0

-- how many parts begin where the one before ends
unfoldable pub joints : List (ℕ × List ℕ) → ℕ
joints [] = 0
joints (e ∷ es) = one (starts_at e.0 es) + joints es

-- where the first part that ends behind the offset o ends, and how long it is
unfoldable pub first_past : ℕ → List (ℕ × List ℕ) → Option (ℕ × ℕ)
first_past o [] = None
first_past o (e ∷ es) = if nat_lt o e.0 then Some (e.0, length e.1) else first_past o es

-- whether a part ends at o
unfoldable pub ends_at : ℕ → List (ℕ × List ℕ) → Bool
ends_at o es = is_some (lookup (is_at (nat_cmp o)) es)

-- a part that ends at n has room before that one, given by where it ends and how long it is
unfoldable pub HasRoom : ℕ → Option (ℕ × ℕ) → Type 0
HasRoom n None = Unit {0}
HasRoom n (Some p) = n + p.1 ≤ p.0

-- whether that part begins at n
unfoldable pub part_begins : ℕ → Option (ℕ × ℕ) → Bool
part_begins n None = false
part_begins n (Some p) = p.0 - p.1 == n

-- without the parts that end at those offsets, the last of them taken out first
unfoldable pub undone : List ℕ → List (ℕ × List ℕ) → List (ℕ × List ℕ)
undone [] es = es
undone (k ∷ ks) es = remove_entry (is_at (nat_cmp k)) (undone ks es)

-- What holds of the parts that are kept, and of how many of them join the one before
pub record IsKept (es : List (ℕ × List ℕ)) (joined : ℕ) : Type 0 where
  -- they hold bytes, ascend and don't overlap
  pub apart : Apart 0 es
  -- so many join
  pub count : joined ≡ joints es

-- where the first part ends, and how long it is
unfoldable pub first_part : List (ℕ × List ℕ) → Option (ℕ × ℕ)
first_part [] = None
first_part (e ∷ es) = Some (e.0, length e.1)

-- where the first part begins, 0 where there is none
unfoldable pub first_begin : List (ℕ × List ℕ) → ℕ
first_begin [] = 0
first_begin (e ∷ es) = e.0 - length e.1

-- how long the first part is, 0 where there is none
unfoldable pub first_length : List (ℕ × List ℕ) → ℕ
first_length [] = 0
first_length (e ∷ es) = length e.1

-- at most so many bytes of the first part
unfoldable pub front_bytes : ℕ → List (ℕ × List ℕ) → List ℕ
front_bytes most [] = []
front_bytes most (e ∷ es) = take most e.1

-- without so many bytes of the first part, of which some are left
unfoldable pub without_front : ℕ → List (ℕ × List ℕ) → List (ℕ × List ℕ)
without_front n [] = []
without_front n (e ∷ es) = (e.0, drop n e.1) ∷ es
