-- The part that waits outside of the tree, at the offset read so far
use Rattle.std.specs.Prelude.{◌≡◌, ℕ, ◌+◌, ◌^◌, ◌<◌, nat_lt, if◌then◌else◌, List, [], ◌∷◌, length, drop, Option, None, Some}
use Rattle.qc_assembler.specs.Ahead.{IsSound}

-- the parts that are kept: those of the tree, or the front part alone, which begins at the offset o
unfoldable pub entries_with : ℕ → Option (List ℕ) → List (ℕ × List ℕ) → List (ℕ × List ℕ)
entries_with o None parts = parts
entries_with o (Some p) parts = (o + length p, p) ∷ []

-- a front part holds bytes, ends below 2^64, and no part stands in the tree beside it
unfoldable pub IsAlone : ℕ → Option (List ℕ) → List (ℕ × List ℕ) → Type 0
IsAlone o None parts = Unit {0}
IsAlone o (Some p) parts = (0 < length p) × (o + length p < 2 ^ 64) × (parts ≡ [])

-- what is left of the front part where at most so many bytes of it were read
unfoldable pub front_left : ℕ → Option (List ℕ) → Option (List ℕ)
front_left most None = None
front_left most (Some p) = if nat_lt most (length p) then Some (drop most p) else None

-- What holds of all that is kept, the front part with it
pub record IsWhole (read : ℕ) (ranges : List (ℕ × ℕ)) (front : Option (List ℕ)) (parts : List (ℕ × List ℕ)) (joined : ℕ) : Type 0 where
  -- of the parts
  pub sound : IsSound read ranges (entries_with read front parts) joined
  -- of the front part and the tree
  pub alone : IsAlone read front parts
