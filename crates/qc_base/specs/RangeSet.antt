-- Sets of numbers as lists of ranges
use Rattle.std.specs.Prelude.{◌≡◌, ℕ, ◌+◌, ◌-◌, ◌<◌, ◌≤◌, ◌⊎◌, ◌↔◌, List, [], ◌∷◌, length, drop}
use Rattle.qc_base.specs.declared.range_set.NumberRange.{NumberRange}

-- n is in one of the ranges
abbrev pub Member : ℕ → List NumberRange → Type 0
Member n [] = ⊥
Member n (range ∷ ranges) = ((range.first ≤ n) × (n ≤ range.last)) ⊎ Member n ranges

-- the lowest range begins more than one number above n
abbrev pub Above : ℕ → List NumberRange → Type 0
Above n [] = Unit {0}
Above n (range ∷ ranges) = n + 1 < range.first

-- from low to high, none empty, and no two that overlap or touch
abbrev pub Normal : List NumberRange → Type 0
Normal [] = Unit {0}
Normal (range ∷ ranges) = (range.first ≤ range.last) × Above range.last ranges × Normal ranges

-- the 64 highest ranges
abbrev pub latest : List NumberRange → List NumberRange
latest ranges = drop (length ranges - 64) ranges

-- these normal ranges have the numbers of the old ones, and n
pub record Adds (n : ℕ) (old new : List NumberRange) : Type 0 where
  pub normal : Normal new
  pub numbers : (k : ℕ) → Member k new ↔ ((k ≡ n) ⊎ Member k old)

-- these normal ranges have the numbers of the old ones that are n or more
pub record KeepsFrom (n : ℕ) (old new : List NumberRange) : Type 0 where
  pub normal : Normal new
  pub numbers : (k : ℕ) → Member k new ↔ (Member k old × (n ≤ k))

-- the lowest range lies below n
abbrev pub EndsBelow : ℕ → List NumberRange → Type 0
EndsBelow n [] = ⊥
EndsBelow n (range ∷ ranges) = range.last < n
