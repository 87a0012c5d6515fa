-- Lists of sequence numbers
use Rattle.std.specs.Prelude.{ℕ, zero, suc, ◌+◌, ◌<◌, ◌≤◌, List, [], ◌∷◌}

-- from low up to, but without, high, in ascending order: none comes twice
abbrev pub Rises : (low high : ℕ) → List ℕ → Type 0
Rises low high [] = Unit {0}
Rises low high (n ∷ ns) = (low ≤ n) × (n < high) × Rises (n + 1) high ns

-- so many numbers, one after another
abbrev pub numbers_on : (start : ℕ) → ℕ → List ℕ
numbers_on start zero = []
numbers_on start (suc count) = start ∷ numbers_on (start + 1) count
