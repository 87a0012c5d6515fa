-- Times as numbers of nanoseconds below 2^64: sums and products stop at the greatest one
use Rattle.std.specs.Prelude.{ℕ, ◌+◌, ◌*◌, min}

-- the sum, or the greatest time
abbrev pub plus : ℕ → ℕ → ℕ
plus a b = min (a + b) 18446744073709551615

-- the product, or the greatest time
abbrev pub times : ℕ → ℕ → ℕ
times a b = min (a * b) 18446744073709551615
