-- Sixteen bytes as a number, the lowest first
use Rattle.std.specs.Prelude.{ℕ, ◌+◌, ◌*◌, ◌/◌, ◌%◌, ◌^◌, List, ◌++◌, take, drop}
use Rattle.std.specs.Int.{to_le_bytes, from_le_bytes, w64}

-- the bytes of a number below 2^128: those of its lower half, and those of its upper half
unfoldable pub nonce_bytes : ℕ → List ℕ
nonce_bytes n = to_le_bytes w64 (n % 2 ^ 64) ++ to_le_bytes w64 (n / 2 ^ 64)

-- the number of sixteen bytes
unfoldable pub nonce_of : List ℕ → ℕ
nonce_of bytes = from_le_bytes w64 (take 8 bytes) + 2 ^ 64 * from_le_bytes w64 (drop 8 bytes)
