-- Connection ids that carry a check value: three nonce bytes, and five that a key makes of them
use Rattle.std.specs.Prelude.{ℕ, ◌+◌, ◌*◌, ◌/◌, ◌%◌, ◌^◌, ◌==◌, ◌&&◌, Bool, List, ◌++◌, length, take, drop, slice_index, nat_eq, bit_xor}
use Rattle.std.specs.Int.{to_le_bytes, w64}
use Rattle.std.specs.Cmp.Lexicographic.{pointwise}

-- three bytes as a number, the lowest first
abbrev pub nonce_number : List ℕ → ℕ
nonce_number nonce = slice_index nonce 0 + 256 * slice_index nonce 1 + 65536 * slice_index nonce 2

-- the key plus the nonce, times 2^64 divided by the golden ratio, in 64 bits
abbrev pub spread : ℕ → List ℕ → ℕ
spread key nonce = (key + nonce_number nonce) * 0x9E3779B97F4A7C15 % 2 ^ 64

-- its lower half mixed with its upper half
unfoldable pub mix : ℕ → List ℕ → ℕ
mix key nonce = bit_xor (spread key nonce) (spread key nonce / 2 ^ 32)

-- the five bytes that go with a nonce
unfoldable pub check_bytes : ℕ → List ℕ → List ℕ
check_bytes key nonce = take 5 (to_le_bytes w64 (mix key nonce))

-- the id of a nonce
unfoldable pub hashed_cid : ℕ → List ℕ → List ℕ
hashed_cid key nonce = nonce ++ check_bytes key nonce

-- an id has 8 bytes, and its last five go with its first three
unfoldable pub is_hashed_cid : ℕ → List ℕ → Bool
is_hashed_cid key id = length id == 8 && pointwise nat_eq (drop 3 id) (check_bytes key (take 3 id))
