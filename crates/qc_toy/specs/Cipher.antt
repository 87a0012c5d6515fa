-- The toy's arithmetic: xor with the key, and a tag of 16 bytes.
use Rattle.std.specs.Prelude.{ℕ, zero, suc, Bool, ◌+◌, ◌-◌, ◌*◌, ◌%◌, nat_lt, replicate, if◌then◌else◌, List, [], ◌∷◌, ◌++◌, length, take, drop, slice_index, bit_xor, Option, Some, None}
use Rattle.std.specs.Int.{w64, to_le_bytes}
use Rattle.std.specs.Str.{bytes_eq}

-- Each byte xored with a byte of the key: these are taken in turn, from `at` on.
abbrev pub xored : List ℕ → ℕ → List ℕ → List ℕ
xored key at [] = []
xored key at (b ∷ bytes) = bit_xor b (slice_index key (at % 16)) ∷ xored key (at + 1) bytes

-- The sum of each byte times its place, the first having place `at` + 1.
abbrev pub weight : ℕ → List ℕ → ℕ
weight at [] = 0
weight at (b ∷ bytes) = (at + 1) * b + weight (at + 1) bytes

-- The checksum t of a number, a header and plain bytes.
unfoldable pub checksum : ℕ → (header plain : List ℕ) → ℕ
checksum number header plain = (weight 0 header + weight (length header) plain + number) % 256

-- Bytes 1 to 7 of a number, byte 0 being the lowest, each at its place among 16, and else 0.
unfoldable pub number_bytes : ℕ → List ℕ
number_bytes number = 0 ∷ drop 1 (to_le_bytes w64 number) ++ replicate 8 0

-- f at as many numbers as `count`, from `at` on.
abbrev pub tabulated : (ℕ → ℕ) → (at : ℕ) → ℕ → List ℕ
tabulated f at zero = []
tabulated f at (suc count) = f at ∷ tabulated f (at + 1) count

-- Byte i of the tag of a checksum t and a number.
abbrev pub tag_byte : List ℕ → ℕ → (number : ℕ) → ℕ → ℕ
tag_byte key t number i = (slice_index key i + t * (i + 1) + slice_index (number_bytes number) i) % 256

-- the 16 bytes behind sealed bytes, of the key, the checksum t and the packet number
unfoldable pub tag : List ℕ → ℕ → (number : ℕ) → List ℕ
tag key t number = tabulated (tag_byte key t number) 0 16

-- Sealing: the plain bytes xored, and the tag.
unfoldable pub toy_seal : List ℕ → ℕ → (header plain : List ℕ) → List ℕ
toy_seal key number header plain = xored key 0 plain ++ tag key (checksum number header plain) number

-- What the tag of sealed bytes has to be, and the plain bytes before it.
abbrev pub plain_of : (key sealed : List ℕ) → List ℕ
plain_of key sealed = xored key 0 (take (length sealed - 16) sealed)

-- whether the last 16 of some sealed bytes are the tag of the number, the header and the plain bytes
abbrev pub tag_fits : List ℕ → ℕ → (header sealed : List ℕ) → Bool
tag_fits key number header sealed =
    bytes_eq (drop (length sealed - 16) sealed) (tag key (checksum number header (plain_of key sealed)) number)

-- Opening: the plain bytes, where the tag fits.
unfoldable pub toy_opening : List ℕ → ℕ → (header sealed : List ℕ) → Option (List ℕ)
toy_opening key number header sealed =
    if nat_lt (length sealed) 16 then None
    else (if tag_fits key number header sealed then Some (plain_of key sealed) else None)

-- The mask: the first five bytes of the key xored with those of the sample.
unfoldable pub toy_mask : (key sample : List ℕ) → List ℕ
toy_mask key sample = tabulated (λ i. bit_xor (slice_index key i) (slice_index sample i)) 0 5

-- A signature is a tag of the checksum of the body, with number 0.
unfoldable pub toy_signature : (key body : List ℕ) → List ℕ
toy_signature key body = tag key (checksum 0 [] body) 0

-- The key of a token: the master key xored with the token's random bytes.
unfoldable pub token_key : (master nonce : List ℕ) → List ℕ
token_key master nonce = tabulated (λ i. bit_xor (slice_index master i) (slice_index nonce i)) 0 16
