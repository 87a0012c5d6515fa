-- Header protection (RFC 9001, section 5.4.1): a mask of 5 bytes hides the first byte's low bits
-- and the packet number
use Rattle.std.specs.Prelude.{ℕ, ◌+◌, ◌%◌, List, [], ◌∷◌, ◌++◌, take, drop, nat_lt, if◌then◌else◌, bit_xor}

-- the first byte of a list, or 0
abbrev pub first_byte : List ℕ → ℕ
first_byte [] = 0
first_byte (b ∷ bytes) = b

-- how many bytes the packet number has, by the first byte of an unmasked packet
abbrev pub number_len_in : List ℕ → ℕ
number_len_in packet = first_byte packet % 4 + 1

-- the bits of a first byte that a mask byte changes: the low 4 of a long header's, the low 5 of a
-- short one's
abbrev pub first_changes : (first : ℕ) → ℕ → ℕ
first_changes first m = if nat_lt first 128 then m % 32 else m % 16

-- the first byte changed
abbrev pub first_over : List ℕ → ℕ → List ℕ
first_over [] m = []
first_over (b ∷ bytes) m = bit_xor b (first_changes b m) ∷ bytes

-- each mask byte changes one byte, in their order; the bytes behind stay
abbrev pub mask_over : (bytes : List ℕ) → List ℕ → List ℕ
mask_over bytes [] = bytes
mask_over [] (m ∷ mask) = []
mask_over (b ∷ bytes) (m ∷ mask) = bit_xor b m ∷ mask_over bytes mask

-- the packet number changed, which has len bytes from pn_offset on, by all mask bytes but the first
abbrev pub number_over : (pn_offset len : ℕ) → (mask packet : List ℕ) → List ℕ
number_over pn_offset len mask packet = take pn_offset packet ++ mask_over (drop pn_offset packet) (take len (drop 1 mask))

-- the packet, whose number begins at pn_offset, under this mask
unfoldable pub masked_by : ℕ → (mask packet : List ℕ) → List ℕ
masked_by pn_offset mask packet =
    number_over pn_offset (number_len_in packet) mask (first_over packet (first_byte mask))

-- the packet without it: the number's length is known once the first byte is
unfoldable pub unmasked_by : ℕ → (mask packet : List ℕ) → List ℕ
unmasked_by pn_offset mask packet =
    let unprotected = first_over packet (first_byte mask) in number_over pn_offset (number_len_in unprotected) mask unprotected

-- the 16 bytes that the mask is made of, as if the packet number had 4 bytes
unfoldable pub sample_at : ℕ → List ℕ → List ℕ
sample_at pn_offset packet = take 16 (drop (pn_offset + 4) packet)

-- the packet, whose number begins at pn_offset, under the mask that mask_of makes of its sample
unfoldable pub masked : (List ℕ → List ℕ) → ℕ → List ℕ → List ℕ
masked mask_of pn_offset packet = masked_by pn_offset (mask_of (sample_at pn_offset packet)) packet

-- and the packet without that mask
unfoldable pub unmasked : (List ℕ → List ℕ) → ℕ → List ℕ → List ℕ
unmasked mask_of pn_offset packet = unmasked_by pn_offset (mask_of (sample_at pn_offset packet)) packet
