-- Setting the Length field of a header that was written into a buffer (RFC 9000, section 17.2)
use Rattle.std.specs.Prelude.{◌≡◌, ℕ, ◌+◌, ◌-◌, ◌||◌, nat_lt, List, ◌∷◌, ◌++◌, length, take, drop, if◌then◌else◌, Option, None, Some}
use Rattle.std.specs.Option.{option_map, option_and_then}
use Rattle.std.specs.Int.{w16, to_be_bytes}
use Rattle.qc_base.specs.Mask.{first_byte}
use Rattle.qc_base.specs.PacketNumber.{number_len}
use Rattle.qc_header.specs.declared.encode.PartialEncode.{PartialEncode}
use Rattle.qc_header.specs.declared.header.Header.{Header}
use Rattle.qc_header.specs.HeaderSpelling.{header_spelling, header_number}

-- where the Length field begins, if the form has one: behind the first byte of a long header, whose bytes are all
-- there, and right before its number
abbrev pub length_before : PartialEncode → List ℕ → ℕ → Option ℕ
length_before p header pn_len =
    if nat_lt (first_byte header) 128 || nat_lt (length header) p.header_len || nat_lt p.header_len (pn_len + 3) then None
    else Some (p.start + (p.header_len - pn_len - 2))

-- the same in a buffer, where the form has a number
unfoldable pub length_place : PartialEncode → List ℕ → Option ℕ
length_place p bytes = option_and_then (length_before p (drop p.start bytes)) p.pn_len

-- the bytes with this Length field in its two bytes at this place
abbrev pub length_over : ℕ → List ℕ → Option ℕ → List ℕ
length_over length_field bytes None = bytes
length_over length_field bytes (Some place) = take place bytes ++ to_be_bytes w16 (0x4000 + length_field) ++ drop (place + 2) bytes

-- the bytes of a buffer whose header's Length field is set; they stay where the form has none
unfoldable pub with_length : PartialEncode → ℕ → List ℕ → List ℕ
with_length p length_field bytes = length_over length_field bytes (length_place p bytes)

-- where a header stands that was written behind these bytes
pub record IsPlaceOf (p : PartialEncode) (before : List ℕ) (header : Header) : Type 0 where
  pub start : p.start ≡ length before
  pub header_len : p.header_len ≡ length (header_spelling header 0)
  pub pn_len : p.pn_len ≡ option_map number_len (header_number header)

-- a header's bytes with another first byte
abbrev pub begun_by : ℕ → List ℕ → List ℕ
begun_by first spelling = first ∷ drop 1 spelling
