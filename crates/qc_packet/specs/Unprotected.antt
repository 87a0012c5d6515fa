-- Taking header protection off a packet (RFC 9001, section 5.4), and stateless resets (RFC 9000, section 10.3).
use Rattle.std.specs.Prelude.{◌≡◌, ℕ, ◌+◌, ◌-◌, Bool, true, false, ◌&&◌, not, List, length, take, drop, Option, Some, None, is_some, nat_eq, nat_lt, nat_le}
use Rattle.std.specs.Cmp.Lexicographic.{pointwise}
use Rattle.qc_header.specs.declared.finish.Packet.{Packet}
use Rattle.qc_header.specs.Piece.{Piece, is_protected}
use Rattle.qc_header.specs.Unprotected.{unprotected, header_end, header_from}
use Rattle.qc_packet.specs.declared.unprotect.UnprotectHeaderResult.{UnprotectHeaderResult}

-- whether a packet has at least 21 bytes, of which the last 16 are the reset token
abbrev pub is_reset : List ℕ → Option (List ℕ) → Bool
is_reset bytes None = false
is_reset bytes (Some token) = nat_le 21 (length bytes) && pointwise nat_eq token (drop (length bytes - 16) bytes)

-- whether a packet is protected and has too few bytes for a sample
abbrev pub is_cut : Piece → Bool
is_cut p = is_protected p.header && nat_lt (length p.bytes) (p.pn_offset + 20)

-- whether a packet is protected and no key is there
abbrev pub is_key_missing : Piece → Bool → Bool
is_key_missing p has_key = is_protected p.header && not has_key

-- whether a packet is told, and whether it is told as a reset; nothing is told where the key is missing, nor
-- where the sample is cut and it is no reset
abbrev pub told_as : Bool → (cut reset : Bool) → Option (Bool × Bool)
told_as true cut reset = None
told_as false true false = None
told_as false true true = Some (false, true)
told_as false false reset = Some (true, reset)

-- what was told
abbrev pub told_in : Option UnprotectHeaderResult → Option (Bool × Bool)
told_in None = None
told_in (Some told) = Some (is_some told.packet, told.stateless_reset)

-- the packet of a piece, its mask taken off: the header in full, its bytes, and the payload behind them
pub record IsUnprotected (mask_of : List ℕ → List ℕ) (piece : Piece) (p : Packet) : Type 0 where
  pub header : p.header ≡ header_from piece.header piece.pn_offset p.header_data
  pub header_data : p.header_data ≡ take (header_end piece (unprotected mask_of piece)) (unprotected mask_of piece)
  pub payload : p.payload.items ≡ drop (header_end piece (unprotected mask_of piece)) (unprotected mask_of piece)
