-- A packet whose header has been read as far as header protection lets it
use Rattle.std.specs.Prelude.{ℕ, ◌+◌, ◌≤◌, List, length, Bool, true, false, Option, Some, None, is_some}
use Rattle.qc_base.specs.declared.side.LongType.TheVariants.{Handshake, ZeroRtt}
use Rattle.qc_base.specs.declared.side.SpaceId.{SpaceId}
use Rattle.qc_base.specs.declared.side.SpaceId.TheVariants as space
use Rattle.qc_header.specs.declared.protected.ProtectedHeader.{ProtectedHeader}
use Rattle.qc_header.specs.declared.protected.ProtectedHeader.TheVariants.{Initial, Long, Retry, Short, VersionNegotiate}

-- what is readable of the header; where its number begins, or where it ends if its form has no
-- number; and all of the packet's bytes
pub record Piece : Type 0 where
  pub header : ProtectedHeader
  pub pn_offset : ℕ
  pub bytes : List ℕ

-- where the token ends, if the form has one, else 0
abbrev pub token_end : ProtectedHeader → ℕ
token_end (Initial dst_cid src_cid token_start token_len version) = token_start + token_len
token_end (Long ty dst_cid src_cid version) = 0
token_end (Retry dst_cid src_cid version) = 0
token_end (Short spin dst_cid) = 0
token_end (VersionNegotiate random src_cid dst_cid) = 0

-- header and number lie in the packet, and the token before the number
pub record IsWithin (header : ProtectedHeader) (pn_offset : ℕ) (bytes : List ℕ) : Type 0 where
  pub fits : pn_offset ≤ length bytes
  pub token : token_end header ≤ pn_offset

-- the number space of a packet of this form (RFC 9000, section 12.3), if it has a number
abbrev pub space_of : ProtectedHeader → Option SpaceId
space_of (Initial dst_cid src_cid token_start token_len version) = Some space.Initial
space_of (Long Handshake dst_cid src_cid version) = Some space.Handshake
space_of (Long ZeroRtt dst_cid src_cid version) = Some space.Data
space_of (Retry dst_cid src_cid version) = None
space_of (Short spin dst_cid) = Some space.Data
space_of (VersionNegotiate random src_cid dst_cid) = None

-- whether it is protected: exactly the forms with a number are
abbrev pub is_protected : ProtectedHeader → Bool
is_protected header = is_some (space_of header)

-- whether it is a 0-RTT packet's
abbrev pub is_0rtt_header : ProtectedHeader → Bool
is_0rtt_header (Long ZeroRtt dst_cid src_cid version) = true
is_0rtt_header _ = false
