-- A packet's header without header protection (RFC 9001, section 5.4)
use Rattle.std.specs.Prelude.{ℕ, ◌+◌, ◌*◌, ◌/◌, ◌%◌, ◌==◌, ◌<◌, List, [], ◌∷◌, length, take, drop, if◌then◌else◌, IsTrue, Option, Some, None}
use Rattle.std.specs.Borrow.{Bor}
use Rattle.qc_base.specs.declared.packet_number.PacketNumber.{PacketNumber}
use Rattle.qc_base.specs.declared.packet_number.PacketNumber.TheVariants.{U8, U16, U24, U32}
use Rattle.qc_base.specs.Mask.{unmasked, number_len_in, first_byte}
use Rattle.qc_header.specs.declared.header.Header.{Header}
use Rattle.qc_header.specs.declared.header.Header.TheVariants as open_header
use Rattle.qc_header.specs.declared.protected.ProtectedHeader.{ProtectedHeader}
use Rattle.qc_header.specs.declared.protected.ProtectedHeader.TheVariants.{Initial, Long, Retry, Short, VersionNegotiate}
use Rattle.qc_header.specs.Piece.{Piece, is_protected}

-- the packet is too short for a sample
abbrev pub IsCut : Piece → Type 0
IsCut p = IsTrue (is_protected p.header) × (length p.bytes < p.pn_offset + 20)

-- the masks that a key makes, where a key is given
abbrev pub masks_of : {H : Type 0} → (H → List ℕ → List ℕ) → Option (Bor H) → List ℕ → List ℕ
masks_of mask_of None sample = []
masks_of mask_of (Some key) sample = mask_of key.now sample

-- the packet's bytes without header protection
abbrev pub unprotected : (List ℕ → List ℕ) → Piece → List ℕ
unprotected mask_of p = if is_protected p.header then unmasked mask_of p.pn_offset p.bytes else p.bytes

-- where its header ends
abbrev pub header_end : Piece → List ℕ → ℕ
header_end p bytes = if is_protected p.header then p.pn_offset + number_len_in bytes else p.pn_offset

-- the number that is spelled by 1 to 4 bytes (section 17.1), the highest first
abbrev pub number_from : List ℕ → PacketNumber
number_from [] = U8 0
number_from (a ∷ []) = U8 a
number_from (a ∷ b ∷ []) = U16 (256 * a + b)
number_from (a ∷ b ∷ c ∷ []) = U24 (65536 * a + 256 * b + c)
number_from (a ∷ b ∷ c ∷ d ∷ rest) = U32 (16777216 * a + 65536 * b + 256 * c + d)

-- the whole header, from what was readable before, where the number begins, and the unprotected bytes
abbrev pub header_from : ProtectedHeader → ℕ → List ℕ → Header
header_from (Initial dst_cid src_cid token_start token_len version) pn_offset bytes =
    open_header.Initial (record {
      dst_cid = dst_cid;
      src_cid = src_cid;
      token = take token_len (drop token_start bytes);
      number = number_from (drop pn_offset bytes);
      version = version;
    })
header_from (Long ty dst_cid src_cid version) pn_offset bytes =
    open_header.Long ty dst_cid src_cid (number_from (drop pn_offset bytes)) version
header_from (Retry dst_cid src_cid version) pn_offset bytes = open_header.Retry dst_cid src_cid version
header_from (Short spin dst_cid) pn_offset bytes =
    open_header.Short spin (first_byte bytes / 4 % 2 == 1) dst_cid (number_from (drop pn_offset bytes))
header_from (VersionNegotiate random src_cid dst_cid) pn_offset bytes =
    open_header.VersionNegotiate random src_cid dst_cid

-- a 1-RTT packet to this id, whose number begins at pn_offset
abbrev pub short_packet : (dst_cid : List ℕ) → (pn_offset : ℕ) → (bytes : List ℕ) → Piece
short_packet dst_cid pn_offset bytes = record { header = Short (first_byte bytes / 32 % 2 == 1) dst_cid; pn_offset = pn_offset; bytes = bytes }
