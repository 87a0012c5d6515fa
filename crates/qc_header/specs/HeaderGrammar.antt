-- Which bytes begin with which packet (RFC 9000, sections 12.2 and 17), as far as header protection lets it tell.
-- Variable-length integers may have any form, and bits that are hidden or mean nothing any value.
use Rattle.std.specs.Prelude.{◌≡◌, ◌≢◌, ℕ, ◌+◌, ◌-◌, ◌/◌, ◌%◌, ◌<◌, ◌≤◌, ◌⊎◌, ◌==◌, Bool, true, List, [], ◌∷◌, ◌++◌, length, None, Some, Result, Ok, Err}
use Rattle.std.specs.Int.{w32}
use Rattle.qc_base.specs.Grammar.{Spelling, ◌>>=◌, Is, Where, Bytes, Byte, Word, Left, Varint}
use Rattle.qc_base.specs.declared.side.LongType.{LongType}
use Rattle.qc_base.specs.declared.side.LongType.TheVariants.{Handshake, ZeroRtt}
use Rattle.qc_header.specs.declared.protected.PacketDecodeError.{PacketDecodeError}
use Rattle.qc_header.specs.declared.protected.PacketDecodeError.TheVariants.{InvalidHeader, UnsupportedVersion, OutOfMemory}
use Rattle.qc_header.specs.declared.protected.ProtectedHeader.TheVariants.{Initial, Long, Retry, Short, VersionNegotiate}
use Rattle.qc_header.specs.HeaderReading.{Heading}
use Rattle.qc_header.specs.Known.{IsKnown}
use Rattle.qc_header.specs.Piece.{Piece}

-- ---- headers

-- a connection id behind its length, which is at most 20 (section 17.2)
abbrev pub Id : Spelling (List ℕ)
Id = do
  len ← Byte
  Where (len ≤ 20) (Bytes len)

-- behind the ids of an Initial packet, whose datagram has size bytes (section 17.2.2)
abbrev pub InitialFields : ℕ → (dst_cid src_cid : List ℕ) → ℕ → Spelling Heading
InitialFields size dst_cid src_cid version = do
  token_len ← Varint
  left ← Left
  token ← Bytes token_len
  payload_len ← Varint
  Is (Initial dst_cid src_cid (size - left) token_len version, Some payload_len)

-- and of a 0-RTT or Handshake packet (sections 17.2.3 and 17.2.4)
abbrev pub NumberedFields : LongType → (dst_cid src_cid : List ℕ) → ℕ → Spelling Heading
NumberedFields ty dst_cid src_cid version = do
  payload_len ← Varint
  Is (Long ty dst_cid src_cid version, Some payload_len)

-- the bytes a behind the ids of a long header begin with the other fields of h, and go on with z: the version 0 is
-- Version Negotiation's (section 17.2.1); of a version that is known, bits 0x30 of the first byte are the type
pub data TypeFields (size : ℕ) (versions : List ℕ) (first version : ℕ) (dst_cid src_cid : List ℕ) (h : Heading) (a z : List ℕ) : Type 0 where
  is_version_negotiation : version ≡ 0 → Is (VersionNegotiate (first % 128) src_cid dst_cid, None) h a z
      → TypeFields size versions first version dst_cid src_cid h a z
  is_initial : IsKnown version versions → first / 16 % 4 ≡ 0 → InitialFields size dst_cid src_cid version h a z
      → TypeFields size versions first version dst_cid src_cid h a z
  is_0rtt : IsKnown version versions → first / 16 % 4 ≡ 1 → NumberedFields ZeroRtt dst_cid src_cid version h a z
      → TypeFields size versions first version dst_cid src_cid h a z
  is_handshake : IsKnown version versions → first / 16 % 4 ≡ 2 → NumberedFields Handshake dst_cid src_cid version h a z
      → TypeFields size versions first version dst_cid src_cid h a z
  is_retry : IsKnown version versions → first / 16 % 4 ≡ 3 → Is (Retry dst_cid src_cid version, None) h a z
      → TypeFields size versions first version dst_cid src_cid h a z

-- behind the first byte of a long header (section 17.2)
abbrev pub LongFields : ℕ → List ℕ → ℕ → Spelling Heading
LongFields size versions first = do
  version ← Word w32
  dst_cid ← Id
  src_cid ← Id
  TypeFields size versions first version dst_cid src_cid

-- behind the first byte of a short header, whose id has the length that this end chose (section 17.3.1)
abbrev pub ShortFields : (local_cid_len first : ℕ) → Spelling Heading
ShortFields local_cid_len first = do
  dst_cid ← Bytes local_cid_len
  Is (Short (first / 32 % 2 == 1) dst_cid, None)

-- the fixed bit is set, or the reader takes packets without it (RFC 9287)
abbrev pub IsFixed : Bool → ℕ → Type 0
IsFixed grease_quic_bit first = (first / 64 % 2 ≡ 1) ⊎ (grease_quic_bit ≡ true)

-- the bytes a of a datagram begin with the header h, and go on with z
pub data HeaderAt (local_cid_len : ℕ) (versions : List ℕ) (grease_quic_bit : Bool) (size : ℕ) (h : Heading) (a z : List ℕ) : Type 0 where
  is_short : (first : ℕ) (b : List ℕ) → Byte first a b → IsFixed grease_quic_bit first → first < 128
      → ShortFields local_cid_len first h b z → HeaderAt local_cid_len versions grease_quic_bit size h a z
  is_long : (first : ℕ) (b : List ℕ) → Byte first a b → IsFixed grease_quic_bit first → 128 ≤ first
      → LongFields size versions first h b z → HeaderAt local_cid_len versions grease_quic_bit size h a z

-- ---- packets

-- the datagram a begins with the packet p, and goes on with z. A packet ends where its Length field says, or else with
-- its datagram; its number begins right behind what is readable of its header
pub data PieceAt (local_cid_len : ℕ) (versions : List ℕ) (grease_quic_bit : Bool) (p : Piece) (a z : List ℕ) : Type 0 where
  ends_last : (b : List ℕ) → HeaderAt local_cid_len versions grease_quic_bit (length a) (p.header, None) a b
      → p.pn_offset + length b ≡ length a → p.bytes ≡ a → z ≡ [] → PieceAt local_cid_len versions grease_quic_bit p a z
  ends_by_length : (n : ℕ) (b : List ℕ) → HeaderAt local_cid_len versions grease_quic_bit (length a) (p.header, Some n) a b
      → p.pn_offset + length b ≡ length a → a ≡ p.bytes ++ z → length p.bytes ≡ p.pn_offset + n
      → PieceAt local_cid_len versions grease_quic_bit p a z

-- the bytes are a long header as far as its ids, which are these, and its version, which isn't known
pub record IsUnknown (versions : List ℕ) (grease_quic_bit : Bool) (src_cid dst_cid : List ℕ) (version : ℕ) (a : List ℕ) : Type 0 where
  pub first : ℕ
  pub behind_first : List ℕ
  pub behind_version : List ℕ
  pub behind_dst : List ℕ
  pub behind_src : List ℕ
  pub first_byte : Byte first a behind_first
  pub long : 128 ≤ first
  pub fixed : IsFixed grease_quic_bit first
  pub spelled : Word w32 version behind_first behind_version
  pub dst : Id dst_cid behind_version behind_dst
  pub src : Id src_cid behind_dst behind_src
  pub named : version ≢ 0
  pub unknown : IsKnown version versions → ⊥

-- why bytes that begin with no packet begin with none: their version isn't known, or for any other reason
abbrev pub Because : List ℕ → Bool → List ℕ → PacketDecodeError → Type 0
Because versions grease_quic_bit a (UnsupportedVersion src_cid dst_cid version) =
    IsUnknown versions grease_quic_bit src_cid dst_cid version a
Because versions grease_quic_bit a InvalidHeader =
    (src_cid dst_cid : List ℕ) (version : ℕ) → IsUnknown versions grease_quic_bit src_cid dst_cid version a → ⊥
Because versions grease_quic_bit a OutOfMemory = ⊥

-- the bytes begin with no packet, and the fault says why
pub record NoPieceAt (local_cid_len : ℕ) (versions : List ℕ) (grease_quic_bit : Bool) (a : List ℕ) (fault : PacketDecodeError) : Type 0 where
  pub none : (p : Piece) (z : List ℕ) → PieceAt local_cid_len versions grease_quic_bit p a z → ⊥
  pub because : Because versions grease_quic_bit a fault

-- ---- datagrams

-- a packet, or the fault that ends the datagram
abbrev pub DatagramItem : Type 0
DatagramItem = Result Piece PacketDecodeError

-- the bytes are these packets, to the end or the first bytes that begin with none
pub data Datagram (local_cid_len : ℕ) (versions : List ℕ) (grease_quic_bit : Bool) : List DatagramItem → List ℕ → Type 0 where
  no_more : Datagram local_cid_len versions grease_quic_bit [] []
  piece_and : (p : Piece) (a z : List ℕ) (others : List DatagramItem) → PieceAt local_cid_len versions grease_quic_bit p a z
      → Datagram local_cid_len versions grease_quic_bit others z
      → Datagram local_cid_len versions grease_quic_bit (Ok p ∷ others) a
  unreadable : (fault : PacketDecodeError) (a : List ℕ) → 0 < length a
      → NoPieceAt local_cid_len versions grease_quic_bit a fault
      → Datagram local_cid_len versions grease_quic_bit (Err fault ∷ []) a
