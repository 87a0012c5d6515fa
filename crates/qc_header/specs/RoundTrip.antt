-- Headers that were read, written and read again
use Rattle.std.specs.Prelude.{◌≡◌, ◌≤◌, ◌<◌, ◌^◌, ◌+◌, ◌⊎◌, ℕ, Bool, true, List, [], ◌++◌, length, is_some, if◌then◌else◌, Ok}
use Rattle.qc_base.specs.Grammar.{IsBytes}
use Rattle.qc_base.specs.PacketNumber.{number_len}
use Rattle.qc_header.specs.declared.header.Header.{Header}
use Rattle.qc_header.specs.declared.header.Header.TheVariants.{Initial, Long, Retry, Short, VersionNegotiate}
use Rattle.qc_header.specs.declared.protected.ProtectedHeader.{ProtectedHeader}
use Rattle.qc_header.specs.declared.protected.ProtectedHeader.TheVariants as readable
use Rattle.qc_header.specs.HeaderReading.{piece_at}
use Rattle.qc_header.specs.HeaderSpelling.{header_spelling, header_number}
use Rattle.qc_header.specs.Unprotected.{header_from}
use Rattle.qc_header.specs.Known.{IsKnown}
use Rattle.qc_header.specs.Piece.{Piece}
use Rattle.qc_header.specs.ReadBack.{AreIds, FitsItsForm, IsWritable, Finishes, token_place, number_place, protected_packet}

-- a header that a reader with these arguments made of some bytes: of a datagram what is readable under header
-- protection, and the rest of the bytes that came out when it was taken off
pub record IsReading (local_cid_len : ℕ) (versions : List ℕ) (grease_quic_bit : Bool) (header : Header) : Type 0 where
  pub datagram : List ℕ
  pub unprotected : List ℕ
  pub first : Piece
  pub behind : List ℕ
  pub bytes : IsBytes datagram
  pub unprotected_bytes : IsBytes unprotected
  pub read : piece_at local_cid_len versions grease_quic_bit datagram ≡ Ok (first, behind)
  pub made : header ≡ header_from first.header first.pn_offset unprotected

-- a header that a reader with these arguments reads: its number fits its form and its ids have room in theirs, a
-- 1-RTT packet's id has the reader's length, its version is known, a token is shorter than 2^62, and the seven bits of
-- a Version Negotiation's first byte hold the fixed bit, or the reader takes packets without it
abbrev pub IsReadable : ℕ → List ℕ → Bool → Header → Type 0
IsReadable local_cid_len versions grease_quic_bit (Initial h) =
    IsWritable h.dst_cid h.src_cid h.number h.version × (length h.token < 2 ^ 62) × IsKnown h.version versions
IsReadable local_cid_len versions grease_quic_bit (Long ty dst_cid src_cid number version) =
    IsWritable dst_cid src_cid number version × IsKnown version versions
IsReadable local_cid_len versions grease_quic_bit (Retry dst_cid src_cid version) =
    AreIds dst_cid src_cid × (version < 2 ^ 32) × IsKnown version versions
IsReadable local_cid_len versions grease_quic_bit (Short spin key_phase dst_cid number) =
    (length dst_cid ≡ local_cid_len) × FitsItsForm number
IsReadable local_cid_len versions grease_quic_bit (VersionNegotiate random src_cid dst_cid) =
    AreIds dst_cid src_cid × (random < 128) × ((64 ≤ random) ⊎ (grease_quic_bit ≡ true))

-- what is readable of a header under header protection
abbrev pub readable_of : Header → ProtectedHeader
readable_of (Initial h) = readable.Initial h.dst_cid h.src_cid (token_place h) (length h.token) h.version
readable_of (Long ty dst_cid src_cid number version) = readable.Long ty dst_cid src_cid version
readable_of (Retry dst_cid src_cid version) = readable.Retry dst_cid src_cid version
readable_of (Short spin key_phase dst_cid number) = readable.Short spin dst_cid
readable_of (VersionNegotiate random src_cid dst_cid) = readable.VersionNegotiate random src_cid dst_cid

-- a packet of this header, its Length field set to this value, and these bytes behind it, protected where its form is
abbrev pub packet_of : (List ℕ → List ℕ) → Header → ℕ → List ℕ → List ℕ
packet_of mask_of header length_field payload =
    if is_some (header_number header) then protected_packet mask_of header length_field payload
    else header_spelling header length_field ++ payload

-- the Length field counts number and payload, which have enough bytes for a sample; a packet of a form without one
-- is the last of its datagram
abbrev pub IsCounted : Header → ℕ → (payload rest : List ℕ) → Type 0
IsCounted (Initial h) length_field payload rest =
    (length_field ≡ number_len h.number + length payload) × (20 ≤ length_field) × (length_field < 2 ^ 14)
IsCounted (Long ty dst_cid src_cid number version) length_field payload rest =
    (length_field ≡ number_len number + length payload) × (20 ≤ length_field) × (length_field < 2 ^ 14)
IsCounted (Retry dst_cid src_cid version) length_field payload rest = rest ≡ []
IsCounted (Short spin key_phase dst_cid number) length_field payload rest = (20 ≤ number_len number + length payload) × (rest ≡ [])
IsCounted (VersionNegotiate random src_cid dst_cid) length_field payload rest = rest ≡ []

-- this packet as it is read: what is readable of its header, and its bytes
abbrev pub sent_piece : (List ℕ → List ℕ) → Header → ℕ → List ℕ → Piece
sent_piece mask_of header length_field payload = record {
  header = readable_of header;
  pn_offset = number_place header length_field;
  bytes = packet_of mask_of header length_field payload;
}

-- the packet is read at the front of its datagram, and header and payload come back
pub record ComesBack (mask_of : List ℕ → List ℕ) (local_cid_len length_field : ℕ) (versions : List ℕ) (grease_quic_bit : Bool)
    (header : Header) (payload rest : List ℕ) : Type 0 where
  pub read : piece_at local_cid_len versions grease_quic_bit (packet_of mask_of header length_field payload ++ rest)
      ≡ Ok (sent_piece mask_of header length_field payload, rest)
  pub finishes : Finishes mask_of (sent_piece mask_of header length_field payload) header (header_spelling header length_field) payload
