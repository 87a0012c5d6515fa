-- Reading the header of a datagram's first packet (RFC 9000, section 17), as far as header
-- protection lets it. The first fault in reading order counts.
use Rattle.std.specs.Prelude.{◌≡◌, ℕ, ◌+◌, ◌-◌, ◌<◌, ◌/◌, ◌%◌, ◌==◌, ◌&&◌, not, Bool, List, [], length, take, drop, nat_lt, if◌then◌else◌, Option, Some, None, Result, Ok, Err}
use Rattle.std.specs.List.{list_any}
use Rattle.std.specs.Option.{option_and_then}
use Rattle.std.specs.Int.{w32}
use Rattle.qc_base.specs.declared.side.LongType.{LongType}
use Rattle.qc_base.specs.declared.side.LongType.TheVariants.{Handshake, ZeroRtt}
use Rattle.qc_base.specs.Reading.{Reader, ◌>>=◌, read_on, give, refuse, left_at, or_fault, byte_of, bytes_of, word_of, varint_of}
use Rattle.qc_header.specs.Piece.{Piece}
use Rattle.qc_header.specs.declared.read.Head.{Head}
use Rattle.qc_header.specs.declared.protected.PacketDecodeError.{PacketDecodeError}
use Rattle.qc_header.specs.declared.protected.PacketDecodeError.TheVariants.{InvalidHeader, UnsupportedVersion}
use Rattle.qc_header.specs.declared.protected.ProtectedHeader.{ProtectedHeader}
use Rattle.qc_header.specs.declared.protected.ProtectedHeader.TheVariants.{Initial, Long, Retry, Short, VersionNegotiate}

-- what is readable of a header, and the value of its Length field if it has one
abbrev pub Heading : Type 0
Heading = ProtectedHeader × Option ℕ

-- what reads a heading
abbrev pub HeaderReader : Type 0
HeaderReader = Reader PacketDecodeError Heading

-- a field, or InvalidHeader where it is cut
abbrev pub field : {X : Type 0} → (List ℕ → Option (X × List ℕ)) → Reader PacketDecodeError X
field read = or_fault InvalidHeader read

-- a connection id behind its length, which is at most 20 (section 17.2)
unfoldable pub id_of : List ℕ → Option (List ℕ × List ℕ)
id_of bytes = option_and_then (λ x. if nat_lt 20 x.0 then None else bytes_of x.0 x.1) (byte_of bytes)

-- the fields behind the ids of an Initial packet (section 17.2.2); the packet has size bytes
unfoldable pub initial_at : ℕ → (dst_cid src_cid : List ℕ) → ℕ → HeaderReader
initial_at size dst_cid src_cid version = do
  token_len ← field varint_of
  left ← left_at
  token ← field (bytes_of token_len)
  payload_len ← field varint_of
  give (Initial dst_cid src_cid (size - left) token_len version, Some payload_len)

-- and of a 0-RTT or Handshake packet (sections 17.2.3 and 17.2.4)
unfoldable pub numbered_at : LongType → (dst_cid src_cid : List ℕ) → ℕ → HeaderReader
numbered_at ty dst_cid src_cid version = do
  payload_len ← field varint_of
  give (Long ty dst_cid src_cid version, Some payload_len)

-- the type of a packet with a long header is bits 0x30 of its first byte
unfoldable pub typed_at : (size first : ℕ) → (dst_cid src_cid : List ℕ) → ℕ → HeaderReader
typed_at size first dst_cid src_cid version =
    let ty = first / 16 % 4 in
    if ty == 0 then initial_at size dst_cid src_cid version
    else if ty == 1 then numbered_at ZeroRtt dst_cid src_cid version
    else if ty == 2 then numbered_at Handshake dst_cid src_cid version
    else give (Retry dst_cid src_cid version, None)

-- a long header (section 17.2), which is Version Negotiation where its version is 0 (section 17.2.1)
unfoldable pub long_at : ℕ → List ℕ → ℕ → HeaderReader
long_at size versions first = do
  version ← field (word_of w32)
  dst_cid ← field id_of
  src_cid ← field id_of
  (if version == 0 then give (VersionNegotiate (first % 128) src_cid dst_cid, None)
      else refuse (not (list_any (λ v. v == version) versions)) (UnsupportedVersion src_cid dst_cid version)
      (typed_at size first dst_cid src_cid version))

-- a short header (section 17.3.1), whose id has the length that this end chose
unfoldable pub short_at : (local_cid_len first : ℕ) → HeaderReader
short_at local_cid_len first = do
  dst_cid ← field (bytes_of local_cid_len)
  give (Short (first / 32 % 2 == 1) dst_cid, None)

-- the header of a packet at the front of size bytes, where ids of this end have local_cid_len bytes,
-- these versions are known, and the fixed bit may be 0 if it is greased (RFC 9287)
unfoldable pub header_at : (size local_cid_len : ℕ) → List ℕ → Bool → HeaderReader
header_at size local_cid_len versions grease_quic_bit = do
  first ← field byte_of
  refuse (first / 64 % 2 == 0 && not grease_quic_bit) InvalidHeader
      (if nat_lt first 128 then short_at local_cid_len first else long_at size versions first)

-- the packet with this header, behind which left bytes stand: it ends with its datagram, or where its Length field
-- says, which may not be beyond
abbrev pub packet_at : List ℕ → ProtectedHeader → Option ℕ → ℕ → Result (Piece × List ℕ) PacketDecodeError
packet_at datagram header None left =
    Ok (record { header = header; pn_offset = length datagram - left; bytes = datagram }, [])
packet_at datagram header (Some payload_len) left =
    if nat_lt left payload_len then Err InvalidHeader
    else Ok (
      record {
        header = header;
        pn_offset = length datagram - left;
        bytes = take (length datagram - left + payload_len) datagram;
      },
      drop (length datagram - left + payload_len) datagram,
    )

-- the packet at the front of a datagram, and what is behind it
unfoldable pub piece_at : ℕ → List ℕ → Bool → Reader PacketDecodeError Piece
piece_at local_cid_len versions grease_quic_bit datagram =
    read_on (header_at (length datagram) local_cid_len versions grease_quic_bit datagram)
    (λ heading rest. packet_at datagram heading.0 heading.1 (length rest))

-- a packet is read, and bytes are behind it
abbrev pub IsFollowed : ℕ → List ℕ → Bool → List ℕ → Type 0
IsFollowed local_cid_len versions grease_quic_bit datagram =
    (p : Piece) × (rest : List ℕ)
    × (piece_at local_cid_len versions grease_quic_bit datagram ≡ Ok (p, rest)) × (0 < length rest)

-- a function returned what this reading gives; of the bytes behind it says how many there are
abbrev pub GivesHead : Result Head PacketDecodeError → Result (Heading × List ℕ) PacketDecodeError → Type 0
GivesHead result (Ok x) = result ≡ Ok (record { header = x.0.0; payload_len = x.0.1; left = length x.1 })
GivesHead result (Err e) = result ≡ Err e
