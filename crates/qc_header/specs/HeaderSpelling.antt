-- The headers of packets as bytes, without header protection.
--
--   form                 RFC 9000          first byte   behind it
--   Version Negotiation  section 17.2.1    1RRRRRRR     version 0, ids
--   Initial              section 17.2.2    110000NN     version, ids, token, Length, number
--   0-RTT                section 17.2.3    110100NN     version, ids, Length, number
--   Handshake            section 17.2.4    111000NN     version, ids, Length, number
--   Retry                section 17.2.5    11110000     version, ids
--   1-RTT                section 17.3.1    01S00PNN     destination id, number
--
-- NN is the number's length less 1, R any bit, S the spin bit, P the key phase.
use Rattle.std.specs.Prelude.{ℕ, ◌+◌, ◌-◌, ◌%◌, Bool, List, ◌∷◌, ◌++◌, length, Option, Some, None}
use Rattle.std.specs.Int.{w16, w32, to_be_bytes}
use Rattle.qc_base.specs.declared.packet_number.PacketNumber.{PacketNumber}
use Rattle.qc_base.specs.declared.side.LongType.{LongType}
use Rattle.qc_base.specs.declared.side.LongType.TheVariants.{Handshake, ZeroRtt}
use Rattle.qc_base.specs.PacketNumber.{number_len, number_bytes}
use Rattle.qc_base.specs.Spelling.{bit}
use Rattle.qc_base.specs.Varint.{varint}
use Rattle.qc_header.specs.declared.header.Header.{Header}
use Rattle.qc_header.specs.declared.header.Header.TheVariants.{Initial, Long, Retry, Short, VersionNegotiate}
use Rattle.qc_header.specs.declared.header.InitialHeader.{InitialHeader}

-- the two lowest bits of a first byte: the number's length less 1
abbrev pub number_tag : PacketNumber → ℕ
number_tag number = number_len number - 1

-- an id behind its length
abbrev pub id_field : List ℕ → List ℕ
id_field id = length id ∷ id

-- what every long header begins with
unfoldable pub long_start : (first version : ℕ) → (dst_cid src_cid : List ℕ) → List ℕ
long_start first version dst_cid src_cid = first ∷ to_be_bytes w32 version ++ id_field dst_cid ++ id_field src_cid

-- the Length field, always in the form of two bytes (RFC 9000, section 16), and the number
unfoldable pub length_and_number : ℕ → PacketNumber → List ℕ
length_and_number length number = to_be_bytes w16 (0x4000 + length) ++ number_bytes number

-- an Initial packet's header
unfoldable pub initial_spelling : InitialHeader → ℕ → List ℕ
initial_spelling h length_field =
    long_start (0xc0 + number_tag h.number) h.version h.dst_cid h.src_cid
    ++ varint (length h.token) ++ h.token ++ length_and_number length_field h.number

-- the first byte of a packet of this type, but for the number's length
abbrev pub long_first : LongType → ℕ
long_first ZeroRtt = 0xd0
long_first Handshake = 0xe0

-- a 1-RTT packet's header
unfoldable pub short_spelling : (spin key_phase : Bool) → List ℕ → PacketNumber → List ℕ
short_spelling spin key_phase dst_cid number =
    (0x40 + bit spin 0x20 + bit key_phase 0x04 + number_tag number) ∷ dst_cid ++ number_bytes number

-- a header as bytes, where its Length field, if it has one, has this value
unfoldable pub header_spelling : Header → ℕ → List ℕ
header_spelling (Initial h) length_field = initial_spelling h length_field
header_spelling (Long ty dst_cid src_cid number version) length_field =
    long_start (long_first ty + number_tag number) version dst_cid src_cid ++ length_and_number length_field number
header_spelling (Retry dst_cid src_cid version) length_field = long_start 0xf0 version dst_cid src_cid
header_spelling (Short spin key_phase dst_cid number) length_field = short_spelling spin key_phase dst_cid number
header_spelling (VersionNegotiate random src_cid dst_cid) length_field =
    long_start (0x80 + random % 0x80) 0 dst_cid src_cid

-- a header's number, where its form has one
abbrev pub header_number : Header → Option PacketNumber
header_number (Initial h) = Some h.number
header_number (Long ty dst_cid src_cid number version) = Some number
header_number (Retry dst_cid src_cid version) = None
header_number (Short spin key_phase dst_cid number) = Some number
header_number (VersionNegotiate random src_cid dst_cid) = None

-- how many bytes a header has at the most
abbrev pub header_most : Header → ℕ
header_most (Initial h) = 61 + length h.token
header_most _ = 61
