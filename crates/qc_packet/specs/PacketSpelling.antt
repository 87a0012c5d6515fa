-- The bytes of a protected packet (RFC 9001, sections 5.3 and 5.4).
use Rattle.std.specs.Prelude.{ℕ, ◌+◌, ◌-◌, Bool, true, false, List, length, ◌++◌, Option, Some, None}
use Rattle.qc_base.specs.Mask.{masked, first_byte}
use Rattle.qc_base.specs.PacketNumber.{number_len}
use Rattle.qc_base.specs.declared.packet_number.PacketNumber.{PacketNumber}
use Rattle.qc_frame.specs.Frame.{FrameValue}
use Rattle.qc_frame.specs.FrameSpelling.{frames_spelling}
use Rattle.qc_header.specs.SetLength.{begun_by}
use Rattle.qc_header.specs.declared.header.Header.{Header}
use Rattle.qc_header.specs.HeaderSpelling.{header_spelling, header_number}

-- the length of a packet number, where there is one
abbrev pub len_of : Option PacketNumber → ℕ
len_of None = 0
len_of (Some number) = number_len number

-- how many bytes follow the Length field: the packet number, the payload and the tag of 16 bytes
abbrev pub protected_len : Header → List ℕ → ℕ
protected_len h plain = len_of (header_number h) + length plain + 16

-- the header, with its Length field
abbrev pub header_bytes : Header → List ℕ → List ℕ
header_bytes h plain = header_spelling h (protected_len h plain)

-- how many PADDING frames fill a packet up to a size
abbrev pub padding_len : Header → List FrameValue → ℕ → ℕ
padding_len h fs size = size - 16 - (length (header_spelling h 0) + length (frames_spelling fs))

-- a header's bytes with its fixed bit, which it is written with, flipped or not (RFC 9287)
abbrev pub with_flip : Bool → List ℕ → List ℕ
with_flip false header = header
with_flip true header = begun_by (first_byte header - 0x40) header

-- the header, its fixed bit flipped or not, and the sealed payload, with the mask laid over the first byte and
-- the packet number
unfoldable pub sealed_packet : (mask : List ℕ → List ℕ) → (seal : ℕ → List ℕ → List ℕ → List ℕ) → (flip : Bool) → Header → (number : ℕ) → (plain : List ℕ) → List ℕ
sealed_packet mask seal flip h number plain =
    masked mask (length (header_bytes h plain) - len_of (header_number h))
    (with_flip flip (header_bytes h plain) ++ seal number (with_flip flip (header_bytes h plain)) plain)

-- the same with its fixed bit as it is written
abbrev pub packet_spelling : (mask : List ℕ → List ℕ) → (seal : ℕ → List ℕ → List ℕ → List ℕ) → Header → (number : ℕ) → (plain : List ℕ) → List ℕ
packet_spelling mask seal h number plain = sealed_packet mask seal false h number plain
