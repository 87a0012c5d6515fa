-- How big a packet may be, when none is begun, and what a builder knows of the packet that it began.
use Rattle.std.specs.Prelude.{◌≡◌, ℕ, ◌+◌, ◌-◌, ◌<◌, ◌≤◌, ◌^◌, Bool, true, false, ◌&&◌, ◌||◌, List, length, Option, Some, None, max, min, nat_lt, nat_le, if◌then◌else◌}
use Rattle.qc_base.specs.Time.{plus}
use Rattle.qc_base.specs.declared.side.SpaceId.{SpaceId}
use Rattle.qc_frame.specs.Frame.{FrameValue}
use Rattle.qc_frame.specs.FrameSpelling.{frames_spelling}
use Rattle.qc_header.specs.declared.header.Header.{Header}
use Rattle.qc_header.specs.declared.header.Header.TheVariants.{Initial, Long, Retry, Short, VersionNegotiate}
use Rattle.qc_header.specs.HeaderSpelling.{header_spelling, header_number}
use Rattle.qc_packet.specs.PacketSpelling.{len_of}
use Rattle.qc_packet.specs.declared.slot.Slot.{Slot}
use Rattle.qc_packet.specs.declared.slot.Kill.{Kill}
use Rattle.qc_packet.specs.declared.slot.Kill.TheVariants.{KeyLimit, NumberLimit, TokenRoom}
use Rattle.qc_packet.specs.declared.builder.PacketBuilder.{PacketBuilder}
use Rattle.qc_packet.specs.declared.builder.PacketSizes.{PacketSizes}

-- a header's destination id
abbrev pub dst_cid_of : Header → List ℕ
dst_cid_of (Initial h) = h.dst_cid
dst_cid_of (Long ty dst_cid src_cid number version) = dst_cid
dst_cid_of (Retry dst_cid src_cid version) = dst_cid
dst_cid_of (Short spin key_phase dst_cid number) = dst_cid
dst_cid_of (VersionNegotiate random src_cid dst_cid) = dst_cid

-- whether it is an Initial packet's
abbrev pub is_initial : Header → Bool
is_initial (Initial h) = true
is_initial _ = false

-- whether it is a short one
abbrev pub is_short : Header → Bool
is_short (Short spin key_phase dst_cid number) = true
is_short _ = false

-- how many bytes a header has
abbrev pub header_len : Header → ℕ
header_len h = length (header_spelling h 0)

-- how many its number has
abbrev pub pn_len : Header → ℕ
pn_len h = len_of (header_number h)

-- Where the payload of a packet that begins at start has to end at the earliest, its tag left out: so that
-- header protection finds a sample (RFC 9001, section 5.4.2), and so that the packet has 6 bytes and a tag
-- besides its destination id, which hides a stateless reset among packets (RFC 9000, section 10.3).
unfoldable pub min_size_of : ℕ → Header → ℕ
min_size_of start h = max (start + header_len h + (4 - pn_len h)) (start + length (dst_cid_of h) + 6)

-- Where it has to end at the latest, its tag left out: at the capacity, and with a long header so that the
-- Length field stays below 2^14.
unfoldable pub max_size_of : ℕ → Header → ℕ → ℕ
max_size_of start h capacity =
    if is_short h then capacity - 16 else min (capacity - 16) (start + header_len h - pn_len h + 16367)

-- whether less than this leaves no room for the greatest CONNECTION_CLOSE frame without a reason, of 25 bytes
unfoldable pub lacks_room : ℕ → Header → ℕ → Bool
lacks_room start h capacity =
    nat_lt (max_size_of start h capacity) (min_size_of start h) || nat_lt (max_size_of start h capacity - (start + header_len h)) 25

-- Why a packet can't be begun, the first that holds: its key sealed as many packets as it may (RFC 9001,
-- section 6.6); its number is the last one or more, or too far above the greatest acknowledged one to be
-- spelled (RFC 9000, sections 12.3 and 17.1); an Initial packet's token leaves no room for frames.
unfoldable pub kill_of : Slot → Header → (start capacity : ℕ) → Option Kill
kill_of slot h start capacity =
    if nat_le slot.limit slot.sealed then Some KeyLimit
    else (if nat_le 4611686018427387903 slot.number || nat_le (slot.largest_acked + 2147483648) slot.number then Some NumberLimit
    else (if is_initial h && lacks_room start h capacity then Some TokenRoom else None))

-- the sizes of a packet that begins at start
abbrev pub sizes_of : ℕ → Header → ℕ → PacketSizes
sizes_of start h capacity = record { min_size = min_size_of start h; max_size = max_size_of start h capacity }

-- what a builder knows of a packet that begins at start
abbrev pub builder_for : SpaceId → ℕ → Header → (start capacity datagram_start : ℕ) → Bool → PacketBuilder
builder_for space number h start capacity datagram_start ack_eliciting =
    record {
      space = space;
      exact_number = number;
      short_header = is_short h;
      min_size = min_size_of start h;
      max_size = max_size_of start h capacity;
      tag_len = 16;
      ack_eliciting = ack_eliciting;
      datagram_start = datagram_start;
      start = start;
      header_len = header_len h;
      pn_len = pn_len h;
    }

-- The same of a packet of at most `capacity` bytes, which begins its datagram at start, once `least` bytes were asked for.
abbrev pub padded_builder : SpaceId → ℕ → Header → (start capacity : ℕ) → Bool → (least : ℕ) → PacketBuilder
padded_builder space number h start capacity ack_eliciting least =
    record (builder_for space number h start (start + capacity) start ack_eliciting) {
      min_size = max (min_size_of start h) (plus start (least - 16));
    }

-- A builder whose sizes leave room for what sealing adds: the sample of header protection, the tag, and a Length
-- field below 2^14.
pub record IsSound (b : PacketBuilder) : Type 0 where
  pub numbered : 1 ≤ b.pn_len
  pub first : b.pn_len < b.header_len
  pub sample : b.start + b.header_len + 4 ≤ b.min_size + b.pn_len
  pub tag : b.max_size + 16 < 2 ^ 64
  pub length_field : b.short_header ≡ false → b.max_size + b.pn_len ≤ b.start + b.header_len + 16367

-- A builder that can finish its packet where its buffer has this length: the header is there, and payload and
-- padding are within the sizes.
pub record IsReady (b : PacketBuilder) (len : ℕ) : Type 0 where
  pub sound : IsSound b
  pub begun : b.start + b.header_len ≤ len
  pub sizes : b.min_size ≤ b.max_size
  pub room : len ≤ b.max_size

-- a builder whose packet has this header
pub record IsOf (b : PacketBuilder) (h : Header) : Type 0 where
  pub header : b.header_len ≡ header_len h
  pub number : b.pn_len ≡ pn_len h
  pub numbered : 1 ≤ pn_len h
  pub short : b.short_header ≡ is_short h

-- How many bytes a packet with these frames has, where `least` are asked for: as many as it needs for a sample and to look like
-- no reset, or that many, or as many as header, frames and tag have.
abbrev pub padded_size : Header → List FrameValue → (least : ℕ) → ℕ
padded_size h fs least = max (max (min_size_of 0 h + 16) least) (header_len h + length (frames_spelling fs) + 16)

-- where the payload ends, its padding with it
abbrev pub end_of : PacketBuilder → ℕ → ℕ
end_of b len = max len b.min_size
