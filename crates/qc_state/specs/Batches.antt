-- The datagrams of a transmit as they are filled: which packet may stand behind which, and how large each datagram is to be.
use Rattle.std.specs.Prelude.{min, ◌≡◌, ℕ, ◌-◌, ◌==◌, Bool, true, false, ◌||◌, ◌&&◌, not, nat_lt, nat_le, if◌then◌else◌, Option, Some, None}
use Rattle.qc_base.specs.declared.side.SpaceId.{SpaceId}
use Rattle.qc_base.specs.declared.side.SpaceId.TheVariants.{Initial, Handshake, «Data»}
use Rattle.qc_base.specs.Time.{plus}
use Rattle.qc_state.specs.declared.form.Form.{Form}
use Rattle.qc_state.specs.declared.transmit.Batch.{Batch}
use Rattle.qc_state.specs.Forms.{is_one_rtt, number_space}
use Rattle.qc_state.specs.Spaces.{is_space}

-- what is known of a transmit of at most so many datagrams that begins, with a close owed or without one, on a path whose datagrams have
-- at most `segment` bytes, and are filled up to `least` that are to be; `pads` says that those with a packet of the Data space are padded up to
-- the size of the others
abbrev pub batch_begun : (closing pads : Bool) → (most segment least : ℕ) → Batch
batch_begun closing pads most segment least = record {
  closing = closing;
  pads = pads;
  most = most;
  made = 0;
  segment = segment;
  least = least;
  capacity = 0;
  filled = 0;
  padding = 0;
  short = false;
  fills = false;
  wide = false;
  total = 0;
  space = None;
  last = 0;
  worn = false;
  shook = false;
}

-- how many bytes the next datagram may have: what the path takes, and behind the first one what that one has
abbrev pub next_segment : Batch → ℕ
next_segment b = if b.made == 1 then b.filled else b.segment

-- whether the last packet is one of this space
abbrev pub is_last_in : Option SpaceId → SpaceId → Bool
is_last_in None id = false
is_last_in (Some last) id = is_space last id

-- whether a packet of this space may stand behind the last one: spaces go in their order
abbrev pub is_in_order : Option SpaceId → SpaceId → Bool
is_in_order None id = true
is_in_order (Some Initial) id = true
is_in_order (Some Handshake) Initial = false
is_in_order (Some Handshake) Handshake = true
is_in_order (Some Handshake) Data = true
is_in_order (Some «Data») Initial = false
is_in_order (Some «Data») Handshake = false
is_in_order (Some «Data») Data = true

-- whether a further packet joins the open datagram: there is one, whose last packet says where it ends, and 103 bytes are left
abbrev pub takes_another : Batch → Bool
takes_another b = nat_lt 0 b.made && (not b.short && nat_le 103 (b.capacity - b.filled))

-- no packet need join the open datagram: there is none, or its last packet is one that says not where it ends, or fewer than 128 bytes are
-- left beside its PADDING
abbrev pub is_done : Batch → Bool
is_done b = b.made == 0 || (b.short || nat_lt (b.capacity - (b.filled - b.padding)) 128)

-- another datagram may stand behind the open one: it has as many bytes as each but the last is to have
abbrev pub is_whole : Batch → Bool
is_whole b = b.made == 0 || b.filled == next_segment b

-- how many bytes the open datagram is to have at least: where it is to have the size of the others, and may, so many; else as many as one that
-- is filled up, where it is to be
abbrev pub wanted_by : (wide fills : Bool) → Batch → ℕ
wanted_by wide fills b = if wide && nat_le b.segment b.capacity then b.segment else if fills then b.least else 0

-- so it is by the packets in it
abbrev pub wanted_size : Batch → ℕ
wanted_size b = wanted_by b.wide b.fills b

-- the open datagram is filled up, where it is to be
unfoldable pub is_closed_up : Batch → Bool
is_closed_up b = nat_le (wanted_size b) b.filled

-- where a packet opens a datagram, the one before it has the size of the others, and is filled up where it is to be
abbrev pub IsBehind : Batch → (opens : Bool) → Type 0
IsBehind b true = (is_whole b && is_closed_up b) ≡ true
IsBehind b false = Unit {0}

-- the size of each datagram but the last, where there are several
abbrev pub segment_of : Batch → Option ℕ
segment_of b = if nat_lt 1 b.made then Some b.segment else None

-- a packet is begun; a datagram begins with it, or it joins one. A datagram for a probe has at most the size that others are filled up
-- to.
unfoldable pub batch_opened : (opens : Bool) → (probes : Bool) → Batch → Batch
batch_opened opens probes b =
    if opens then record b {
      made = plus b.made 1;
      segment = next_segment b;
      capacity = if probes then min b.least (next_segment b) else next_segment b;
      filled = 0;
      padding = 0;
      short = false;
      fills = false;
      wide = false;
    }
    else b

-- a packet of this form is one of those whose datagram is padded up to the size of the others
abbrev pub widens : Batch → Form → Bool
widens b form = b.pads && is_space (number_space form) «Data»

-- a packet of this form was sealed, with this number, so many bytes, and so many of PADDING among them, which fills up its datagram or
-- doesn't, and whose key could seal only two packets more before, or more
unfoldable pub batch_grown : Form → (number size padding : ℕ) → (fills nearly : Bool) → Batch → Batch
batch_grown form number size padding fills nearly b =
    record b {
      filled = plus b.filled size;
      padding = plus b.padding padding;
      short = b.short || is_one_rtt form;
      fills = b.fills || fills;
      wide = b.wide || widens b form;
      total = plus b.total size;
      space = Some (number_space form);
      last = number;
      worn = nearly;
      shook = b.shook || is_space (number_space form) Handshake;
    }
