-- The ACK of a space (RFC 9000, sections 13.2 and 19.3).
use Rattle.std.specs.Prelude.{◌≡◌, ℕ, ◌-◌, ◌^◌, ◌<◌, ◌≤◌, ◌&&◌, ◌||◌, not, Bool, true, false}
use Rattle.std.specs.Prelude.{nat_lt, nat_le, min, List, [], ◌∷◌, length, reverse, slice_index_or, Option, None, Some}
use Rattle.std.specs.List.{flat_map, list_any}
use Rattle.qc_base.specs.Varint.{varint}
use Rattle.qc_base.specs.declared.range_set.NumberRange.{NumberRange}
use Rattle.qc_frame.specs.AckRanges.{ranges_of}
use Rattle.qc_frame.specs.Frame.{FrameValue, AckValue}
use Rattle.qc_frame.specs.FrameFits.{Fits}
use Rattle.qc_frame.specs.FrameSpelling.{numbers_of, frames_spelling}
use Rattle.qc_frame.specs.declared.frames.EcnCounts.{EcnCounts}
use Rattle.qc_frame.specs.declared.frames.FrameOf.TheVariants as frames
use Rattle.qc_path.specs.Acks.{PendingValues, ack_delay, gives_ack, has_come_by, is_clear, joins_ack, marks_sent, owes_ack}
use Rattle.qc_state.specs.declared.waiting.SpaceWaiting.{SpaceWaiting}

-- the greatest number to acknowledge, 0 where there is none
abbrev pub greatest_number : List NumberRange → ℕ
greatest_number ranges = (slice_index_or ranges (length ranges - 1) (record { first = 0; last = 0 })).last

-- there is something to acknowledge, and no number that is none of a packet: those lie below 2^62 (RFC 9000, section 12.3)
unfoldable pub may_acknowledge : PendingValues → Bool
may_acknowledge p = not (is_clear p) && nat_lt (greatest_number p.ranges) (2 ^ 62)

-- an ACK is owed
unfoldable pub is_ack_owed : PendingValues → Bool
is_ack_owed p = owes_ack p && may_acknowledge p

-- a packet that is sealed at a time may hold an ACK: it is owed, or joins, or may be bundled with other frames from `bundled` on
unfoldable pub is_ack_given : (time : ℕ) → (bundled : Option ℕ) → PendingValues → Bool
is_ack_given time bundled p = gives_ack time bundled p && may_acknowledge p

-- an ACK stands in front of other frames: it is owed, or joins
unfoldable pub is_ack_first : PendingValues → Bool
is_ack_first p = (owes_ack p || joins_ack p) && may_acknowledge p

-- an ACK stands behind other frames: it is only bundled with them
unfoldable pub is_ack_last : (time : ℕ) → (bundled : Option ℕ) → PendingValues → Bool
is_ack_last time bundled p = not (owes_ack p || joins_ack p) && (has_come_by bundled time && may_acknowledge p)

-- a count as an ACK tells it: no more than its field has room for
abbrev pub told_count : ℕ → ℕ
told_count count = min count (2 ^ 62 - 1)

-- the counts of marks as an ACK tells them: none before a packet of the connection came with a mark (RFC 9000, section 13.4.1)
abbrev pub told_counts : Option EcnCounts → Option EcnCounts
told_counts None = None
told_counts (Some c) = Some (record { ect0 = told_count c.ect0; ect1 = told_count c.ect1; ce = told_count c.ce })

-- The ACK that this end gives at a time of a space: it acknowledges exactly the numbers that are kept to be acknowledged, says
-- for how long the greatest of them has waited, in units of 8 microseconds, and tells how many packets of the space came with each
-- mark of ECN, once one of the connection did. It fits its fields, and its numbers are in their shortest form.
pub record SaysAck (time : ℕ) (w : SpaceWaiting) (ack : AckValue) : Type 0 where
  pub ranges : ranges_of ack ≡ reverse w.acks.ranges
  pub delay : ack.delay ≡ ack_delay time w.acks.marks
  pub ecn : ack.ecn ≡ told_counts w.marks
  pub fits : Fits (frames.Ack ack)
  pub shortest : ack.additional ≡ flat_map varint (numbers_of ack.additional)

-- the ACK of a space at a time has more bytes than there is room for
pub record IsLongAck (time : ℕ) (w : SpaceWaiting) (room : ℕ) : Type 0 where
  pub ack : AckValue
  pub says : SaysAck time w ack
  pub long : room < length (frames_spelling (frames.Ack ack ∷ []))

-- the ACK of a space at a time has no more bytes than there is room for
pub record IsShortAck (time : ℕ) (w : SpaceWaiting) (room : ℕ) : Type 0 where
  pub ack : AckValue
  pub says : SaysAck time w ack
  pub short : length (frames_spelling (frames.Ack ack ∷ [])) ≤ room

-- the ACK in a list of its own where one is due, else no frame; one that has more bytes than there is room for is left out
pub data AckPart (time : ℕ) (w : SpaceWaiting) (room : ℕ) (fs : List FrameValue) : Bool → Type 0 where
  one : (ack : AckValue) → SaysAck time w ack → length (frames_spelling (frames.Ack ack ∷ [])) ≤ room → fs ≡ frames.Ack ack ∷ [] → AckPart time w room fs true
  left_out : (ack : AckValue) → SaysAck time w ack → room < length (frames_spelling (frames.Ack ack ∷ [])) → fs ≡ [] → AckPart time w room fs true
  none : fs ≡ [] → AckPart time w room fs false

-- whether an ACK acknowledges a number
abbrev pub acknowledges : AckValue → (number : ℕ) → Bool
acknowledges ack number = list_any (λ range. nat_le range.first number && nat_le number range.last) (ranges_of ack)

-- whether it acknowledges this number, where there is one
abbrev pub acknowledges_any : AckValue → (number : Option ℕ) → Bool
acknowledges_any ack None = false
acknowledges_any ack (Some number) = acknowledges ack number

-- whether a frame is an ACK
abbrev pub is_ack : FrameValue → Bool
is_ack (frames.Ack ack) = true
is_ack _ = false

-- an ACK was sent: none is owed before other packets come
abbrev pub ack_sent : PendingValues → PendingValues
ack_sent p = record p { marks = marks_sent p.marks }
