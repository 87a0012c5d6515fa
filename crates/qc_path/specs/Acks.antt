-- When packets that came are acknowledged (RFC 9000, section 13.2).
use Rattle.std.specs.Prelude.{◌≡◌, ℕ, ◌-◌, ◌/◌, ◌==◌, Bool, false, not, ◌&&◌, ◌||◌, nat_lt, nat_le, if◌then◌else◌, List, length, Option, Some, None}
use Rattle.qc_base.specs.Time.{plus}
use Rattle.qc_base.specs.RangeSet.{Adds, latest}
use Rattle.qc_base.specs.declared.range_set.NumberRange.{NumberRange}
use Rattle.qc_path.specs.AckRanges.{from_number, with_number}
use Rattle.qc_path.specs.Arrived.{Window, exceeds, greatest_with, some_missing}
use Rattle.qc_path.specs.declared.pending_acks.Arrival.{Arrival}

-- what is kept beside the numbers to acknowledge
pub record AckMarks : Type 0 where
  pub owed : Bool  -- an ACK is owed
  pub eliciting : ℕ  -- how many packets that elicit an ACK came since the last ACK
  pub silent : ℕ  -- how many that elicit none came since then
  pub greatest_eliciting : Option ℕ  -- the greatest number that elicited an ACK
  pub greatest : Option ℕ  -- the greatest number that came
  pub came_at : ℕ  -- when it came
  pub delay_set : Bool  -- the timer of the next ACK was set since the last one

-- the numbers to acknowledge, and the marks
pub record PendingValues : Type 0 where
  pub ranges : List NumberRange
  pub marks : AckMarks

-- nothing came
unfoldable pub no_marks : AckMarks
no_marks = record { owed = false; eliciting = 0; silent = 0; greatest_eliciting = None; greatest = None; came_at = 0; delay_set = false }

-- a packet below the greatest one that elicited an ACK, or with a number missing between them
abbrev pub out_of_order : Window → Option ℕ → ℕ → Bool
out_of_order seen None n = some_missing seen 0 n
out_of_order seen (Some greatest) n = nat_lt n greatest || some_missing seen (plus greatest 1) n

-- two packets that elicit an ACK came since the last ACK, or this one came out of order
unfoldable pub is_due : Window → ℕ → AckMarks → Bool
is_due seen n m = nat_le 1 m.eliciting || out_of_order seen m.greatest_eliciting n

-- a packet makes an ACK owed: in Data, one with a mark of congestion, and one that elicits an ACK and makes it due; in
-- the other spaces each one that elicits an ACK or has the mark
unfoldable pub makes_owed : Bool → Window → Arrival → AckMarks → Bool
makes_owed in_data seen p m = p.ce || (p.ack_eliciting && (not in_data || is_due seen p.number m))

-- an ACK is owed once the packet came
unfoldable pub owed_with : Bool → Window → Arrival → AckMarks → Bool
owed_with in_data seen p m = m.owed || makes_owed in_data seen p m

-- the greatest number and when it came
unfoldable pub greatest_noted : Arrival → AckMarks → AckMarks
greatest_noted p m = if exceeds m.greatest p.number then record m { greatest = Some p.number; came_at = p.at } else m

-- how many of each kind came, and the greatest one that elicits an ACK
unfoldable pub counted_in : Arrival → AckMarks → AckMarks
counted_in p m =
    if p.ack_eliciting then record m { eliciting = plus m.eliciting 1; greatest_eliciting = greatest_with m.greatest_eliciting p.number }
    else record m { silent = plus m.silent 1 }

-- Any other ACK is held back for 25 ms (RFC 9000, section 13.2.1). A packet in Data that elicits an ACK and leaves none
-- owed sets the timer, where it wasn't set since the last ACK
unfoldable pub sets_delay : Bool → Window → Arrival → AckMarks → Bool
sets_delay in_data seen p m = in_data && p.ack_eliciting && not (owed_with in_data seen p m) && not m.delay_set

-- a packet came; `seen` has its number already
unfoldable pub marks_received : Bool → Window → Arrival → AckMarks → AckMarks
marks_received in_data seen p m =
    record (counted_in p (greatest_noted p m)) { owed = owed_with in_data seen p m; delay_set = m.delay_set || sets_delay in_data seen p m }

-- a packet came; `seen` has its number already. The 64 highest ranges of numbers are kept
unfoldable pub acks_received : Bool → Window → Arrival → PendingValues → PendingValues
acks_received in_data seen p v = record { ranges = latest (with_number p.number v.ranges); marks = marks_received in_data seen p v.marks }

-- an ACK with this greatest number was acknowledged: the numbers up to it needn't be acknowledged again
unfoldable pub acks_confirmed : ℕ → PendingValues → PendingValues
acks_confirmed largest v = record v { ranges = from_number (plus largest 1) v.ranges }

-- an ACK was sent
unfoldable pub marks_sent : AckMarks → AckMarks
marks_sent m = record m { owed = false; eliciting = 0; silent = 0; delay_set = false }

-- the timer expired, with or without a number to acknowledge
unfoldable pub marks_expired : Bool → AckMarks → AckMarks
marks_expired empty m = record m { owed = m.owed || not empty }

-- there is nothing to acknowledge
abbrev pub is_clear : PendingValues → Bool
is_clear p = length p.ranges == 0

-- An ACK is owed at once in Initial and Handshake, by the second 1-RTT packet, out of order, and by a mark of congestion
-- (RFC 9000, sections 13.2.1 and 13.2.2). An ACK is owed: one that would acknowledge nothing isn't
unfoldable pub owes_ack : PendingValues → Bool
owes_ack p = p.marks.owed && not (is_clear p)

-- an ACK joins a packet that goes for another reason, once more than ten packets that elicit none came
unfoldable pub joins_ack : PendingValues → Bool
joins_ack p = nat_lt 10 p.marks.silent && not (is_clear p)

-- the time has come, if there is one
abbrev pub has_come_by : Option ℕ → ℕ → Bool
has_come_by None now = false
has_come_by (Some time) now = nat_le time now

-- a packet holds an ACK: it is owed, or joins, or may be bundled with other frames by now
unfoldable pub gives_ack : ℕ → Option ℕ → PendingValues → Bool
gives_ack now bundled p = owes_ack p || joins_ack p || (not (is_clear p) && has_come_by bundled now)

-- for how long the greatest number has waited, in units of 8 microseconds
unfoldable pub ack_delay : ℕ → AckMarks → ℕ
ack_delay now m = (now - m.came_at) / 1000 / 8

-- these numbers to acknowledge are the 64 highest ranges of the old ones and this one
pub record TakesIn (n : ℕ) (old new : List NumberRange) : Type 0 where
  pub all : List NumberRange
  pub added : Adds n old all
  pub kept : new ≡ latest all

-- when an ACK may next be bundled: a round trip, and the peer's delay, and 1 ms after an ACK was sent
unfoldable pub next_bundle : (now rtt delay : ℕ) → ℕ
next_bundle now rtt delay = plus now (plus (plus rtt delay) 1000000)
