-- Calls that are made of what is to be acknowledged in the Data space, in any order, and what they told since an ACK went last.
use Rattle.std.specs.Prelude.{◌≡◌, ℕ, ◌+◌, ◌==◌, ◌≤◌, ◌⊎◌, Bool, true, false, ◌||◌, if◌then◌else◌, List, [], ◌∷◌, length}
use Rattle.qc_path.specs.Acks.{PendingValues, acks_confirmed, acks_received, is_clear, marks_expired, marks_sent, no_marks, owes_ack, sets_delay}
use Rattle.qc_path.specs.Arrived.{Window}
use Rattle.qc_path.specs.declared.pending_acks.Arrival.{Arrival}

-- a call
pub data AckCall : Type 0 where
  Came : Window → Arrival → AckCall  -- a packet came, whose number the window has already
  Went : AckCall  -- an ACK was sent
  Expired : AckCall  -- the timer expired
  Confirmed : ℕ → AckCall  -- an ACK with this greatest number was acknowledged

-- what the calls left, and what was told since an ACK went last
pub record AckHistory : Type 0 where
  pub pending : PendingValues
  pub elicited : ℕ  -- how many packets came that elicit an ACK
  pub timed : Bool  -- a call answered that the timer is to be set

-- before all calls
unfoldable pub no_calls : AckHistory
no_calls = record { pending = record { ranges = []; marks = no_marks }; elicited = 0; timed = false }

-- one more packet, if it elicits an ACK
abbrev pub elicited_with : Arrival → ℕ → ℕ
elicited_with p count = if p.ack_eliciting then count + 1 else count

-- one call more
unfoldable pub called : AckCall → AckHistory → AckHistory
called (Came seen p) h = record {
  pending = acks_received true seen p h.pending;
  elicited = elicited_with p h.elicited;
  timed = h.timed || sets_delay true seen p h.pending.marks;
}
called Went h = record { pending = record h.pending { marks = marks_sent h.pending.marks }; elicited = 0; timed = false }
called Expired h = record h { pending = record h.pending { marks = marks_expired (length h.pending.ranges == 0) h.pending.marks } }
called (Confirmed largest) h = record h { pending = acks_confirmed largest h.pending }

-- and any number of them
abbrev pub all_called : List AckCall → AckHistory → AckHistory
all_called [] h = h
all_called (call ∷ calls) h = all_called calls (called call h)

-- an ACK is owed, where there is anything to acknowledge
abbrev pub OwesAck : PendingValues → Type 0
OwesAck p = is_clear p ≡ false → owes_ack p ≡ true

-- behind a packet that elicits an ACK one is owed, or its timer was set; behind the second one it is owed (RFC 9000, sections
-- 13.2.1 and 13.2.2)
pub record IsAckDue (h : AckHistory) : Type 0 where
  pub first : 1 ≤ h.elicited → OwesAck h.pending ⊎ (h.timed ≡ true)
  pub second : 2 ≤ h.elicited → OwesAck h.pending
