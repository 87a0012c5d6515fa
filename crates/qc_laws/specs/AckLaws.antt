-- Laws over whole runs, said of the packets that ask for an ACK, and of an ACK that is held back (RFC 9000, section 13.2.1).
use Rattle.std.specs.Prelude.{◌≡◌, ℕ, ◌+◌, ◌<◌, ◌≤◌, ◌⊎◌, ◌&&◌, ◌||◌, not, nat_lt, Bool, true, false, List, [], ◌∷◌, Some, Ok, Err, is_some}
use Rattle.std.specs.List.{list_any}
use Rattle.qc_base.specs.Time.{plus}
use Rattle.qc_base.specs.declared.side.SpaceId.TheVariants.{«Data»}
use Rattle.qc_frame.specs.Payload.{items_of}
use Rattle.qc_header.specs.HeaderGrammar.{DatagramItem}
use Rattle.qc_header.specs.Piece.{Piece}
use Rattle.qc_path.specs.Acks.{AckMarks, is_clear}
use Rattle.qc_state.specs.declared.coming.Coming.{Coming}
use Rattle.qc_state.specs.declared.deeds.Did.{Did}
use Rattle.qc_state.specs.declared.deeds.Did.TheVariants as did
use Rattle.qc_state.specs.declared.input.Input.{Input}
use Rattle.qc_state.specs.declared.input.Input.TheVariants as input
use Rattle.qc_state.specs.declared.opening.Opening.{Opening}
use Rattle.qc_state.specs.declared.opening.Opening.TheVariants.{Unreadable, Unopened, Reserved, Untimely, Opened}
use Rattle.qc_state.specs.declared.trace.Step.{Step}
use Rattle.qc_state.specs.Acks.{is_ack}
use Rattle.qc_state.specs.Life.{is_open}
use Rattle.qc_state.specs.Moves.{accepts}
use Rattle.qc_state.specs.Opening.{opening_of}
use Rattle.qc_state.specs.Receiving.{is_eliciting_item, piece_after}
use Rattle.qc_state.specs.Run.{IsStep, began}
use Rattle.qc_state.specs.Spaces.{is_space, space_of}
use Rattle.qc_state.specs.Timers.{ack_delay_most}
use Rattle.qc_state.specs.Types.{Types, Meaning}
use Rattle.qc_state.specs.View.{View, At, at}
use Rattle.qc_laws.specs.PieceLaws.{TellsDatagram, piece_deed}
use Rattle.qc_laws.specs.StreamLaws.{is_of}

-- a deed that seals an ACK, in whatever space
abbrev pub seals_ack : Did → Bool
seals_ack (did.Sealed space number epoch early fs) = list_any is_ack fs
seals_ack _ = false

-- one that seals an ACK of 1-RTT packets
abbrev pub acks_data : Did → Bool
acks_data (did.Sealed space number epoch early fs) = is_space space «Data» && list_any is_ack fs
acks_data _ = false

-- a deed that tells of a 1-RTT packet which is to be acknowledged
abbrev pub accepts_data : Did → Bool
accepts_data (did.Piece space number verdict) = accepts verdict && is_of «Data» space
accepts_data _ = false

-- the payload of a packet that opened
abbrev pub opened_payload : Opening → List ℕ
opened_payload Unreadable = []
opened_payload Unopened = []
opened_payload (Reserved number) = []
opened_payload (Untimely number) = []
opened_payload (Opened source token spin which number payload) = payload

module _ {t : Types} where
  -- what is kept beside the numbers of the 1-RTT packets that are to be acknowledged
  abbrev pub marks_of : View t → AckMarks
  marks_of s = (space_of s.waiting.spaces «Data»).acks.marks

  -- there is nothing to acknowledge, or an ACK is owed
  abbrev pub is_owed_or_clear : View t → Bool
  is_owed_or_clear s = (marks_of s).owed || is_clear (space_of s.waiting.spaces «Data»).acks

  -- a packet that came asks for an ACK: it is told of as a 1-RTT packet which is to be acknowledged, and a frame of its payload elicits an
  -- acknowledgement (RFC 9002, section 2)
  abbrev pub asks_ack : Meaning t → View t → Piece → Bool
  asks_ack m s p = accepts_data (piece_deed m s p) && list_any is_eliciting_item (items_of (opened_payload (opening_of m s p)))

  -- one of these packets does, each of which came where the one before it ended
  abbrev pub one_asks : Meaning t → Coming → List DatagramItem → At t → Bool
  one_asks m coming [] a = false
  one_asks m coming (Err fault ∷ items) a = false
  one_asks m coming (Ok p ∷ items) a = asks_ack m a.state p || one_asks m coming items (piece_after m coming p a)

  -- an ACK is asked for: packets that elicit one count as come since the last one
  abbrev pub is_asked : View t → Bool
  is_asked s = nat_lt 0 (marks_of s).eliciting

  -- Whether an ACK is asked for behind a step. Over a datagram, just where it was before, or one of the packets asks for one that are told
  -- of; over any other input, just where it was before, and no ACK of 1-RTT packets was sealed.
  abbrev pub AsksStep : Meaning t → View t → Input → Step → View t → Type 0
  AsksStep m s (input.Datagram time remote ecn bytes) x s' =
      let coming : Coming = record { time = time; remote = remote; mark = ecn } in
      (told : TellsDatagram m coming bytes (began s time) (at s' x.did)) × (is_asked s' ≡ (is_asked s || one_asks m coming told.items told.start))
  AsksStep m s i x s' = is_asked s' ≡ (is_asked s && not (list_any acks_data x.did))

  -- Where an ACK is asked for, one is owed, or held back; and the timer of an ACK that is held back stands only where one is.
  pub record AckHolds (s : View t) : Type 0 where
    pub asked : 0 < (marks_of s).eliciting → ((marks_of s).owed || (marks_of s).delay_set) ≡ true
    pub timed : is_some s.timers.max_ack_delay ≡ true → (marks_of s).delay_set ≡ true

  -- What an input does at a time to an ACK that is owed, or held back in a connection that stays open. One that is owed stays owed, unless
  -- an ACK of 1-RTT packets was sealed. Where one is held back from then on, its timer is set for 25 ms later. A timer that stands stands
  -- on, unless an ACK was sealed, in whatever space; or it has come, and the ACK is owed, where there is something to acknowledge.
  pub record HoldsAck (now : ℕ) (ds : List Did) (s s' : View t) : Type 0 where
    pub owes : (marks_of s).owed ≡ true → ((marks_of s').owed ≡ true) ⊎ (list_any acks_data ds ≡ true)
    pub sets : is_open s'.life.state ≡ true → (marks_of s).delay_set ≡ false → (marks_of s').delay_set ≡ true → (s'.timers.max_ack_delay ≡ Some (plus now ack_delay_most)) ⊎ (list_any seals_ack ds ≡ true)
    pub waits : (at : ℕ) → is_open s'.life.state ≡ true → s.timers.max_ack_delay ≡ Some at →
        (s'.timers.max_ack_delay ≡ Some at) ⊎ ((list_any seals_ack ds ≡ true) ⊎ ((at ≤ now) × (is_owed_or_clear s' ≡ true)))

  -- so does each step of a run, behind which it is so with the ACK that is asked for
  unfoldable pub EachHoldsAck : Meaning t → ℕ → View t → List Input → List Step → View t → Type 0
  EachHoldsAck m k s (i ∷ is) (x ∷ xs) s' =
      (mid : View t) × IsStep m k s i x mid × AsksStep m s i x mid × AckHolds mid × HoldsAck x.now x.did s mid × EachHoldsAck m (k + 1) mid is xs s'
  EachHoldsAck m k s is xs s' = Unit {0}
