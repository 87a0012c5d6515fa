-- What a step makes of the stream with an id
use Rattle.std.proofs.Common.{◌≡◌, ℕ, ◌==◌, true, false, cond, take, Option, None, Some}
use Rattle.std.specs.Option.{option_map}
use Rattle.qc_base.specs.declared.side.Dir.{Dir}
use Rattle.qc_recv.specs.declared.recv.Recv.{Recv}
use Rattle.qc_recv.specs.Owed.{credit_lost, credit_sealed, stop_lost, stop_sealed}
use Rattle.qc_recv.specs.Receiving.{opened, reset_asked, reset_taken, stop_asked, stream_taken}
use Rattle.qc_send_stream.specs.declared.send.SendPart.{SendPart}
use Rattle.qc_send_stream.specs.Sending.{finished, is_done, part_acked, part_lost, part_sealed, part_written, reset_acked, reset_lost, reset_sealed, was_reset}
use Rattle.qc_streams.specs.declared.control.Control.{Control}
use Rattle.qc_streams.specs.declared.control.Control.TheVariants.{Reset, Stop, MaxData, MaxStreamData, MaxStreams}
use Rattle.qc_streams.specs.declared.state.StreamsState.{StreamsState}
use Rattle.qc_streams.specs.declared.stream.Stream.{Stream}
use Rattle.qc_streams.specs.Calls.{after_read, if_known}
use Rattle.qc_streams.specs.Carried.{keeps_streams}
use Rattle.qc_streams.specs.StreamBytes.{part_end}
use Rattle.qc_streams.specs.Records.{record_of}
use Rattle.qc_streams.specs.Streams.{fresh_own, fresh_peer}
use Rattle.qc_streams.specs.Waits.{IsPossible, Step, Wrote, Finished, WasReset, Began, Read, Stopped, ResetAsked, StreamCame, ResetCame, ControlSealed, ControlLost, ControlAcked, PartSealed, BytesLost, BytesAcked, after_step}
use Rattle.qc_streams.proofs.WaitSteps.{Holds, was_opened}

-- where ids are the same
abbrev pub if_same : {X : Type 0} → ℕ → ℕ → (X → X) → X → X
if_same id j f x = cond (j == id) (f x) x

-- what the sealing, and the loss, of a frame makes of a receiving side
abbrev pub control_came : ℕ → Control → (Recv → Recv) → (Recv → Recv) → Recv → Recv
control_came id (Reset j code size) stop credit r = r
control_came id (Stop j code) stop credit r = if_same id j stop r
control_came id (MaxData limit) stop credit r = r
control_came id (MaxStreamData j limit) stop credit r = if_same id j credit r
control_came id (MaxStreams dir limit) stop credit r = r

-- what a step makes of the receiving side of the stream with an id
unfoldable pub came_to : ℕ → Step → Recv → Recv
came_to id (Began ordered j) r = if_same id j (opened ordered) r
came_to id (Read ordered result j) r = if_same id j (after_read ordered result) r
came_to id (Stopped code j) r = if_same id j (stop_asked code) r
came_to id (ResetAsked j) r = if_same id j reset_asked r
came_to id (StreamCame j o bs last) r = if_same id j (stream_taken o bs last) r
came_to id (ResetCame j code size) r = if_same id j (reset_taken code size) r
came_to id (ControlSealed c) r = control_came id c stop_sealed credit_sealed r
came_to id (ControlLost c) r = control_came id c stop_lost credit_lost r
came_to id x r = r

-- what the sealing, the loss and the acknowledgement of a frame make of a sending side
abbrev pub control_sent : ℕ → Control → (SendPart → SendPart) → SendPart → SendPart
control_sent id (Reset j code size) f p = if_same id j f p
control_sent id (Stop j code) f p = p
control_sent id (MaxData limit) f p = p
control_sent id (MaxStreamData j limit) f p = p
control_sent id (MaxStreams dir limit) f p = p

-- what a step makes of the sending side of the stream with an id, but for its limit, the peer's code and whether a write was blocked
unfoldable pub sent_to : ℕ → Step → SendPart → SendPart
sent_to id (Wrote j n chunk) p = if_same id j (if_known (part_written (take n chunk))) p
sent_to id (Finished j) p = if_same id j (if_known finished) p
sent_to id (WasReset code j) p = if_same id j (if_known (was_reset code)) p
sent_to id (ControlSealed c) p = control_sent id c reset_sealed p
sent_to id (ControlLost c) p = control_sent id c reset_lost p
sent_to id (ControlAcked c) p = control_sent id c reset_acked p
sent_to id (PartSealed d) p = if_same id d.id (part_sealed d.part.offset (part_end d.part) d.part.last) p
sent_to id (BytesLost j start stop last) p = if_same id j (part_lost start stop last) p
sent_to id (BytesAcked j start stop last) p = if_same id j (part_acked start stop last) p
sent_to id x p = p

-- two sending sides have the same bytes, end and reset
pub record SendsAlike (p q : SendPart) : Type 0 where
  pub buffer : q.buffer ≡ p.buffer
  pub end : q.end ≡ p.end
  pub reset : q.reset ≡ p.reset

-- the same, where there are such sides
abbrev pub AlikeIf : Option SendPart → Option SendPart → Type 0
AlikeIf None None = Unit {0}
AlikeIf None (Some q) = ⊥
AlikeIf (Some p) None = ⊥
AlikeIf (Some p) (Some q) = SendsAlike p q

-- What a step makes of a stream
pub record IsStepped (id : ℕ) (x : Step) (st after : Stream) : Type 0 where
  pub receiving : after.receiving ≡ option_map (came_to id x) st.receiving
  pub sending : AlikeIf (option_map (sent_to id x) st.sending) after.sending

-- Where a stream's record comes from: it stood before the step, or is a fresh one of a stream that wasn't opened before
pub data ComesFrom (id : ℕ) (s : StreamsState) (st : Stream) : Type 0 where
  Stood : record_of id s.records ≡ Some st → ComesFrom id s st
  OwnOpened : (dir : Dir) → st ≡ fresh_own dir s → was_opened s.side s.own s.peer id ≡ false → ComesFrom id s st
  PeerOpened : (dir : Dir) → st ≡ fresh_peer dir s → was_opened s.side s.own s.peer id ≡ false → ComesFrom id s st

-- nothing of a stream is left to be sent or acknowledged behind a step
abbrev pub IsDoneBehind : ℕ → Step → Stream → Type 0
IsDoneBehind id x st = (p : SendPart) → st.sending ≡ Some p → is_done (sent_to id x p) ≡ true

-- Why there is no stream with an id after a step: there was none before it, nothing was left to be sent of it, or the server refused early
-- data
pub data WhyGone (id : ℕ) (x : Step) (s : StreamsState) : Type 0 where
  Never : record_of id s.records ≡ None → WhyGone id x s
  Done : (st : Stream) → ComesFrom id s st → IsDoneBehind id x st → WhyGone id x s
  Anew : keeps_streams x ≡ false → WhyGone id x s

-- What a step makes of the stream with an id: there is none after it, or one that came to be so
pub data SteppedAt (id : ℕ) (x : Step) (s : StreamsState) : Type 0 where
  Gone : record_of id (after_step x s).records ≡ None → WhyGone id x s → SteppedAt id x s
  There : (st after : Stream) → ComesFrom id s st → IsStepped id x st after → record_of id (after_step x s).records ≡ Some after → SteppedAt id x s

-- Each step does so
abbrev pub Steps : Type 0
Steps = (id : ℕ) (x : Step) (s : StreamsState) → IsPossible x → Holds s → SteppedAt id x s

-- A stream that was opened stays so, but where the server refused early data
abbrev pub StaysOpened : Type 0
StaysOpened = (id : ℕ) (x : Step) (s : StreamsState) → IsPossible x → keeps_streams x ≡ true → was_opened s.side s.own s.peer id ≡ true
    → was_opened (after_step x s).side (after_step x s).own (after_step x s).peer id ≡ true
