-- No call leaves the connection marked as failed that wasn't before: the streams make no step of their own that marks it.
use Rattle.std.proofs.Common.{◌≡◌, ℕ, List, [], ◌∷◌, ◌++◌, length, refl, ap, ◌∙◌, Bool, true, false, if◌then◌else◌, Option, None, Some, Ok}
use Rattle.std.specs.List.{list_any}
use Rattle.qc_base.specs.declared.ids.IssuedCid.{IssuedCid}
use Rattle.qc_base.specs.declared.side.SpaceId.{SpaceId}
use Rattle.qc_base.specs.declared.side.SpaceId.TheVariants.{Initial}
use Rattle.qc_cids.specs.Cids.{give_refusal}
use Rattle.qc_flight.specs.declared.sent.SentPacket.{SentPacket}
use Rattle.qc_frame.specs.Frame.{FrameValue}
use Rattle.qc_header.specs.HeaderGrammar.{DatagramItem}
use Rattle.qc_header.specs.Piece.{Piece}
use Rattle.qc_receive.specs.Cutting.{rest_of}
use Rattle.qc_receive.specs.Events.{GivesRight, handed_after, time_of_event}
use Rattle.qc_receive.specs.declared.events.ConnectionEvent.{ConnectionEvent}
use Rattle.qc_receive.specs.declared.events.ConnectionEvent.TheVariants.{Datagram, NewIdentifiers}
use Rattle.qc_state.specs.declared.coming.Coming.{Coming}
use Rattle.qc_state.specs.declared.events.EndpointEvent.{EndpointEvent}
use Rattle.qc_state.specs.declared.events.Event.{Event}
use Rattle.qc_state.specs.declared.form.Form.{Form}
use Rattle.qc_state.specs.declared.input.Input.{Input}
use Rattle.qc_state.specs.declared.life.Close.{Close}
use Rattle.qc_state.specs.declared.life.State.{State}
use Rattle.qc_state.specs.declared.life.State.TheVariants as state
use Rattle.qc_state.specs.declared.lower.Lower.{Lower}
use Rattle.qc_state.specs.declared.trace.Step.{Step as TraceStep}
use Rattle.qc_state.specs.declared.transmit.Transmit.{Transmit}
use Rattle.qc_state.specs.Flight.{flown_packet}
use Rattle.qc_state.specs.Forms.{is_early, number_space}
use Rattle.qc_state.specs.Keys.{epoch_in}
use Rattle.qc_state.specs.Life.{is_handshake, is_open, is_over, rank_of}
use Rattle.qc_state.specs.Lower.{bytes_came, event_told, events_told, flight_dropped, frame_handed, ids_stepped, datagrams_stepped, frames_sealed, limits_learned, packet_flown, packets_settled, session_read, session_wrote, streams_closed, streams_stepped, timer_fired}
use Rattle.qc_state.specs.Moves.{Ack, Ask, Begin, Call, Expect, Fire, Hand, Issue, Learn, MayMove, Move, PeerCloses, PeerClosesToo, Raise, ReportConnected, ReportDrained, ReportHeard, ReportLost, ReportNotice, ReportReady, ReportStream, ReportStreams, Seal, Shut, Take, is_call, keys_move, life_move, lower_move, move_to, numbers_move, state_move, Update}
use Rattle.qc_state.specs.Numbers.{next_number}
use Rattle.qc_state.specs.Offers.{begun_steps}
use Rattle.qc_state.specs.Paths.{is_blocked}
use Rattle.qc_state.specs.Polls.{heard_polled, polled, polled_endpoint, reported_of, stream_polled}
use Rattle.qc_state.specs.Receiving.{counted_after, cut_of, datagram_after, event_after, first_packet_after, lets_in, opened_first, piece_after, pieces_after}
use Rattle.qc_state.specs.Run.{IsStep, began, close_after}
use Rattle.qc_state.specs.Sending.{Transmits, packet_size}
use Rattle.qc_state.specs.StreamFrames.{acked_steps, fired_steps, lost_steps, sealed_steps}
use Rattle.qc_state.specs.Streams.{asked_for, events_of, limits_of, steps_of_frame}
use Rattle.qc_state.specs.Timeouts.{timeout_after}
use Rattle.qc_state.specs.Types.{Types, Meaning}
use Rattle.qc_state.specs.Updating.{updated_after}
use Rattle.qc_state.specs.View.{View, At, at}
use Rattle.qc_state.proofs.Expired.{holds_timeout}
use Rattle.qc_state.proofs.Probed.{begun_streams}
use Rattle.qc_state.proofs.Telling.{open_rank}
use Rattle.qc_state.proofs.Transmitted.{IsSealable, holds_transmit}
use Rattle.qc_state.proofs.Updates.{holds_updated}
use Rattle.qc_streams.specs.declared.events.StreamEvent.{StreamEvent}
use Rattle.qc_streams.specs.declared.state.StreamsState.{StreamsState}
use Rattle.qc_streams.specs.Owed.{next_event}
use Rattle.qc_streams.specs.Streams.{new_streams}
use Rattle.qc_streams.specs.Waits.{Step, Closed, Failed, LimitsKnown, Polled, after}
use Rattle.qc_laws.specs.ReadLaws.{HasNewStreams}
use Rattle.qc_laws.specs.StreamsLaws.{NoneOf, is_other}
use Rattle.qc_laws.proofs.Receives.{holds_counted, holds_datagram, holds_pieces, holds_received}
use Rattle.qc_laws.proofs.StreamsFold.{step_over}
use Rattle.qc_laws.proofs.StreamsMade.{asked_are, frame_are, sealed_are, settled_are}
use Rattle.qc_laws.proofs.StreamsSealed.{begun_all, fired_all, settled_all}
use Rattle.qc_conn.specs.Seen.{Sends}
use Rattle.qc_conn.proofs.MarkSteps.{either_none, is_failing, neither, step_mark, steps_mark}

-- ---- steps of the streams

-- what is none of the other steps doesn't mark the connection
unfailing : (x : Step) → is_other x ≡ false → is_failing x ≡ false
unfailing Failed h = cc
unfailing _ h = refl

all_unfailing : (xs : List Step) → NoneOf is_other xs → list_any is_failing xs ≡ false
all_unfailing [] h = refl
all_unfailing (x ∷ xs) h = let none = neither (is_other x) (list_any is_other xs) h in either_none (is_failing x) (list_any is_failing xs) (unfailing x none.0) (all_unfailing xs none.1)

-- nor does a call of the application's
call_unfailing : (x : Step) → is_call x ≡ true → is_failing x ≡ false
call_unfailing Failed h = cc
call_unfailing _ h = refl

only_mark : (xs : List Step) (s : StreamsState) → NoneOf is_other xs → (after xs s).failed ≡ s.failed
only_mark xs s only = steps_mark xs s (all_unfailing xs only)

-- ---- moves

flown_mark : {S : Type 0} → (owed : Bool) (l : Lower S) (id : SpaceId) (n : ℕ) (packet : SentPacket) → (if owed then l else packet_flown l id n packet).streams.failed ≡ l.streams.failed
unfolding packet_flown
flown_mark true l id n packet = refl
flown_mark false l id n packet = refl

-- while the handshake goes on the connection isn't over
lively_by : (s : State) → is_handshake s ≡ true → is_over s ≡ false
lively_by state.Handshake h = refl
lively_by state.Established h = refl
lively_by state.Closed h = refl
lively_by state.Draining h = cc
lively_by state.Drained h = cc

module _ {t : Types} where
  move_mark : (x : Move t) (s : View t) → MayMove x s → (state_move x s).lower.streams.failed ≡ s.lower.streams.failed
  unfolding state_move lower_move flight_dropped packets_settled timer_fired bytes_came session_read session_wrote limits_learned frame_handed streams_closed streams_stepped datagrams_stepped event_told events_told MayMove after frames_sealed ids_stepped
  move_mark (Seal time form n size fs) s may = flown_mark s.waiting.close_owed s.lower (number_space form) n (flown_packet time size fs)
  move_mark (Take id fs) s may = let are = sealed_are id 0 0 false fs s.lower.streams may in only_mark (sealed_steps fs) s.lower.streams are.only
  move_mark (Begin id opens) s may =
      let xs : List Step = begun_steps id opens s in
      let are = settled_are xs s.lower.streams (begun_all id opens s) in
      ap (λ (l : Lower t.S). l.streams.failed) (begun_streams id opens s) ∙ only_mark xs s.lower.streams are.only
  move_mark (Ack id n r) s may =
      let xs : List Step = acked_steps r.acked ++ lost_steps r.lost in
      let are = settled_are xs s.lower.streams (settled_all r.acked r.lost) in
      only_mark xs s.lower.streams are.only
  move_mark (Fire r) s may =
      let xs : List Step = fired_steps r.fired in
      let are = settled_are xs s.lower.streams (fired_all r.fired) in
      only_mark xs s.lower.streams are.only
  move_mark (Hand frame) s may = let are = frame_are frame s.lower.streams in only_mark (steps_of_frame frame s.lower.streams) s.lower.streams are.only
  move_mark (Call x) s may = step_mark x s.lower.streams (call_unfailing x may.0)
  move_mark (Learn parameters) s may = step_mark (LimitsKnown (limits_of parameters)) s.lower.streams refl
  move_mark (Shut time close) s may = step_mark Closed s.lower.streams refl
  move_mark (PeerCloses time) s may = step_mark Closed s.lower.streams refl
  move_mark PeerClosesToo s may = step_mark Closed s.lower.streams refl
  move_mark (Raise to) s may = step_mark Closed s.lower.streams refl
  move_mark ReportStream s may = step_mark Polled s.lower.streams refl
  move_mark ReportStreams s may = let are = asked_are s.lower.streams in only_mark (asked_for (length (events_of s.lower.streams))) s.lower.streams are.only
  move_mark x s may = refl

  -- the mark stands as it stood
  abbrev Marked : At t → At t → Type 0
  Marked a b = b.state.lower.streams.failed ≡ a.state.lower.streams.failed

  here : (a : At t) → Marked a a
  here a = refl

  next : (a b c : At t) → Marked a b → Marked b c → Marked a c
  next a b c g h = h ∙ g

  moved : (x : Move t) (a : At t) → MayMove x a.state → Marked a (move_to x a)
  unfolding move_to
  moved x a may = move_mark x a.state may

  -- ---- calls

  began_mark : (s : View t) (time : ℕ) → (began s time).state.lower.streams.failed ≡ s.lower.streams.failed
  unfolding began state_move lower_move
  began_mark s time = refl

  -- a datagram comes
  pub datagram_mark : (m : Meaning t) (coming : Coming) (bytes : List ℕ) (s s' : View t) → s' ≡ (datagram_after m coming bytes (began s coming.time)).state → s'.lower.streams.failed ≡ s.lower.streams.failed
  datagram_mark m coming bytes s s' is =
      ap (λ (v : View t). v.lower.streams.failed) is ∙ holds_datagram Marked here next (λ x received b may. moved x b may) m coming bytes (began s coming.time) ∙ began_mark s coming.time

  -- packets, and bytes that count
  pieces_mark : (m : Meaning t) (coming : Coming) (items : List DatagramItem) (a : At t) → Marked a (pieces_after m coming items a)
  pieces_mark m coming items a = holds_pieces Marked here next (λ x received b may. moved x b may) m coming items a

  counted_mark : (time : ℕ) (blocked : Bool) (n : ℕ) (a : At t) → Marked a (counted_after time blocked n a)
  counted_mark time blocked n a = holds_counted Marked here next (λ x received b may. moved x b may) time blocked n a

  -- a datagram that was cut already, which counts or doesn't
  event_by : (m : Meaning t) (coming : Coming) (p : Piece) (items : List DatagramItem) (n : ℕ) (a : At t) (b : Bool) →
      Marked a (if b then counted_after coming.time (is_blocked a.state.paths) n (pieces_after m coming items (piece_after m coming p a)) else a)
  event_by m coming p items n a true =
      let c : At t = pieces_after m coming (Ok p ∷ items) a in
      counted_mark coming.time (is_blocked a.state.paths) n c ∙ pieces_mark m coming (Ok p ∷ items) a
  event_by m coming p items n a false = refl

  event_mark : (m : Meaning t) (coming : Coming) (p : Piece) (behind : List ℕ) (s s' : View t) → s' ≡ (event_after m coming p behind (began s coming.time)).state → s'.lower.streams.failed ≡ s.lower.streams.failed
  unfolding event_after
  event_mark m coming p behind s s' is =
      ap (λ (v : View t). v.lower.streams.failed) is
      ∙ event_by m coming p (cut_of (began s coming.time).state behind) _ (began s coming.time) (lets_in (began s coming.time).state coming.remote) ∙ began_mark s coming.time

  -- ids are given
  issue_mark : (time : ℕ) (given : List IssuedCid) (s s' : View t) → give_refusal given s.lower.ids ≡ None → s' ≡ (move_to (Issue time given) (began s time)).state → s'.lower.streams.failed ≡ s.lower.streams.failed
  unfolding began MayMove state_move lower_move
  issue_mark time given s s' may is = ap (λ (v : View t). v.lower.streams.failed) is ∙ moved (Issue time given) (began s time) may ∙ began_mark s time

  -- an endpoint hands over what came
  pub handed_mark : (m : Meaning t) (event : ConnectionEvent) (s s' : View t) → GivesRight event s.lower.ids → s' ≡ (handed_after m event (began s (time_of_event event))).state → s'.lower.streams.failed ≡ s.lower.streams.failed
  handed_mark m (NewIdentifiers ids now) s s' may is = issue_mark now ids s s' may is
  handed_mark m (Datagram now remote ecn first_decode remaining) s s' may is = event_mark m (record { time = now; remote = remote; mark = ecn }) first_decode (rest_of remaining) s s' is

  -- a server's first packet
  first_mark : (m : Meaning t) (coming : Coming) (source token : List ℕ) (number : ℕ) (payload : List ℕ) (a : At t) → is_over a.state.life.state ≡ false → Marked a (opened_first m coming source token number payload a)
  unfolding opened_first MayMove move_to state_move life_move
  first_mark m coming source token number payload a lively =
      let b : At t = move_to (Expect token) a in
      holds_received Marked here next (λ x received c may. moved x c may) m coming Initial false source token number payload b lively ∙ moved (Expect token) a tt

  pub first_packet_mark : (m : Meaning t) (coming : Coming) (source token : List ℕ) (number : ℕ) (payload behind : List ℕ) (size : ℕ) (s s' : View t) →
      is_handshake s.life.state ≡ true → s' ≡ (first_packet_after m coming source token number payload behind size (began s coming.time)).state → s'.lower.streams.failed ≡ s.lower.streams.failed
  unfolding first_packet_after began state_move life_move
  first_packet_mark m coming source token number payload behind size s s' shakes is =
      let a : At t = began s coming.time in
      let b : At t = opened_first m coming source token number payload a in
      let c : At t = pieces_after m coming (cut_of a.state behind) b in
      ap (λ (v : View t). v.lower.streams.failed) is
      ∙ counted_mark coming.time (is_blocked a.state.paths) size c ∙ pieces_mark m coming (cut_of a.state behind) b ∙ first_mark m coming source token number payload a (lively_by s.life.state shakes) ∙ began_mark s coming.time

  -- timers may have come
  pub timeout_mark : (m : Meaning t) (time : ℕ) (s s' : View t) → s' ≡ (timeout_after m time (began s time)).state → s'.lower.streams.failed ≡ s.lower.streams.failed
  timeout_mark m time s s' is =
      ap (λ (v : View t). v.lower.streams.failed) is ∙ holds_timeout Marked here next (λ x timed b may. moved x b may) m time (began s time) ∙ began_mark s time

  -- a packet is taken and sealed
  seal_mark : (time : ℕ) (form : Form) (fs : List FrameValue) (a : At t) → IsSealable time a.state form fs →
      Marked a (move_to (Seal time form (next_number a.state.numbers (number_space form)) (packet_size a.state form fs) fs) (move_to (Take (number_space form) fs) a))
  unfolding MayMove move_to state_move numbers_move keys_move life_move
  seal_mark time form fs a may =
      let b : At t = move_to (Take (number_space form) fs) a in
      moved (Seal time form (next_number a.state.numbers (number_space form)) (packet_size a.state form fs) fs) b (refl, may.closes, may.alive, may.keyed) ∙ moved (Take (number_space form) fs) a may.takes

  -- a transmit
  pub sent_mark : (m : Meaning t) (time asked : ℕ) (s s' : View t) (sent : Option Transmit) (buffer : List ℕ) → Sends m time asked s s' sent buffer → s'.lower.streams.failed ≡ s.lower.streams.failed
  sent_mark m time asked s s' sent buffer h =
      ap (λ (x : At t). x.state.lower.streams.failed) h.transmits.leads
      ∙ holds_transmit Marked here next (λ x sends b may. moved x b may) (λ at_time form fs b may. seal_mark at_time form fs b may) m time asked h.transmits.choice (began s time) h.transmits.may ∙ began_mark s time

  -- a close
  closed_by : (time : ℕ) (close : Close) (a : At t) (b : Bool) → is_open a.state.life.state ≡ b → Marked a (if b then move_to (Shut time close) a else a)
  unfolding MayMove
  closed_by time close a true h = moved (Shut time close) a (open_rank a.state.life.state h)
  closed_by time close a false h = refl

  pub close_mark : (time code : ℕ) (reason : List ℕ) (s s' : View t) → s' ≡ (close_after time code reason (began s time)).state → s'.lower.streams.failed ≡ s.lower.streams.failed
  unfolding close_after
  close_mark time code reason s s' is = ap (λ (v : View t). v.lower.streams.failed) is ∙ closed_by time _ (began s time) _ refl ∙ began_mark s time

  -- an event is asked for
  stream_polled_mark : (event : Option StreamEvent) (s : View t) → (stream_polled event s).lower.streams.failed ≡ s.lower.streams.failed
  unfolding MayMove
  stream_polled_mark None s = move_mark ReportLost (state_move ReportStream s) tt ∙ move_mark ReportStream s tt
  stream_polled_mark (Some event) s = move_mark ReportStream s tt

  heard_polled_mark : (events : List Event) (s : View t) → (heard_polled events s).lower.streams.failed ≡ s.lower.streams.failed
  unfolding MayMove
  heard_polled_mark [] s = stream_polled_mark (next_event s.lower.streams) s
  heard_polled_mark (event ∷ events) s = move_mark ReportHeard s tt

  pub polled_mark : (s s' : View t) → s' ≡ polled s → s'.lower.streams.failed ≡ s.lower.streams.failed
  unfolding polled MayMove
  polled_mark s s' is = ap (λ (v : View t). v.lower.streams.failed) is ∙ by s.life.ready s.life.connected
    where
      by : (b c : Bool) → (if b then state_move ReportReady s else if c then state_move ReportConnected s else heard_polled s.life.heard s).lower.streams.failed ≡ s.lower.streams.failed
      by true c = move_mark ReportReady s tt
      by false true = move_mark ReportConnected s tt
      by false false = heard_polled_mark s.life.heard s

  reported_mark : (notices : List EndpointEvent) (s : View t) → (reported_of notices s).lower.streams.failed ≡ s.lower.streams.failed
  unfolding MayMove
  reported_mark [] s = move_mark ReportDrained s tt
  reported_mark (e ∷ es) s = move_mark ReportNotice s tt

  pub polled_endpoint_mark : (s s' : View t) → s' ≡ polled_endpoint s → s'.lower.streams.failed ≡ s.lower.streams.failed
  unfolding polled_endpoint
  polled_endpoint_mark s s' is = ap (λ (v : View t). v.lower.streams.failed) is ∙ reported_mark s.life.notices s

  -- a PING is asked for
  pub asked_mark : (id : SpaceId) (s s' : View t) → s' ≡ state_move (Ask id) s → s'.lower.streams.failed ≡ s.lower.streams.failed
  unfolding MayMove
  asked_mark id s s' is = ap (λ (v : View t). v.lower.streams.failed) is ∙ move_mark (Ask id) s tt

  -- the keys are updated, where they may be
  pub updated_mark : (m : Meaning t) (s s' : View t) → s' ≡ (updated_after m (at s [])).state → s'.lower.streams.failed ≡ s.lower.streams.failed
  updated_mark m s s' is = ap (λ (v : View t). v.lower.streams.failed) is ∙ holds_updated m Marked here (λ b may. moved (Update _ _) b may) (at s [])

  -- a connection that was just made hasn't failed
  pub new_mark : (s : View t) → HasNewStreams s → s.lower.streams.failed ≡ false
  unfolding new_streams
  new_mark s h = ap (λ (x : StreamsState). x.failed) h.2

  -- an input of `drive`
  pub input_mark : (m : Meaning t) (k : ℕ) (s : View t) (i : Input) (x : TraceStep) (s' : View t) → IsStep m k s i x s' → s'.lower.streams.failed ≡ s.lower.streams.failed
  input_mark m k s i x s' h =
      let o = step_over m k s i x s' h in
      ap (λ (l : StreamsState). l.failed) o.leads ∙ only_mark o.steps s.lower.streams o.are.only
