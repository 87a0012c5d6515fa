-- Over a run the streams of the application are the fold of their own steps.
use Rattle.std.proofs.Common.{◌≡◌, ℕ, ◌+◌, List, [], ◌∷◌, ◌++◌, length, refl, ap, sym, ◌∙◌, subst, Bool, true, false, Some, None, if◌then◌else◌, append_assoc, append-nil}
use Rattle.std.specs.Prelude.{map, nat_le, option_to_list, Option, Result}
use Rattle.std.specs.Option.{option_map}
use Rattle.qc_base.specs.declared.side.SpaceId.{SpaceId}
use Rattle.qc_flight.specs.declared.sent.SentPacket.{SentPacket}
use Rattle.qc_frame.specs.Frame.{FrameValue}
use Rattle.qc_recv.specs.declared.recv.Chunk.{Chunk}
use Rattle.qc_streams.specs.declared.events.StreamEvent.{StreamEvent}
use Rattle.qc_streams.specs.declared.fault.ReadFault.{ReadFault}
use Rattle.qc_streams.specs.declared.state.StreamsState.{StreamsState}
use Rattle.qc_streams.specs.Waits.{Step, after}
use Rattle.qc_streams.proofs.StepsLaw.{after_append}
use Rattle.qc_state.specs.declared.deeds.Did.{Did}
use Rattle.qc_state.specs.declared.deeds.Did.TheVariants as did
use Rattle.qc_state.specs.declared.events.Event.{Event}
use Rattle.qc_state.specs.declared.events.Event.TheVariants.{HandshakeDataReady, Connected, Stream, ConnectionLost, DatagramReceived, DatagramsUnblocked}
use Rattle.qc_state.specs.declared.form.Form.{Form}
use Rattle.qc_state.specs.declared.input.Input.{Input}
use Rattle.qc_state.specs.declared.input.Input.TheVariants as input
use Rattle.qc_state.specs.declared.life.ConnectionError.{ConnectionError}
use Rattle.qc_state.specs.declared.life.State.{State}
use Rattle.qc_state.specs.declared.lower.Lower.{Lower}
use Rattle.qc_state.specs.declared.trace.Step.{Step as TraceStep}
use Rattle.qc_state.specs.Flight.{flown_packet}
use Rattle.qc_state.specs.Forms.{is_early, number_space}
use Rattle.qc_state.specs.Headline.{deeds_of}
use Rattle.qc_state.specs.Keys.{epoch_in}
use Rattle.qc_state.specs.Life.{connected_event, event_if, lost_event, rank_of, ready_event}
use Rattle.qc_state.specs.Lower.{bytes_came, events_told, flight_dropped, frame_handed, limits_learned, packet_flown, packets_settled, session_read, session_wrote, streams_closed, streams_stepped, timer_fired, datagrams_stepped, frames_sealed, ids_stepped}
use Rattle.qc_state.specs.Moves.{Ack, Begin, Call, Establish, Fire, Hand, Learn, MayMove, Move, PeerCloses, PeerClosesToo, Raise, ReportStream, ReportStreams, Seal, Shut, Take, Tell, deeds_move, keys_move, lower_move, move_to, state_move, Post, Issue}
use Rattle.qc_state.specs.Numbers.{next_number}
use Rattle.qc_state.specs.Offers.{begun_steps, packet_begun}
use Rattle.qc_state.specs.Polls.{waiting_events}
use Rattle.qc_state.specs.Run.{IsAllowed, IsStep, Run, answer_of, began, called, called_all, input_after, reported, time_of, datagram_limit}
use Rattle.qc_state.specs.Run as run
use Rattle.qc_state.specs.Sending.{Choice, packet_size}
use Rattle.qc_state.specs.StreamFrames.{acked_steps, fired_steps, lost_steps, sealed_steps}
use Rattle.qc_state.specs.Streams.{asked_for, calls_of, events_of}
use Rattle.qc_state.specs.Types.{Types, Meaning}
use Rattle.qc_state.specs.View.{View, At}
use Rattle.qc_state.proofs.Probed.{begun_streams}
use Rattle.qc_state.proofs.Telling.{told_appends}
use Rattle.qc_state.proofs.Transmitted.{IsSealable}
use Rattle.qc_laws.specs.EventLaws as events
use Rattle.qc_laws.specs.StreamsLaws.{FoldsStreams, is_streams_call, streams_steps, streams_told, with_steps, AreMade, MakesEvent, is_asked}
use Rattle.qc_laws.proofs.KnownMoves.{IsKnownMove, IsUncalled, known_other, is_called, uncalled_streams}
use Rattle.qc_laws.proofs.StreamCalls.{calls_may}
use Rattle.qc_laws.proofs.StreamsMade.{Are, apart_are, are_append, asked_are, calls_are, close_are, frame_are, limits_are, low_are, none_are, other_are, sealed_are, settled_are, told_are}
use Rattle.qc_laws.proofs.StreamsSealed.{begun_all, fired_all, settled_all}
use Rattle.qc_laws.specs.EventLaws.{OnlyDoneWaits}
use Rattle.qc_laws.proofs.EventsTold.{called_done, step_done}
use Rattle.std.specs.List.{list_all}
use Rattle.qc_datagrams.specs.Steps as datagrams
use Rattle.qc_base.specs.declared.ids.IssuedCid.{IssuedCid}

-- an input that is no call of the streams makes none
pub none_called : (i : Input) (read : Result (Option Chunk) ReadFault) (s : StreamsState) → is_streams_call i ≡ false → [] ≡ calls_of i read s
none_called (input.Datagram time remote ecn bytes) read s h = refl
none_called (input.Timeout time) read s h = refl
none_called (input.Transmit time max) read s h = refl
none_called (input.Close time code reason) read s h = refl
none_called (input.Ping time) read s h = refl
none_called (input.Update time) read s h = refl
none_called (input.SendDatagram time body) read s h = refl
none_called (input.RecvDatagram time) read s h = refl
none_called _ read s h = cc

-- a packet that is sealed leaves them
pub flown_streams : {S : Type 0} → (owed : Bool) (l : Lower S) (id : SpaceId) (n : ℕ) (packet : SentPacket) → (if owed then l else packet_flown l id n packet).streams ≡ l.streams
unfolding packet_flown
flown_streams true l id n packet = refl
flown_streams false l id n packet = refl

-- ---- events, one list behind another

pub events_append : (es fs : List Event) → streams_told (es ++ fs) ≡ streams_told es ++ streams_told fs
events_append [] fs = refl
events_append (HandshakeDataReady ∷ es) fs = events_append es fs
events_append (Connected ∷ es) fs = events_append es fs
events_append (Stream event ∷ es) fs = ap (λ (xs : List StreamEvent). event ∷ xs) (events_append es fs)
events_append (DatagramReceived ∷ es) fs = events_append es fs
events_append (DatagramsUnblocked ∷ es) fs = events_append es fs
events_append (ConnectionLost why ∷ es) fs = events_append es fs

-- of the events that wait, those of streams
mapped_events : (es : List StreamEvent) (fs : List Event) → streams_told (map Stream es ++ fs) ≡ es ++ streams_told fs
mapped_events [] fs = refl
mapped_events (e ∷ es) fs = ap (λ (xs : List StreamEvent). e ∷ xs) (mapped_events es fs)

lost_events : (o : Option ConnectionError) → streams_told (option_to_list (option_map ConnectionLost o)) ≡ []
lost_events (Some why) = refl
lost_events None = refl

stream_events : (es : List StreamEvent) (o : Option ConnectionError) → streams_told (map Stream es ++ option_to_list (option_map ConnectionLost o)) ≡ es
stream_events es o = mapped_events es _ ∙ ap (λ (xs : List StreamEvent). es ++ xs) (lost_events o) ∙ append-nil es

heard_events : (hs fs : List Event) → list_all events.is_heard hs ≡ true → streams_told (hs ++ fs) ≡ streams_told fs
heard_events [] fs h = refl
heard_events (DatagramReceived ∷ hs) fs h = heard_events hs fs h
heard_events (DatagramsUnblocked ∷ hs) fs h = heard_events hs fs h
heard_events (_ ∷ hs) fs h = cc

waiting_by : (r c : Bool) (hs : List Event) (es : List StreamEvent) (o : Option ConnectionError) → list_all events.is_heard hs ≡ true →
    streams_told (option_to_list (event_if r HandshakeDataReady) ++ (option_to_list (event_if c Connected) ++ (hs ++ (map Stream es ++ option_to_list (option_map ConnectionLost o))))) ≡ es
waiting_by true true hs es o h = heard_events hs _ h ∙ stream_events es o
waiting_by true false hs es o h = heard_events hs _ h ∙ stream_events es o
waiting_by false true hs es o h = heard_events hs _ h ∙ stream_events es o
waiting_by false false hs es o h = heard_events hs _ h ∙ stream_events es o

module _ {t : Types} where
  pub events_wait : (s : View t) → list_all events.is_heard s.life.heard ≡ true → streams_told (waiting_events s) ≡ events_of s.lower.streams
  unfolding waiting_events ready_event connected_event lost_event
  events_wait s h = waiting_by s.life.ready s.life.connected s.life.heard (events_of s.lower.streams) s.life.lost h

  -- ---- moves

  -- what is said of a move
  abbrev MoveFolds : Move t → View t → Type 0
  MoveFolds x s = ((state_move x s).lower.streams ≡ after (streams_steps x s) s.lower.streams) × Are (streams_steps x s) (deeds_move x s) [] [] s.lower.streams

  begun_leads : (id : SpaceId) (opens : Bool) (s : View t) → (packet_begun id opens s).lower.streams ≡ after (begun_steps id opens s) s.lower.streams
  unfolding ids_stepped streams_stepped
  begun_leads id opens s = ap (λ (l : Lower t.S). l.streams) (begun_streams id opens s)

  pub move_folds : (m : Meaning t) (x : Move t) (s : View t) → IsKnownMove m x s → IsUncalled x → MayMove x s → MoveFolds x s
  unfolding streams_steps state_move lower_move deeds_move flight_dropped packets_settled timer_fired bytes_came session_read session_wrote limits_learned frame_handed streams_closed streams_stepped datagrams_stepped MayMove after frames_sealed ids_stepped
  move_folds m (Take id fs) s k u may = absurd k
  move_folds m (Seal time form n size fs) s k u may = absurd k
  move_folds m (Begin id opens) s k u may = (begun_leads id opens s, settled_are (begun_steps id opens s) s.lower.streams (begun_all id opens s))
  move_folds m (Ack id n r) s k u may = (refl, settled_are (acked_steps r.acked ++ lost_steps r.lost) s.lower.streams (settled_all r.acked r.lost))
  move_folds m (Fire r) s k u may = (refl, settled_are (fired_steps r.fired) s.lower.streams (fired_all r.fired))
  move_folds m (Hand frame) s k u may = (refl, frame_are frame s.lower.streams)
  move_folds m (Call x) s k u may = absurd u
  move_folds m (Learn parameters) s k u may = (refl, limits_are _ s.lower.streams)
  move_folds m Establish s k u may = (refl, low_are s.lower.streams)
  move_folds m (Shut time close) s k u may = (refl, close_are 2 s.lower.streams refl)
  move_folds m (PeerCloses time) s k u may = (refl, close_are 3 s.lower.streams refl)
  move_folds m PeerClosesToo s k u may = (refl, close_are 3 s.lower.streams refl)
  move_folds m (Raise to) s k u may = (refl, close_are (rank_of to) s.lower.streams (ap (λ (x : State). nat_le 2 (rank_of x)) k))
  move_folds m (Tell d) s k u may = (refl, told_are d s.lower.streams may k)
  move_folds m ReportStream s k u may = absurd k
  move_folds m ReportStreams s k u may = absurd k
  move_folds m x s k u may = (refl, apart_are (deeds_move x s) s.lower.streams refl refl refl)

  -- ---- from one moment to another of an input, where it is no call of the streams

  record Folds (a b : At t) : Type 0 where
    pub since : List Did
    pub appended : b.did ≡ a.did ++ since
    pub steps : List Step
    pub leads : b.state.lower.streams ≡ after steps a.state.lower.streams
    pub are : Are steps since [] [] a.state.lower.streams

  folds_here : (a : At t) → Folds a a
  unfolding after
  folds_here a = record { since = []; appended = sym (append-nil a.did); steps = []; leads = refl; are = none_are a.state.lower.streams }

  folds_next : (a b c : At t) → Folds a b → Folds b c → Folds a c
  folds_next a b c g h =
      let s : StreamsState = a.state.lower.streams in
      record {
        since = g.since ++ h.since;
        appended = h.appended ∙ ap (λ (x : List Did). x ++ h.since) g.appended ∙ append_assoc a.did g.since h.since;
        steps = g.steps ++ h.steps;
        leads = h.leads ∙ ap (λ (x : StreamsState). after h.steps x) g.leads ∙ sym (after_append g.steps h.steps s);
        are = are_append g.steps h.steps g.since h.since [] [] [] [] s g.are (subst (λ (x : StreamsState). Are h.steps h.since [] [] x) g.leads h.are);
      }

  folds_by : (x : Move t) (a : At t) → MoveFolds x a.state → Folds a (move_to x a)
  unfolding move_to
  folds_by x a h = record { since = deeds_move x a.state; appended = told_appends a.did (deeds_move x a.state); steps = streams_steps x a.state; leads = h.0; are = h.1 }

  -- a packet is taken and sealed: the steps of the frames that are taken, with the deed that they were sealed
  packet_folds : (time : ℕ) (form : Form) (fs : List FrameValue) (a : At t) → IsSealable time a.state form fs →
      Folds a (move_to (Seal time form (next_number a.state.numbers (number_space form)) (packet_size a.state form fs) fs) (move_to (Take (number_space form) fs) a))
  unfolding move_to state_move keys_move lower_move deeds_move streams_stepped datagrams_stepped frames_sealed ids_stepped
  packet_folds time form fs a may =
      let b : At t = move_to (Take (number_space form) fs) a in
      let n : ℕ = next_number a.state.numbers (number_space form) in
      let size : ℕ = packet_size a.state form fs in
      record {
        since = did.Sealed (number_space form) n (epoch_in a.state.keys form) (is_early form) fs ∷ [];
        appended = refl;
        steps = sealed_steps fs;
        leads = flown_streams b.state.waiting.close_owed b.state.lower (number_space form) n (flown_packet time size fs);
        are = sealed_are (number_space form) n (epoch_in a.state.keys form) (is_early form) fs a.state.lower.streams may.takes;
      }

  -- ---- calls

  pub called_did : (xs : List Step) (a : At t) → (called_all xs a).did ≡ a.did
  unfolding move_to deeds_move
  called_did [] a = refl
  called_did (x ∷ xs) a = called_did xs (move_to (Call x) a)

  pub called_streams : (xs : List Step) (a : At t) → (called_all xs a).state.lower.streams ≡ after xs a.state.lower.streams
  unfolding move_to state_move lower_move streams_stepped datagrams_stepped after frames_sealed ids_stepped
  called_streams [] a = refl
  called_streams (x ∷ xs) a = called_streams xs (move_to (Call x) a)

  -- ---- inputs

  -- over deeds, calls with their steps, and the events that were told, where only what came to pass waited
  pub record Over (ds : List Did) (calls : List (Input × TraceStep)) (told : List StreamEvent) (s s' : View t) : Type 0 where
    pub steps : List Step
    pub asked : List StreamEvent
    pub leads : s'.lower.streams ≡ after steps s.lower.streams
    pub are : Are steps ds calls asked s.lower.streams
    pub same : OnlyDoneWaits s.life → asked ≡ told

  over_next : (ds es : List Did) (calls others : List (Input × TraceStep)) (told later : List StreamEvent) (u v w : View t) → (OnlyDoneWaits u.life → OnlyDoneWaits v.life) →
      Over ds calls told u v → Over es others later v w → Over (ds ++ es) (calls ++ others) (told ++ later) u w
  over_next ds es calls others told later u v w stays g h =
      let s : StreamsState = u.lower.streams in
      record {
        steps = g.steps ++ h.steps;
        asked = g.asked ++ h.asked;
        leads = h.leads ∙ ap (λ (x : StreamsState). after h.steps x) g.leads ∙ sym (after_append g.steps h.steps s);
        are = are_append g.steps h.steps ds es calls others g.asked h.asked s g.are (subst (λ (x : StreamsState). Are h.steps es others h.asked x) g.leads h.are);
        same = λ done. ap (λ (es : List StreamEvent). es ++ h.asked) (g.same done) ∙ ap (λ (es : List StreamEvent). told ++ es) (h.same (stays done));
      }

  -- what an input does before anything is reported
  abbrev Does : Meaning t → Input → TraceStep → Choice → View t → Type 0
  Does m i x choice s = let b : At t = input_after m i choice (began s (time_of i)) in Over b.did ((i, x) ∷ []) [] s b.state

  other_does : (m : Meaning t) (i : Input) (x : TraceStep) (choice : Choice) (s : View t) → is_called i ≡ false → IsAllowed m i choice (began s (time_of i)) → Does m i x choice s
  unfolding began state_move lower_move frames_sealed ids_stepped
  other_does m i x choice s uncalled may =
      let a : At t = began s (time_of i) in
      let none : is_streams_call i ≡ false = uncalled_streams i uncalled in
      let folds : Folds a (input_after m i choice a) =
      known_other m Folds folds_here folds_next (λ y c known plain may_be. folds_by y c (move_folds m y c.state known plain may_be)) packet_folds i choice a uncalled may in
      let makes : [] ≡ calls_of i choice.read (after folds.steps s.lower.streams) = none_called i choice.read (after folds.steps s.lower.streams) none in
      subst (λ (ds : List Did). Over ds ((i, x) ∷ []) [] s (input_after m i choice a).state) (sym folds.appended)
      (record { steps = folds.steps; asked = []; leads = folds.leads; same = λ done. refl; are = other_are i x choice.read folds.steps folds.since s.lower.streams none makes folds.are })

  -- a call of the datagrams makes none of the streams
  post_does : (step : datagrams.Step) (i : Input) (x : TraceStep) (choice : Choice) (s : View t) → is_streams_call i ≡ false → let b : At t = move_to (Post step) (began s (time_of i)) in Over b.did ((i, x) ∷ []) [] s b.state
  unfolding began move_to state_move lower_move deeds_move datagrams_stepped after frames_sealed ids_stepped
  post_does step i x choice s none =
      let makes : [] ≡ calls_of i choice.read s.lower.streams = none_called i choice.read s.lower.streams none in
      record { steps = []; asked = []; leads = refl; same = λ done. refl; are = other_are i x choice.read [] [] s.lower.streams none makes (none_are s.lower.streams) }

  -- nor do ids that are given
  issue_does : (time : ℕ) (given : List IssuedCid) (i : Input) (x : TraceStep) (choice : Choice) (s : View t) → is_streams_call i ≡ false → let b : At t = move_to (Issue time given) (began s (time_of i)) in Over b.did ((i, x) ∷ []) [] s b.state
  unfolding began move_to state_move lower_move deeds_move ids_stepped after
  issue_does time given i x choice s none =
      let makes : [] ≡ calls_of i choice.read s.lower.streams = none_called i choice.read s.lower.streams none in
      record { steps = []; asked = []; leads = refl; same = λ done. refl; are = other_are i x choice.read [] [] s.lower.streams none makes (none_are s.lower.streams) }

  input_does : (m : Meaning t) (i : Input) (x : TraceStep) (choice : Choice) (s : View t) → IsAllowed m i choice (began s (time_of i)) → x.answer ≡ answer_of m i choice (began s (time_of i)) → Does m i x choice s
  unfolding began state_move lower_move input_after IsAllowed answer_of frames_sealed ids_stepped
  input_does m (input.Datagram time remote ecn bytes) x choice s may answers = other_does m (input.Datagram time remote ecn bytes) x choice s refl may
  input_does m (input.Timeout time) x choice s may answers = other_does m (input.Timeout time) x choice s refl may
  input_does m (input.Transmit time max) x choice s may answers = other_does m (input.Transmit time max) x choice s refl may
  input_does m (input.Close time code reason) x choice s may answers = other_does m (input.Close time code reason) x choice s refl may
  input_does m (input.Ping time) x choice s may answers = other_does m (input.Ping time) x choice s refl may
  input_does m (input.Update time) x choice s may answers = other_does m (input.Update time) x choice s refl may
  input_does m (input.SendDatagram time body) x choice s may answers = post_does (datagrams.Sent (datagram_limit (began s time).state) true body) (input.SendDatagram time body) x choice s refl
  input_does m (input.RecvDatagram time) x choice s may answers = post_does datagrams.Taken (input.RecvDatagram time) x choice s refl
  input_does m (input.Identifiers time given) x choice s may answers = issue_does time given (input.Identifiers time given) x choice s refl
  input_does m i x choice s may answers =
      let a : At t = began s (time_of i) in
      let xs : List Step = calls_of i choice.read s.lower.streams in
      subst (λ (ds : List Did). Over ds ((i, x) ∷ []) [] s (called_all xs a).state) (sym (called_did xs a))
      (record { steps = xs; asked = []; leads = called_streams xs a; same = λ done. refl; are = calls_are i x choice.read s.lower.streams (calls_may i choice.read s.lower.streams may) answers })

  -- ---- steps and runs

  pub step_over : (m : Meaning t) (k : ℕ) (s : View t) (i : Input) (x : TraceStep) (s' : View t) → IsStep m k s i x s' → Over x.did ((i, x) ∷ []) (streams_told x.events) s s'
  unfolding called run.step_after reported state_move lower_move events_told streams_stepped datagrams_stepped frames_sealed ids_stepped
  step_over m k s i x s' h =
      let b : At t = input_after m i h.choice (began s (time_of i)) in
      let told : List StreamEvent = events_of b.state.lower.streams in
      let asks : Over [] [] (streams_told x.events) b.state s' = record {
        steps = asked_for (length told);
        asked = told;
        leads = ap (λ (l : Lower t.S). l.streams) h.lower;
        are = asked_are b.state.lower.streams;
        same = λ done. sym (ap streams_told h.events ∙ events_wait b.state done.heard);
      } in
      subst (λ (ds : List Did). Over ds ((i, x) ∷ []) (streams_told x.events) s s') (append-nil b.did ∙ sym h.deeds)
      (over_next b.did [] ((i, x) ∷ []) [] [] (streams_told x.events) s b.state s' (called_done m s i h.choice h.allowed) (input_does m i x h.choice s h.allowed h.answer) asks)

  run_over : (m : Meaning t) (k : ℕ) (s : View t) (is : List Input) (xs : List TraceStep) (s' : View t) → Run m k s is xs s' →
      Over (deeds_of xs) (with_steps is xs) (streams_told (events.events_of xs)) s s'
  unfolding Run after
  run_over m k s [] [] s' r = record { steps = []; asked = []; leads = ap (λ (v : View t). v.lower.streams) r; are = none_are s.lower.streams; same = λ done. refl }
  run_over m k s (i ∷ is) (x ∷ xs) s' r =
      subst (λ (es : List StreamEvent). Over (deeds_of (x ∷ xs)) (with_steps (i ∷ is) (x ∷ xs)) es s s') (sym (events_append x.events (events.events_of xs)))
      (over_next x.did (deeds_of xs) ((i, x) ∷ []) (with_steps is xs) (streams_told x.events) (streams_told (events.events_of xs)) s r.0 s' (λ done. step_done m k s i x r.0 r.1)
      (step_over m k s i x r.0 r.1) (run_over m (k + 1) r.0 is xs s' r.2))
  run_over m k s [] (x ∷ xs) s' r = absurd r
  run_over m k s (i ∷ is) [] s' r = absurd r

  -- over a run the streams are the fold of their steps
  pub run_folds : (m : Meaning t) (k : ℕ) (s : View t) (is : List Input) (xs : List TraceStep) (s' : View t) → Run m k s is xs s' → FoldsStreams is xs s s'
  run_folds m k s is xs s' r =
      let o = run_over m k s is xs s' r in
      record {
        steps = o.steps;
        may = o.are.may;
        leads = o.leads;
        handed = o.are.handed;
        called = o.are.called;
        closed = o.are.closed;
        told = λ done. subst (λ (es : List StreamEvent). AreMade is_asked MakesEvent es o.steps s.lower.streams) (o.same done) o.are.asked;
        sealed = o.are.sealed;
        only = o.are.only;
      }
