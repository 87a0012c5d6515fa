-- The datagrams of the application over a run are the fold of their steps.
use Rattle.std.proofs.Common.{◌≡◌, ℕ, ◌+◌, List, [], ◌∷◌, ◌++◌, refl, ap, sym, ◌∙◌, subst, Bool, true, false, Some, None, if◌then◌else◌, append_assoc, append-nil}
use Rattle.std.proofs.lemmas.List.Folds.{list_all-append, list_any-append}
use Rattle.std.specs.Prelude.{◌||◌, ◌&&◌, map, is_none, nat_lt, option_to_list, Option}
use Rattle.std.specs.Option.{option_map}
use Rattle.std.specs.declared.net.SocketAddr.{SocketAddr}
use Rattle.qc_base.specs.declared.side.SpaceId.{SpaceId}
use Rattle.qc_datagrams.specs.declared.datagrams.Datagrams.{Datagrams}
use Rattle.qc_datagrams.specs.Steps.{Step, Came, Sealed, Sent, Taken, after, after_step}
use Rattle.qc_flight.specs.declared.sent.SentPacket.{SentPacket}
use Rattle.qc_frame.specs.Frame.{FrameValue}
use Rattle.qc_frame.specs.declared.frames.FrameOf.TheVariants as frames
use Rattle.qc_params.specs.declared.params.TransportParameters.{TransportParameters}
use Rattle.qc_streams.specs.declared.events.StreamEvent.{StreamEvent}
use Rattle.qc_state.specs.declared.deeds.Did.{Did}
use Rattle.qc_state.specs.declared.deeds.Did.TheVariants as did
use Rattle.qc_state.specs.declared.deeds.Layer.TheVariants as layer
use Rattle.qc_state.specs.declared.events.Event.{Event}
use Rattle.qc_state.specs.declared.events.Event.TheVariants.{HandshakeDataReady, Connected, Stream, ConnectionLost, DatagramReceived, DatagramsUnblocked}
use Rattle.qc_state.specs.declared.form.Form.{Form}
use Rattle.qc_state.specs.declared.input.Input.{Input}
use Rattle.qc_state.specs.declared.input.Input.TheVariants as input
use Rattle.qc_state.specs.declared.life.ConnectionError.{ConnectionError}
use Rattle.qc_state.specs.declared.life.Life.{Life}
use Rattle.qc_state.specs.declared.life.Close.{Close}
use Rattle.qc_state.specs.declared.lower.Lower.{Lower}
use Rattle.qc_state.specs.declared.paths.Path.{Path}
use Rattle.qc_state.specs.declared.trace.Step.{Step as TraceStep}
use Rattle.qc_state.specs.Datagrams.{AllOldest, datagram_steps, drops_to, limit_on, sealed_datagram, sealed_datagrams, shrunk_by, tells_datagram, told_by, told_by_all}
use Rattle.qc_state.specs.Flight.{flown_packet}
use Rattle.qc_state.specs.Forms.{number_space}
use Rattle.qc_state.specs.Life.{is_open, connected_event, data_ready, datagram_heard, event_if, identifiers_wanted, life_closed, life_drained, life_established, life_raised, lost_event, ready_event, reason_given, token_learned, ready_reported, connected_reported, all_heard_reported, lost_reported, notices_reported, drained_reported, retirement_told, token_told}
use Rattle.qc_state.specs.Lower.{bytes_came, datagrams_stepped, events_told, flight_dropped, frame_handed, limits_learned, packet_flown, packets_settled, session_read, session_wrote, streams_closed, streams_stepped, timer_fired, frames_sealed, ids_stepped}
use Rattle.qc_state.specs.Moves.{Ack, Ask, Begin, Call, Finish, Fire, Give, Hand, IsTold, MayMove, Move, Post, Shut, Spend, ReportReady, ReportConnected, ReportHeard, ReportAllHeard, ReportLost, ReportNotice, ReportNotices, ReportDrained, ReportStream, ReportStreams, Seal, Take, Tell, deeds_move, life_move, lower_move, move_to, shrunk_steps, state_move, told_to_streams, Insert, Switch, Retire, Update}
use Rattle.qc_state.specs.Numbers.{next_number}
use Rattle.qc_state.specs.Polls.{waiting_events}
use Rattle.qc_state.specs.Run.{IsAllowed, IsStep, Run, answer_of, began, called, called_all, close_after, datagram_limit, input_after, reported, time_of}
use Rattle.qc_state.specs.Run as run
use Rattle.qc_state.specs.Sending.{Choice, packet_size, spent_after, told_sent}
use Rattle.qc_state.specs.Streams.{events_of}
use Rattle.qc_streams.specs.Waits as streams
use Rattle.qc_state.specs.Types.{Types, Meaning}
use Rattle.qc_state.specs.View.{View, At}
use Rattle.qc_state.proofs.DatagramSteps.{posts_append}
use Rattle.qc_state.proofs.Probed.{begun_streams}
use Rattle.qc_state.proofs.RoomTold.{told_append}
use Rattle.qc_state.proofs.Telling.{open_rank, told_appends}
use Rattle.qc_state.specs.Updating.{fresh_now}
use Rattle.qc_state.proofs.Tried.{holds_tried}
use Rattle.qc_state.proofs.Updates.{holds_updated}
use Rattle.qc_state.proofs.Transmitted.{IsSealable, IsUntold, transmit_told}
use Rattle.qc_laws.specs.PostLaws.{AreOfDeeds, ArePosts, AreShrunk, FoldsPosts, MakesPosts, NoneShrunk, heard_in, is_shrunk}
use Rattle.qc_laws.specs.StreamsLaws.{with_steps}
use Rattle.qc_laws.proofs.KnownMoves.{IsElsewhere, IsKnownMove, IsUncalled, is_called, known_other, sending_known, sending_uncalled}
use Rattle.qc_laws.proofs.StreamCalls.{called_input}
use Rattle.qc_cids.specs.Cids.{asks_one, next_token, token_by}
use Rattle.qc_ids.specs.LocalCids.{may_retire}
use Rattle.qc_state.specs.Ids.{active_limit}

-- ---- steps and events, one list behind another

-- those that drop what no longer fits
shrunk_append : (xs ys : List Step) → AreShrunk xs → AreShrunk ys → AreShrunk (xs ++ ys)
shrunk_append xs ys h k = list_all-append is_shrunk xs ys ∙ (λ i. h i && k i)

none_append : (xs ys : List Step) → NoneShrunk xs → NoneShrunk ys → NoneShrunk (xs ++ ys)
none_append xs ys h k = list_any-append is_shrunk xs ys ∙ (λ i. h i || k i)

-- in front of what deeds make
shrunk_before : (ds : List Did) (xs ys : List Step) (d : Datagrams) → AreShrunk xs → AreOfDeeds ds ys (after xs d) → AreOfDeeds ds (xs ++ ys) d
shrunk_before [] xs ys d h g = shrunk_append xs ys h g
shrunk_before (did.Gave layer.Streams body ∷ ds) xs ys d h g =
    let front : List Step = datagram_steps g.1 in (
      xs ++ g.0,
      g.1,
      g.2,
      shrunk_append xs g.0 h g.3,
      g.4,
      ap (λ (zs : List Step). xs ++ zs) g.5 ∙ sym (append_assoc xs g.0 (front ++ g.2)),
      subst (λ (x : Datagrams). AreOfDeeds ds g.2 (after front x)) (sym (posts_append xs g.0 d)) g.6,
    )
shrunk_before (did.Gave layer.Session body ∷ ds) xs ys d h g = shrunk_before ds xs ys d h g
shrunk_before (did.Gave layer.Recovery body ∷ ds) xs ys d h g = shrunk_before ds xs ys d h g
shrunk_before (did.Gave layer.Life body ∷ ds) xs ys d h g = shrunk_before ds xs ys d h g
shrunk_before (did.Gave layer.Store body ∷ ds) xs ys d h g = shrunk_before ds xs ys d h g
shrunk_before (did.Gave layer.Ids body ∷ ds) xs ys d h g = shrunk_before ds xs ys d h g
shrunk_before (did.Sealed space n epoch early fs ∷ ds) xs ys d h g =
    let front : List Step = sealed_datagrams fs in
    let same : after g.0 (after xs d) ≡ after (xs ++ g.0) d = sym (posts_append xs g.0 d) in (
      xs ++ g.0,
      g.1,
      shrunk_append xs g.0 h g.2,
      ap (λ (zs : List Step). xs ++ zs) g.3 ∙ sym (append_assoc xs g.0 (front ++ g.1)),
      subst (λ (x : Datagrams). AllOldest fs x) same g.4,
      subst (λ (x : Datagrams). AreOfDeeds ds g.1 (after front x)) same g.5,
    )
shrunk_before (did.Piece space number v ∷ ds) xs ys d h g = shrunk_before ds xs ys d h g
shrunk_before (did.Rose life ∷ ds) xs ys d h g = shrunk_before ds xs ys d h g
shrunk_before (did.Lost why ∷ ds) xs ys d h g = shrunk_before ds xs ys d h g
shrunk_before (did.Quiet why ∷ ds) xs ys d h g = shrunk_before ds xs ys d h g

-- what steps leave one list behind another
pub three_leave : (made shrunk front rest : List Step) (d : Datagrams) → made ≡ shrunk ++ (front ++ rest) → after made d ≡ after rest (after front (after shrunk d))
three_leave made shrunk front rest d is = ap (λ (zs : List Step). after zs d) is ∙ posts_append shrunk (front ++ rest) d ∙ posts_append front rest (after shrunk d)

three_append : (made shrunk front rest ys : List Step) → made ≡ shrunk ++ (front ++ rest) → made ++ ys ≡ shrunk ++ (front ++ (rest ++ ys))
three_append made shrunk front rest ys is =
    ap (λ (zs : List Step). zs ++ ys) is ∙ append_assoc shrunk (front ++ rest) ys ∙ ap (λ (zs : List Step). shrunk ++ zs) (append_assoc front rest ys)

deeds_append : (ds es : List Did) (xs ys : List Step) (d : Datagrams) → AreOfDeeds ds xs d → AreOfDeeds es ys (after xs d) → AreOfDeeds (ds ++ es) (xs ++ ys) d
deeds_append [] es xs ys d h g = shrunk_before es xs ys d h g
deeds_append (did.Gave layer.Streams body ∷ ds) es xs ys d h g =
    let front : List Step = datagram_steps h.1 in
    let behind : AreOfDeeds es ys (after h.2 (after front (after h.0 d))) = subst (λ (x : Datagrams). AreOfDeeds es ys x) (three_leave xs h.0 front h.2 d h.5) g in
    (h.0, h.1, h.2 ++ ys, h.3, h.4, three_append xs h.0 front h.2 ys h.5, deeds_append ds es h.2 ys (after front (after h.0 d)) h.6 behind)
deeds_append (did.Gave layer.Session body ∷ ds) es xs ys d h g = deeds_append ds es xs ys d h g
deeds_append (did.Gave layer.Recovery body ∷ ds) es xs ys d h g = deeds_append ds es xs ys d h g
deeds_append (did.Gave layer.Life body ∷ ds) es xs ys d h g = deeds_append ds es xs ys d h g
deeds_append (did.Gave layer.Store body ∷ ds) es xs ys d h g = deeds_append ds es xs ys d h g
deeds_append (did.Gave layer.Ids body ∷ ds) es xs ys d h g = deeds_append ds es xs ys d h g
deeds_append (did.Sealed space n epoch early fs ∷ ds) es xs ys d h g =
    let front : List Step = sealed_datagrams fs in
    let behind : AreOfDeeds es ys (after h.1 (after front (after h.0 d))) = subst (λ (x : Datagrams). AreOfDeeds es ys x) (three_leave xs h.0 front h.1 d h.3) g in
    (h.0, h.1 ++ ys, h.2, three_append xs h.0 front h.1 ys h.3, h.4, deeds_append ds es h.1 ys (after front (after h.0 d)) h.5 behind)
deeds_append (did.Piece space number v ∷ ds) es xs ys d h g = deeds_append ds es xs ys d h g
deeds_append (did.Rose life ∷ ds) es xs ys d h g = deeds_append ds es xs ys d h g
deeds_append (did.Lost why ∷ ds) es xs ys d h g = deeds_append ds es xs ys d h g
deeds_append (did.Quiet why ∷ ds) es xs ys d h g = deeds_append ds es xs ys d h g

heard_append : (es fs : List Event) → heard_in (es ++ fs) ≡ heard_in es ++ heard_in fs
heard_append [] fs = refl
heard_append (HandshakeDataReady ∷ es) fs = heard_append es fs
heard_append (Connected ∷ es) fs = heard_append es fs
heard_append (DatagramReceived ∷ es) fs = ap (λ (xs : List Event). DatagramReceived ∷ xs) (heard_append es fs)
heard_append (DatagramsUnblocked ∷ es) fs = ap (λ (xs : List Event). DatagramsUnblocked ∷ xs) (heard_append es fs)
heard_append (Stream event ∷ es) fs = heard_append es fs
heard_append (ConnectionLost why ∷ es) fs = heard_append es fs

-- what steps tell is of datagrams
step_heard : (x : Step) (d : Datagrams) → heard_in (told_by x d) ≡ told_by x d
step_heard (Came body) d = by (tells_datagram (frames.Datagram body) d)
  where
    by : (b : Bool) → heard_in (if b then DatagramReceived ∷ [] else []) ≡ (if b then DatagramReceived ∷ [] else [])
    by true = refl
    by false = refl
step_heard Sealed d = by d.blocked
  where
    by : (b : Bool) → heard_in (if b then DatagramsUnblocked ∷ [] else []) ≡ (if b then DatagramsUnblocked ∷ [] else [])
    by true = refl
    by false = refl
step_heard _ d = refl

steps_heard : (xs : List Step) (d : Datagrams) → heard_in (told_by_all xs d) ≡ told_by_all xs d
unfolding told_by_all
steps_heard [] d = refl
steps_heard (x ∷ xs) d =
    heard_append (told_by x d) (told_by_all xs (after_step x d)) ∙ ap (λ (es : List Event). es ++ heard_in (told_by_all xs (after_step x d))) (step_heard x d)
    ∙ ap (λ (es : List Event). told_by x d ++ es) (steps_heard xs (after_step x d))

-- of the events that wait, those that tell of datagrams
none_heard : (es : List StreamEvent) (o : Option ConnectionError) → heard_in (map Stream es ++ option_to_list (option_map ConnectionLost o)) ≡ []
none_heard [] None = refl
none_heard [] (Some why) = refl
none_heard (e ∷ es) o = none_heard es o

behind_heard : (hs : List Event) (es : List StreamEvent) (o : Option ConnectionError) → heard_in (hs ++ (map Stream es ++ option_to_list (option_map ConnectionLost o))) ≡ heard_in hs
behind_heard hs es o =
    heard_append hs (map Stream es ++ option_to_list (option_map ConnectionLost o)) ∙ ap (λ (xs : List Event). heard_in hs ++ xs) (none_heard es o) ∙ append-nil (heard_in hs)

waiting_heard : (r c : Bool) (hs : List Event) (es : List StreamEvent) (o : Option ConnectionError) →
    heard_in (option_to_list (event_if r HandshakeDataReady) ++ (option_to_list (event_if c Connected) ++ (hs ++ (map Stream es ++ option_to_list (option_map ConnectionLost o))))) ≡ heard_in hs
waiting_heard true true hs es o = behind_heard hs es o
waiting_heard true false hs es o = behind_heard hs es o
waiting_heard false true hs es o = behind_heard hs es o
waiting_heard false false hs es o = behind_heard hs es o

-- ---- frames

-- that one came waits to be told, if it is to be
heard_told : (tells : Bool) (v : Life) → heard_in (datagram_heard tells v).heard ≡ heard_in v.heard ++ (if tells then DatagramReceived ∷ [] else [])
unfolding datagram_heard
heard_told true v = heard_append v.heard (DatagramReceived ∷ [])
heard_told false v = sym (append-nil (heard_in v.heard))

-- a reason leaves what waits of datagrams
given_heard : (v : Life) (why : ConnectionError) (b : Bool) → (if b then record v { reason = Some why; lost = Some why } else v).heard ≡ v.heard
given_heard v why true = refl
given_heard v why false = refl

-- so does what is told to the endpoint of ids
named_heard : (o : Option (List ℕ)) (v : Life) (remote : SocketAddr) → (token_told v remote o).heard ≡ v.heard
unfolding token_learned
named_heard None v remote = refl
named_heard (Some token) v remote = refl

retired_heard : (b : Bool) (v : Life) (time n : ℕ) (more : Bool) → (if b then retirement_told v time n more else v).heard ≡ v.heard
unfolding retirement_told
retired_heard true v time n more = refl
retired_heard false v time n more = refl

-- a packet that is sealed leaves them
flown_datagrams : {S : Type 0} → (owed : Bool) (l : Lower S) (id : SpaceId) (n : ℕ) (packet : SentPacket) → (if owed then l else packet_flown l id n packet).datagrams ≡ l.datagrams
unfolding packet_flown
flown_datagrams true l id n packet = refl
flown_datagrams false l id n packet = refl

-- what is told of a frame is what the steps are that it makes
frame_came : (frame : FrameValue) (d : Datagrams) → AreOfDeeds (told_to_streams frame) (datagram_steps frame) d
frame_came (frames.ResetStream id code size) d = ([], frames.ResetStream id code size, [], refl, refl, refl, refl)
frame_came (frames.StopSending id code) d = ([], frames.StopSending id code, [], refl, refl, refl, refl)
frame_came (frames.Stream id offset fin body) d = ([], frames.Stream id offset fin body, [], refl, refl, refl, refl)
frame_came (frames.MaxData limit) d = ([], frames.MaxData limit, [], refl, refl, refl, refl)
frame_came (frames.MaxStreamData id limit) d = ([], frames.MaxStreamData id limit, [], refl, refl, refl, refl)
frame_came (frames.MaxStreams dir count) d = ([], frames.MaxStreams dir count, [], refl, refl, refl, refl)
frame_came (frames.Datagram body) d = ([], frames.Datagram body, [], refl, refl, refl, refl)
frame_came _ d = refl

frame_told : (frame : FrameValue) (d : Datagrams) → told_by_all (datagram_steps frame) d ≡ (if tells_datagram frame d then DatagramReceived ∷ [] else [])
unfolding told_by_all
frame_told (frames.Datagram body) d = append-nil (told_by (Came body) d)
frame_told _ d = refl

-- what is told by itself makes none
told_none : (deed : Did) (d : Datagrams) → IsTold deed → IsElsewhere deed → AreOfDeeds (deed ∷ []) [] d
told_none (did.Piece space number v) d h k = refl
told_none (did.Gave layer.Session body) d h k = refl
told_none (did.Gave layer.Recovery body) d h k = refl
told_none (did.Gave layer.Life body) d h k = refl
told_none (did.Gave layer.Store body) d h k = refl
told_none (did.Gave layer.Ids body) d h k = refl
told_none (did.Gave layer.Streams body) d h k = absurd k
told_none _ d h k = absurd h

-- ---- what no longer fits

-- a path that takes smaller datagrams makes only such steps, of which nothing is told
drops_are : (smaller : Bool) (most : Option ℕ) → AreShrunk (if smaller then drops_to most else [])
drops_are true None = refl
drops_are true (Some most) = refl
drops_are false most = refl

drops_tell : (smaller : Bool) (most : Option ℕ) (d : Datagrams) → told_by_all (if smaller then drops_to most else []) d ≡ []
unfolding told_by_all
drops_tell true None d = refl
drops_tell true (Some most) d = refl
drops_tell false most d = refl

shrunk_are : {C : Type 0} (before : ℕ) (path : Path C) (peer : Option TransportParameters) → AreShrunk (shrunk_by before path peer)
unfolding shrunk_by
shrunk_are before path peer = drops_are (nat_lt path.kept.mtud.current before) (limit_on path peer)

shrunk_tell : {C : Type 0} (before : ℕ) (path : Path C) (peer : Option TransportParameters) (d : Datagrams) → told_by_all (shrunk_by before path peer) d ≡ []
unfolding shrunk_by
shrunk_tell before path peer d = drops_tell (nat_lt path.kept.mtud.current before) (limit_on path peer) d

-- frames that are sealed make none
sealed_one : (f : FrameValue) → NoneShrunk (sealed_datagram f)
sealed_one (frames.Datagram body) = refl
sealed_one _ = refl

sealed_none : (fs : List FrameValue) → NoneShrunk (sealed_datagrams fs)
unfolding sealed_datagrams
sealed_none [] = refl
sealed_none (f ∷ fs) = none_append (sealed_datagram f) (sealed_datagrams fs) (sealed_one f) (sealed_none fs)

module _ {t : Types} where
  heard_wait : (s : View t) → heard_in (waiting_events s) ≡ heard_in s.life.heard
  unfolding waiting_events ready_event connected_event lost_event
  heard_wait s = waiting_heard s.life.ready s.life.connected s.life.heard (events_of s.lower.streams) s.life.lost

  -- ---- from one moment of an input to another, where it is no call of the application's

  -- `shrinks` says whether what no longer fits may be dropped
  record Folds (shrinks : Bool) (a b : At t) : Type 0 where
    pub since : List Did
    pub appended : b.did ≡ a.did ++ since
    pub steps : List Step
    pub leads : b.state.lower.datagrams ≡ after steps a.state.lower.datagrams
    pub are : AreOfDeeds since steps a.state.lower.datagrams
    pub heard : heard_in b.state.life.heard ≡ heard_in a.state.life.heard ++ told_by_all steps a.state.lower.datagrams
    pub none : shrinks ≡ false → NoneShrunk steps

  folds_here : (shrinks : Bool) (a : At t) → Folds shrinks a a
  unfolding after told_by_all
  folds_here shrinks a = record {
    since = [];
    appended = sym (append-nil a.did);
    steps = [];
    leads = refl;
    are = refl;
    heard = sym (append-nil (heard_in a.state.life.heard));
    none = λ e. refl;
  }

  folds_next : (shrinks : Bool) (a b c : At t) → Folds shrinks a b → Folds shrinks b c → Folds shrinks a c
  folds_next shrinks a b c g h =
      let d : Datagrams = a.state.lower.datagrams in
      let first : List Event = told_by_all g.steps d in
      record {
        since = g.since ++ h.since;
        appended = h.appended ∙ ap (λ (x : List Did). x ++ h.since) g.appended ∙ append_assoc a.did g.since h.since;
        steps = g.steps ++ h.steps;
        leads = h.leads ∙ ap (λ (x : Datagrams). after h.steps x) g.leads ∙ sym (posts_append g.steps h.steps d);
        are = deeds_append g.since h.since g.steps h.steps d g.are (subst (λ (x : Datagrams). AreOfDeeds h.since h.steps x) g.leads h.are);
        heard = h.heard ∙ ap (λ (x : Datagrams). heard_in b.state.life.heard ++ told_by_all h.steps x) g.leads ∙ ap (λ (es : List Event). es ++ told_by_all h.steps (after g.steps d)) g.heard
            ∙ append_assoc (heard_in a.state.life.heard) first (told_by_all h.steps (after g.steps d)) ∙ ap (λ (es : List Event). heard_in a.state.life.heard ++ es) (sym (told_append g.steps h.steps d));
        none = λ e. none_append g.steps h.steps (g.none e) (h.none e);
      }

  -- which of their steps a move is
  abbrev steps_by : Move t → View t → List Step
  steps_by (Hand frame) s = datagram_steps frame
  steps_by (Ack id n r) s = shrunk_steps r.path s
  steps_by (Fire r) s = shrunk_steps r.path s
  steps_by _ s = []

  moved_datagrams : (m : Meaning t) (x : Move t) (s : View t) → IsKnownMove m x s → IsUncalled x → (lower_move x s).datagrams ≡ after (steps_by x s) s.lower.datagrams
  unfolding lower_move flight_dropped packets_settled timer_fired bytes_came session_read session_wrote limits_learned frame_handed streams_closed streams_stepped datagrams_stepped after frames_sealed ids_stepped
  moved_datagrams m (Take id fs) s k u = absurd k
  moved_datagrams m (Seal time form n size fs) s k u = absurd k
  moved_datagrams m (Begin id opens) s k u = ap (λ (l : Lower t.S). l.datagrams) (begun_streams id opens s)
  moved_datagrams m (Hand frame) s k u = refl
  moved_datagrams m (Ack id n r) s k u = refl
  moved_datagrams m (Fire r) s k u = refl
  moved_datagrams m (Post x) s k u = absurd u
  moved_datagrams m (Call x) s k u = absurd u
  moved_datagrams m ReportStream s k u = absurd k
  moved_datagrams m ReportStreams s k u = absurd k
  moved_datagrams m _ s k u = refl

  moved_came : (m : Meaning t) (x : Move t) (s : View t) → IsKnownMove m x s → MayMove x s → AreOfDeeds (deeds_move x s) (steps_by x s) s.lower.datagrams
  unfolding deeds_move MayMove
  moved_came m (Hand frame) s k may = frame_came frame s.lower.datagrams
  moved_came m (Ack id n r) s k may = shrunk_are _ _ s.setup.peer
  moved_came m (Fire r) s k may = shrunk_are _ _ s.setup.peer
  moved_came m (Tell deed) s k may = told_none deed s.lower.datagrams may k
  moved_came m (Seal time form n size fs) s k may = absurd k
  moved_came m _ s k may = refl

  -- nothing is told of what no longer fits
  untold : (before : ℕ) (path : Path t.C) (s : View t) → heard_in s.life.heard ≡ heard_in s.life.heard ++ told_by_all (shrunk_by before path s.setup.peer) s.lower.datagrams
  untold before path s = sym (append-nil (heard_in s.life.heard)) ∙ ap (λ (es : List Event). heard_in s.life.heard ++ es) (sym (shrunk_tell before path s.setup.peer s.lower.datagrams))

  moved_heard : (m : Meaning t) (x : Move t) (s : View t) → IsKnownMove m x s → heard_in (life_move x s).heard ≡ heard_in s.life.heard ++ told_by_all (steps_by x s) s.lower.datagrams
  unfolding told_by_all life_move life_closed life_drained data_ready life_established token_learned identifiers_wanted life_raised reason_given
  moved_heard m (Take id fs) s k = absurd k
  moved_heard m (Hand frame) s k =
      heard_told (tells_datagram frame s.lower.datagrams) s.life ∙ ap (λ (es : List Event). heard_in s.life.heard ++ es) (sym (frame_told frame s.lower.datagrams))
  moved_heard m (Ack id n r) s k = untold _ _ s
  moved_heard m (Fire r) s k = untold _ _ s
  moved_heard m (Give why) s k = ap heard_in (given_heard s.life why (is_none s.life.reason)) ∙ sym (append-nil (heard_in s.life.heard))
  moved_heard m ReportReady s k = absurd k
  moved_heard m ReportConnected s k = absurd k
  moved_heard m ReportHeard s k = absurd k
  moved_heard m (Insert new) s k = ap heard_in (named_heard (token_by new s.lower.ids.remote) s.life s.paths.current.remote) ∙ sym (append-nil (heard_in s.life.heard))
  moved_heard m Switch s k = ap heard_in (named_heard (next_token s.lower.ids.remote) s.life s.paths.current.remote) ∙ sym (append-nil (heard_in s.life.heard))
  moved_heard m (Retire time n) s k =
      ap heard_in (retired_heard (may_retire n s.lower.ids.local) s.life time n (asks_one (active_limit s.setup.peer) n s.lower.ids)) ∙ sym (append-nil (heard_in s.life.heard))
  moved_heard m ReportAllHeard s k = absurd k
  moved_heard m ReportLost s k = absurd k
  moved_heard m ReportNotice s k = absurd k
  moved_heard m ReportNotices s k = absurd k
  moved_heard m ReportDrained s k = absurd k
  moved_heard m _ s k = sym (append-nil (heard_in s.life.heard))

  -- a move of a transmit drops nothing
  moved_none : (x : Move t) (s : View t) → IsUntold x → NoneShrunk (steps_by x s)
  moved_none (Hand frame) s h = absurd h
  moved_none (Ack id n r) s h = absurd h
  moved_none (Fire r) s h = absurd h
  moved_none _ s h = refl

  move_folds : (shrinks : Bool) (m : Meaning t) (x : Move t) (a : At t) → IsKnownMove m x a.state → IsUncalled x → MayMove x a.state → (shrinks ≡ false → NoneShrunk (steps_by x a.state)) → Folds shrinks a (move_to x a)
  unfolding move_to state_move
  move_folds shrinks m x a k u may none = record {
    since = deeds_move x a.state;
    appended = told_appends a.did (deeds_move x a.state);
    steps = steps_by x a.state;
    leads = moved_datagrams m x a.state k u;
    are = moved_came m x a.state k may;
    heard = moved_heard m x a.state k;
    none = none;
  }

  -- a packet is taken and sealed: the steps of its DATAGRAM frames, with the deed that they were sealed
  packet_folds : (shrinks : Bool) (time : ℕ) (form : Form) (fs : List FrameValue) (a : At t) → IsSealable time a.state form fs →
      Folds shrinks a (move_to (Seal time form (next_number a.state.numbers (number_space form)) (packet_size a.state form fs) fs) (move_to (Take (number_space form) fs) a))
  unfolding move_to state_move lower_move streams_stepped datagrams_stepped deeds_move life_move frames_sealed ids_stepped after
  packet_folds shrinks time form fs a may =
      let b : At t = move_to (Take (number_space form) fs) a in
      let n : ℕ = next_number a.state.numbers (number_space form) in
      let size : ℕ = packet_size a.state form fs in
      record {
        since = deeds_move (Seal time form n size fs) b.state;
        appended = told_appends a.did (deeds_move (Seal time form n size fs) b.state);
        steps = sealed_datagrams fs;
        leads = flown_datagrams b.state.waiting.close_owed b.state.lower (number_space form) n (flown_packet time size fs);
        are = ([], [], refl, sym (append-nil (sealed_datagrams fs)), may.oldest, refl);
        heard = heard_append a.state.life.heard (told_by_all (sealed_datagrams fs) a.state.lower.datagrams)
            ∙ ap (λ (es : List Event). heard_in a.state.life.heard ++ es) (steps_heard (sealed_datagrams fs) a.state.lower.datagrams);
        none = λ e. sealed_none fs;
      }

  -- a call of the streams leaves them
  record Leaves (a b : At t) : Type 0 where
    pub did : b.did ≡ a.did
    pub datagrams : b.state.lower.datagrams ≡ a.state.lower.datagrams
    pub heard : b.state.life.heard ≡ a.state.life.heard

  leaves_next : (a b c : At t) → Leaves a b → Leaves b c → Leaves a c
  leaves_next a b c g h = record { did = h.did ∙ g.did; datagrams = h.datagrams ∙ g.datagrams; heard = h.heard ∙ g.heard }

  call_leaves : (x : streams.Step) (a : At t) → MayMove (Call x) a.state → Leaves a (move_to (Call x) a)
  unfolding move_to state_move lower_move deeds_move life_move streams_stepped frames_sealed ids_stepped
  call_leaves x a may = record { did = refl; datagrams = refl; heard = refl }

  -- ---- inputs

  -- what an input does before anything is reported, where these are its deeds
  record Does (i : Input) (x : TraceStep) (s : View t) (b : At t) : Type 0 where
    pub made : List Step
    pub leads : b.state.lower.datagrams ≡ after made s.lower.datagrams
    pub makes : x.did ≡ b.did → MakesPosts i x made s.lower.datagrams
    pub heard : heard_in b.state.life.heard ≡ heard_in s.life.heard ++ told_by_all made s.lower.datagrams

  does_by : (i : Input) (x : TraceStep) (s : View t) (b : At t) (shrinks : Bool) → ((made : List Step) → (shrinks ≡ false → NoneShrunk made) → AreOfDeeds x.did made s.lower.datagrams → MakesPosts i x made s.lower.datagrams) →
      Folds shrinks (began s (time_of i)) b → Does i x s b
  unfolding began state_move lower_move life_move frames_sealed ids_stepped
  does_by i x s b shrinks makes h = record {
    made = h.steps;
    leads = h.leads;
    makes = λ same. makes h.steps h.none (subst (λ (ds : List Did). AreOfDeeds ds h.steps s.lower.datagrams) (sym (same ∙ h.appended)) h.are);
    heard = h.heard;
  }

  -- a datagram comes, or timers do
  other_folds : (m : Meaning t) (i : Input) (choice : Choice) (a : At t) → is_called i ≡ false → IsAllowed m i choice a → Folds true a (input_after m i choice a)
  other_folds m i choice a uncalled may = known_other m (Folds true) (folds_here true) (folds_next true) (λ y c known plain may_be. move_folds true m y c known plain may_be (λ e. cc e)) (packet_folds true) i choice a uncalled may

  -- a transmit, a close, a ping and an update drop nothing
  sent_folds : (m : Meaning t) (time max : ℕ) (choice : Choice) (a : At t) → IsAllowed m (input.Transmit time max) choice a → Folds false a (input_after m (input.Transmit time max) choice a)
  unfolding IsAllowed input_after spent_after told_sent MayMove
  sent_folds m time max choice a may =
      transmit_told m (Folds false) (folds_here false) (folds_next false) (λ x r b may_be. move_folds false m x b (sending_known m x b.state r) (sending_uncalled x r) may_be (λ e. moved_none x b.state r))
      (λ f b. holds_tried m (Folds false) (folds_here false) (λ c may_be. move_folds false m (Update _ _) c tt tt may_be (λ e. refl)) f b)
      (λ at_time size b. move_folds false m (Spend _) b (record { time = at_time; size = size; is = refl }) tt tt (λ e. refl))
      (λ at_time batch b. move_folds false m (Finish batch.total _) b (record { time = at_time; bytes = batch.total; last = batch.last; is = refl }) tt tt (λ e. refl)) (packet_folds false) time max choice a may

  closed_by : (m : Meaning t) (time : ℕ) (close : Close) (a : At t) (b : Bool) → is_open a.state.life.state ≡ b → Folds false a (if b then move_to (Shut time close) a else a)
  unfolding MayMove
  closed_by m time close a true h = move_folds false m (Shut time close) a tt tt (open_rank a.state.life.state h) (λ e. refl)
  closed_by m time close a false h = folds_here false a

  closed_folds : (m : Meaning t) (time code : ℕ) (reason : List ℕ) (choice : Choice) (a : At t) → Folds false a (input_after m (input.Close time code reason) choice a)
  unfolding input_after close_after
  closed_folds m time code reason choice a = closed_by m time _ a (is_open a.state.life.state) refl

  asked_folds : (m : Meaning t) (time : ℕ) (choice : Choice) (a : At t) → Folds false a (input_after m (input.Ping time) choice a)
  unfolding input_after MayMove
  asked_folds m time choice a = move_folds false m (Ask a.state.keys.highest) a tt tt tt (λ e. refl)

  updated_folds : (m : Meaning t) (time : ℕ) (choice : Choice) (a : At t) → Folds false a (input_after m (input.Update time) choice a)
  unfolding input_after
  updated_folds m time choice a = holds_updated m (Folds false) (folds_here false) (λ b may. move_folds false m (Update (fresh_now m b.state) (m.after_next b.state.lower.session)) b tt tt may (λ e. refl)) a

  input_does : (m : Meaning t) (i : Input) (x : TraceStep) (choice : Choice) (s : View t) → IsAllowed m i choice (began s (time_of i)) → x.answer ≡ answer_of m i choice (began s (time_of i)) →
      Does i x s (input_after m i choice (began s (time_of i)))
  unfolding began move_to state_move lower_move life_move deeds_move datagrams_stepped input_after IsAllowed answer_of after told_by_all frames_sealed ids_stepped
  input_does m (input.Datagram time remote ecn bytes) x choice s may answers =
      does_by (input.Datagram time remote ecn bytes) x s _ true (λ made none h. h) (other_folds m (input.Datagram time remote ecn bytes) choice (began s time) refl may)
  input_does m (input.Timeout time) x choice s may answers = does_by (input.Timeout time) x s _ true (λ made none h. h) (other_folds m (input.Timeout time) choice (began s time) refl may)
  input_does m (input.Transmit time max) x choice s may answers = does_by (input.Transmit time max) x s _ false (λ made none h. (none refl, h)) (sent_folds m time max choice (began s time) may)
  input_does m (input.Close time code reason) x choice s may answers = does_by (input.Close time code reason) x s _ false (λ made none h. (none refl, h)) (closed_folds m time code reason choice (began s time))
  input_does m (input.Ping time) x choice s may answers = does_by (input.Ping time) x s _ false (λ made none h. (none refl, h)) (asked_folds m time choice (began s time))
  input_does m (input.Update time) x choice s may answers = does_by (input.Update time) x s _ false (λ made none h. (none refl, h)) (updated_folds m time choice (began s time))
  input_does m (input.SendDatagram time body) x choice s may answers = record {
    made = Sent (datagram_limit (began s time).state) true body ∷ [];
    leads = refl;
    makes = λ same. (datagram_limit (began s time).state, refl, answers, subst (λ (ds : List Did). AreOfDeeds ds [] s.lower.datagrams) (sym same) refl);
    heard = sym (append-nil (heard_in s.life.heard));
  }
  input_does m (input.RecvDatagram time) x choice s may answers = record {
    made = Taken ∷ [];
    leads = refl;
    makes = λ same. (refl, answers, subst (λ (ds : List Did). AreOfDeeds ds [] s.lower.datagrams) (sym same) refl);
    heard = sym (append-nil (heard_in s.life.heard));
  }
  input_does m (input.Identifiers time given) x choice s may answers = record {
    made = [];
    leads = refl;
    makes = λ same. (refl, subst (λ (ds : List Did). AreOfDeeds ds [] s.lower.datagrams) (sym same) refl);
    heard = sym (append-nil (heard_in s.life.heard));
  }
  input_does m i x choice s may answers =
      let h = called_input Leaves (λ a. record { did = refl; datagrams = refl; heard = refl }) leaves_next call_leaves i choice.read (began s (time_of i)) may in
      record {
        made = [];
        leads = h.datagrams;
        makes = λ same. (refl, subst (λ (ds : List Did). AreOfDeeds ds [] s.lower.datagrams) (sym (same ∙ h.did)) refl);
        heard = ap heard_in h.heard ∙ sym (append-nil (heard_in s.life.heard));
      }

  -- ---- steps and runs

  step_posts : (m : Meaning t) (k : ℕ) (s : View t) (i : Input) (x : TraceStep) (s' : View t) → IsStep m k s i x s' →
      (made : List Step) × MakesPosts i x made s.lower.datagrams × (heard_in x.events ≡ heard_in s.life.heard ++ told_by_all made s.lower.datagrams) × (s'.lower.datagrams ≡ after made s.lower.datagrams) × (heard_in s'.life.heard ≡ [])
  unfolding called run.step_after reported state_move lower_move life_move events_told streams_stepped ready_reported connected_reported all_heard_reported lost_reported notices_reported drained_reported frames_sealed ids_stepped
  step_posts m k s i x s' h =
      let b : At t = input_after m i h.choice (began s (time_of i)) in
      let does : Does i x s b = input_does m i x h.choice s h.allowed h.answer in (
        does.made,
        does.makes h.deeds,
        ap heard_in h.events ∙ heard_wait b.state ∙ does.heard,
        ap (λ (l : Lower t.S). l.datagrams) h.lower ∙ does.leads,
        ap (λ (v : Life). heard_in v.heard) h.life,
      )

  pub run_posts : (m : Meaning t) (k : ℕ) (s : View t) (is : List Input) (xs : List TraceStep) (s' : View t) → Run m k s is xs s' → FoldsPosts is xs s s'
  unfolding Run after
  run_posts m k s [] [] s' r = record { steps = []; leads = ap (λ (v : View t). v.lower.datagrams) r; are = refl }
  run_posts m k s (i ∷ is) (x ∷ xs) s' r =
      let d : Datagrams = s.lower.datagrams in
      let one = step_posts m k s i x r.0 r.1 in
      let more : FoldsPosts is xs r.0 s' = run_posts m (k + 1) r.0 is xs s' r.2 in
      record {
        steps = one.0 ++ more.steps;
        leads = more.leads ∙ ap (λ (y : Datagrams). after more.steps y) one.3 ∙ sym (posts_append one.0 more.steps d);
        are = (
          one.0,
          more.steps,
          refl,
          one.1,
          one.2,
          subst (λ (waited : List Event). ArePosts waited (with_steps is xs) more.steps (after one.0 d)) one.4 (subst (λ (y : Datagrams). ArePosts (heard_in r.0.life.heard) (with_steps is xs) more.steps y) one.3 more.are),
        );
      }
  run_posts m k s [] (x ∷ xs) s' r = absurd r
  run_posts m k s (i ∷ is) [] s' r = absurd r
