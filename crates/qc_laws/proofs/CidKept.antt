-- Over a run, while the connection is open, no NEW_CONNECTION_ID that was given to the ids retired the id in use: one that they refuse is the
-- last one, since this end closes for it.
use Rattle.std.proofs.Common.{◌≡◌, ℕ, ◌+◌, ◌<◌, ◌≤◌, List, [], ◌∷◌, ◌++◌, refl, sym, ap, ◌∙◌, subst, Bool, true, false, Option, Some, None, if◌then◌else◌, append_assoc, append-nil, arith}
use Rattle.std.specs.Prelude.{is_none}
use Rattle.std.specs.List.{list_any}
use Rattle.qc_base.specs.declared.side.Side.TheVariants.{Server}
use Rattle.qc_base.specs.declared.side.SpaceId.{SpaceId}
use Rattle.qc_base.specs.declared.transport_error.TransportError.{TransportError}
use Rattle.qc_cids.specs.Cids.{asks_one, new_refusal, next_token, token_by}
use Rattle.qc_cids.specs.Steps.{after}
use Rattle.qc_cids.specs.declared.connection_ids.ConnectionIds.{ConnectionIds}
use Rattle.qc_frame.specs.Frame.{FrameValue}
use Rattle.qc_frame.specs.Payload.{items_of}
use Rattle.qc_frame.specs.declared.frames.FrameOf.TheVariants as frames
use Rattle.qc_frame.specs.declared.frames.NewConnectionId.{NewConnectionId}
use Rattle.qc_ids.specs.CidQueue.{active_seq_of}
use Rattle.qc_ids.specs.LocalCids.{may_retire}
use Rattle.qc_ids.specs.declared.cid_queue.KeptCid.{KeptCid}
use Rattle.qc_rings.specs.declared.which.Which.{Which}
use Rattle.qc_state.specs.declared.coming.Coming.{Coming}
use Rattle.qc_state.specs.declared.deeds.Did.{Did}
use Rattle.qc_state.specs.declared.deeds.Did.TheVariants as did
use Rattle.qc_state.specs.declared.deeds.Layer.TheVariants as layer
use Rattle.qc_state.specs.declared.deeds.Verdict.{Verdict}
use Rattle.qc_state.specs.declared.deeds.Verdict.TheVariants as verdict
use Rattle.qc_state.specs.declared.form.Form.{Form}
use Rattle.qc_state.specs.declared.input.Input.{Input}
use Rattle.qc_state.specs.declared.input.Input.TheVariants as input
use Rattle.qc_state.specs.declared.life.Close.{Close}
use Rattle.qc_state.specs.declared.life.ConnectionError.{ConnectionError}
use Rattle.qc_state.specs.declared.life.ConnectionError.TheVariants as lost
use Rattle.qc_state.specs.declared.life.Life.{Life}
use Rattle.qc_state.specs.declared.lower.Lower.{Lower}
use Rattle.qc_state.specs.declared.trace.Step.{Step as TraceStep}
use Rattle.qc_state.specs.Datagrams.{tells_datagram}
use Rattle.qc_state.specs.Flight.{flown_packet}
use Rattle.qc_state.specs.Forms.{is_early, number_space}
use Rattle.qc_state.specs.Headline.{deeds_of}
use Rattle.qc_state.specs.Ids.{active_limit, first_error, insert_stop, sealed_cids}
use Rattle.qc_state.specs.Keys.{epoch_in}
use Rattle.qc_state.specs.Life.{all_heard_reported, connected_reported, data_ready, drained_reported, identifiers_wanted, is_open, life_closed, life_drained, life_established, life_raised, lost_reported, notices_reported, rank_of, ready_reported, reason_given, token_learned}
use Rattle.qc_state.specs.Lower.{datagrams_stepped, events_told, frames_sealed as frames_taken, ids_stepped, streams_stepped}
use Rattle.qc_state.specs.Moves.{Accept, Ask, Call, Enter, Establish, Finish, Fire, Fix, Give, Hand, Insert, Issue, MayMove, Move, Owe, PeerCloses, PeerClosesToo, Post, Raise, ReportAllHeard, ReportConnected, ReportDrained, ReportHeard, ReportLost, ReportNotice, ReportNotices, ReportReady, Retire, Seal, Shut, Spend, Switch, Take, Tell, deeds_move, keys_move, life_move, lower_move, move_to, state_move, Unseal, Update}
use Rattle.qc_state.specs.Numbers.{next_number}
use Rattle.qc_state.specs.Paths.{is_blocked}
use Rattle.qc_state.specs.Progress.{progress_after}
use Rattle.qc_state.specs.Receiving.{accepted_after, admitted_after, datagram_after, fixed_after, fixes_peer, is_close_item, is_eliciting_item, payload_after, read_for_close, received_after, signs_of, verdict_after}
use Rattle.qc_state.specs.Recovering.{fired_by}
use Rattle.qc_state.specs.Run.{IsAllowed, IsStep, Run, began, called, datagram_limit, input_after, reported, time_of}
use Rattle.qc_state.specs.Run as run
use Rattle.qc_state.specs.Sending.{Choice, packet_size, spent_after, told_sent}
use Rattle.qc_state.specs.Stopping.{given_after, stopped_after}
use Rattle.qc_state.specs.Updating.{fresh_by, session_by, unsealed_after, fresh_now}
use Rattle.qc_state.specs.Types.{Types, Meaning}
use Rattle.qc_state.specs.Verdicts.{verdict_of}
use Rattle.qc_state.specs.View.{View, At}
use Rattle.qc_state.proofs.Tried.{holds_tried}
use Rattle.qc_state.proofs.Updates.{holds_updated}
use Rattle.qc_state.proofs.Ends.{holds_initial, holds_stopped}
use Rattle.qc_state.proofs.Expired.{IsExpiry, holds_expired}
use Rattle.qc_state.proofs.OpenPackets.{packet_received}
use Rattle.qc_state.proofs.PacketMoves.{IsProgress, OpenPacket, progress_in_packet}
use Rattle.qc_state.proofs.Progresses.{holds_progress}
use Rattle.qc_state.proofs.ReceivedMoves.{IsEnding, IsOutside, close_for}
use Rattle.qc_state.proofs.Telling.{told_appends}
use Rattle.qc_state.proofs.Transmitted.{IsSealable, IsSending, transmit_told, untold_sending}
use Rattle.qc_datagrams.specs.Steps as datagrams
use Rattle.qc_laws.specs.CidLaws.{AllRetireBelow, RetiresBelow}
use Rattle.qc_laws.specs.IdLaws.{given_to_ids}
use Rattle.qc_laws.proofs.CidQueues.{Any, Peers, Remain, retires_below, steps_remain}
use Rattle.qc_laws.proofs.CidWalk.{IsEasy, ending_known, payload_walked}
use Rattle.qc_laws.proofs.EndsHold.{low_open}
use Rattle.qc_laws.proofs.IdsFold.{given_append, moved_ids, steps_by}
use Rattle.qc_laws.proofs.IdsHold.{flown_ids}
use Rattle.qc_laws.proofs.KnownMoves.{IsElsewhere, IsKnownAbout, expiry_known, known_about, outside_known, packet_known, sending_known}
use Rattle.qc_laws.proofs.Receives.{datagram_holds}
use Rattle.qc_laws.proofs.StreamCalls.{called_input, handed_told, heard_state, named_state, retired_state}

-- ---- what was given

below_more : (n k : ℕ) (f : FrameValue) → n ≤ k → RetiresBelow n f → RetiresBelow k f
below_more n k (frames.NewConnectionId new) le h = λ order. let below = h order in omega arith
below_more n k _ le h = tt

all_more : (n k : ℕ) (bodies : List (List ℕ)) → n ≤ k → AllRetireBelow n bodies → AllRetireBelow k bodies
all_more n k [] le h = tt
all_more n k (body ∷ more) le h = ((h.0.0, h.0.1, below_more n k h.0.0 le h.0.2), all_more n k more le h.1)

all_append : (n : ℕ) (xs ys : List (List ℕ)) → AllRetireBelow n xs → AllRetireBelow n ys → AllRetireBelow n (xs ++ ys)
all_append n [] ys h g = g
all_append n (x ∷ xs) ys h g = (h.0, all_append n xs ys h.1 g)

-- what is told by itself gives the ids nothing
told_none : (d : Did) → IsElsewhere d → given_to_ids (d ∷ []) ≡ []
told_none (did.Gave layer.Session body) h = refl
told_none (did.Gave layer.Recovery body) h = refl
told_none (did.Gave layer.Life body) h = refl
told_none (did.Gave layer.Store body) h = refl
told_none (did.Gave layer.Streams body) h = absurd h
told_none (did.Gave layer.Ids body) h = absurd h
told_none _ h = refl

-- ids that stop no packet refuse no frame
first_none : (a b : Option TransportError) → first_error a b ≡ None → a ≡ None
first_none None b h = refl
first_none (Some e) b h = cc

unrefused : (new : NewConnectionId) (s : ConnectionIds) → insert_stop new s ≡ None → new_refusal new s.remote ≡ None
unfolding insert_stop
unrefused new s h = first_none (new_refusal new s.remote) _ h

-- ---- the life

given_state : (v : Life) (why : ConnectionError) (b : Bool) → (if b then record v { reason = Some why; lost = Some why } else v).state ≡ v.state
given_state v why true = refl
given_state v why false = refl

-- the move with which the handshake ends is made while it goes on
abbrev RisesFrom : {t : Types} → Move t → View t → Type 0
RisesFrom Establish s = rank_of s.life.state < 1
RisesFrom _ s = Unit {0}

may_rise : {t : Types} (x : Move t) (s : View t) → MayMove x s → RisesFrom x s
unfolding MayMove
may_rise Establish s may = may
may_rise _ s may = tt

-- the ids are handed no NEW_CONNECTION_ID
abbrev HandsNone : {t : Types} → Move t → Type 0
HandsNone (Insert new) = ⊥
HandsNone _ = Unit {0}

outside_none : {t : Types} (time : ℕ) (x : Move t) (s : View t) → IsOutside time x s → HandsNone x
outside_none time (Insert new) s h = absurd h
outside_none time _ s h = tt

ending_none : {t : Types} (x : Move t) → IsEnding x → HandsNone x
ending_none (Insert new) h = absurd h
ending_none _ h = tt

expiry_none : {t : Types} (x : Move t) → IsExpiry x → HandsNone x
expiry_none (Insert new) h = absurd h
expiry_none _ h = tt

sending_none : {t : Types} (x : Move t) → IsSending x → HandsNone x
sending_none (Insert new) h = absurd h
sending_none _ h = tt

progress_none : {t : Types} (m : Meaning t) (time : ℕ) (id : SpaceId) (x : Move t) (s : View t) → IsProgress m time id x s → HandsNone x
progress_none m time id (Insert new) s h = absurd h
progress_none m time id _ s h = tt

module _ {t : Types} (m : Meaning t) where
  move_open : (x : Move t) (s : View t) → IsKnownAbout m x s → RisesFrom x s → is_open (life_move x s).state ≡ true → is_open s.life.state ≡ true
  unfolding life_move life_closed life_drained data_ready life_established token_learned identifiers_wanted life_raised reason_given
  move_open (Shut time close) s k rises h = cc
  move_open (PeerCloses time) s k rises h = cc
  move_open PeerClosesToo s k rises h = cc
  move_open Establish s k rises h = low_open s.life.state rises
  move_open (Raise to) s k rises h = let end : is_open to ≡ false = ap is_open k in cc
  move_open (Give why) s k rises h = ap is_open (sym (given_state s.life why (is_none s.life.reason))) ∙ h
  move_open (Hand frame) s k rises h = ap is_open (sym (heard_state (tells_datagram frame s.lower.datagrams) s.life)) ∙ h
  move_open (Insert new) s k rises h = ap is_open (sym (named_state (token_by new s.lower.ids.remote) s.life s.paths.current.remote)) ∙ h
  move_open Switch s k rises h = ap is_open (sym (named_state (next_token s.lower.ids.remote) s.life s.paths.current.remote)) ∙ h
  move_open (Retire time n) s k rises h = ap is_open (sym (retired_state (may_retire n s.lower.ids.local) s.life time n (asks_one (active_limit s.setup.peer) n s.lower.ids))) ∙ h
  move_open ReportReady s k rises h = absurd k
  move_open ReportConnected s k rises h = absurd k
  move_open ReportHeard s k rises h = absurd k
  move_open ReportAllHeard s k rises h = absurd k
  move_open ReportLost s k rises h = absurd k
  move_open ReportNotice s k rises h = absurd k
  move_open ReportNotices s k rises h = absurd k
  move_open ReportDrained s k rises h = absurd k
  move_open _ s k rises h = h

  -- ---- from one moment to another

  abbrev in_use : At t → ℕ
  in_use a = active_seq_of a.state.lower.ids.remote

  -- deeds were done, a connection that is open was open, and the number in use isn't less
  record Runs (a b : At t) : Type 0 where
    since : List Did
    appended : b.did ≡ a.did ++ since
    opens : is_open b.state.life.state ≡ true → is_open a.state.life.state ≡ true
    remains : Peers Any a.state.lower.ids.remote → Remain a.state.lower.ids.remote b.state.lower.ids.remote

  -- and where it is open, what was given has retired no number from that one on
  record Keeps (a b : At t) : Type 0 where
    runs : Runs a b
    kept : is_open b.state.life.state ≡ true → Peers Any a.state.lower.ids.remote → AllRetireBelow (in_use b) (given_to_ids runs.since)

  remain_next : (xs ys zs : List KeptCid) → (Peers Any xs → Remain xs ys) → (Peers Any ys → Remain ys zs) → Peers Any xs → Remain xs zs
  remain_next xs ys zs g h peers =
      let one = g peers in
      let two = h one.peers in
      let first_later = one.later in
      let second_later = two.later in
      record { peers = two.peers; later = omega arith }

  runs_here : (a : At t) → Runs a a
  runs_here a = record { since = []; appended = sym (append-nil a.did); opens = λ h. h; remains = λ peers. record { peers = peers; later = omega arith } }

  runs_next : (a b c : At t) → Runs a b → Runs b c → Runs a c
  runs_next a b c g h = record {
    since = g.since ++ h.since;
    appended = h.appended ∙ ap (λ (x : List Did). x ++ h.since) g.appended ∙ append_assoc a.did g.since h.since;
    opens = λ o. g.opens (h.opens o);
    remains = remain_next a.state.lower.ids.remote b.state.lower.ids.remote c.state.lower.ids.remote g.remains h.remains;
  }

  here : (a : At t) → Keeps a a
  unfolding runs_here
  here a = record { runs = runs_here a; kept = λ o peers. tt }

  next : (a b c : At t) → Keeps a b → Keeps b c → Keeps a c
  unfolding runs_next
  next a b c g h = record {
    runs = runs_next a b c g.runs h.runs;
    kept = λ o peers.
        let one = g.runs.remains peers in
        let two = h.runs.remains one.peers in
        subst (λ (bodies : List (List ℕ)). AllRetireBelow (in_use c) bodies) (sym (given_append g.runs.since h.runs.since))
        (all_append (in_use c) (given_to_ids g.runs.since) (given_to_ids h.runs.since) (all_more (in_use b) (in_use c) (given_to_ids g.runs.since) two.later (g.kept (h.runs.opens o) peers)) (h.kept o one.peers));
  }

  runs_move : (x : Move t) (a : At t) → IsKnownAbout m x a.state → RisesFrom x a.state → Runs a (move_to x a)
  unfolding move_to state_move
  runs_move x a k rises = record {
    since = deeds_move x a.state;
    appended = told_appends a.did (deeds_move x a.state);
    opens = move_open x a.state k rises;
    remains = λ peers. subst (λ (y : ConnectionIds). Remain a.state.lower.ids.remote y.remote) (sym (moved_ids m x a.state k)) (steps_remain (steps_by x a.state) a.state.lower.ids peers);
  }

  none_given : (x : Move t) (s : View t) (n : ℕ) → IsKnownAbout m x s → HandsNone x → AllRetireBelow n (given_to_ids (deeds_move x s))
  unfolding deeds_move
  none_given (Take id fs) s n k none = absurd k
  none_given (Seal time form number size fs) s n k none = absurd k
  none_given (Insert new) s n k none = absurd none
  none_given (Retire time number) s n k none = ((frames.RetireConnectionId number, refl, tt), tt)
  none_given (Tell d) s n k none = subst (λ (bodies : List (List ℕ)). AllRetireBelow n bodies) (sym (told_none d k)) tt
  none_given (Hand f) s n k none = handed_told (λ ds. AllRetireBelow n (given_to_ids ds)) f tt (λ body. tt)
  none_given x s n k none = tt

  -- a move that hands them none
  move : (x : Move t) (a : At t) → IsKnownAbout m x a.state → HandsNone x → RisesFrom x a.state → Keeps a (move_to x a)
  unfolding runs_move deeds_move
  move x a k none rises = record { runs = runs_move x a k rises; kept = λ o peers. none_given x a.state (in_use (move_to x a)) k none }

  -- where the connection isn't open any more
  shut : (a b : At t) → Runs a b → is_open b.state.life.state ≡ false → Keeps a b
  shut a b r closed = record { runs = r; kept = λ o peers. absurd cc }

  ending : (x : Move t) → IsEnding x → (a : At t) → MayMove x a.state → Keeps a (move_to x a)
  ending x h a may = move x a (ending_known m x a.state h) (ending_none x h) (may_rise x a.state may)

  runs_ending : (x : Move t) → IsEnding x → (a : At t) → MayMove x a.state → Runs a (move_to x a)
  runs_ending x h a may = runs_move x a (ending_known m x a.state h) (may_rise x a.state may)

  outside : (time : ℕ) (x : Move t) (a : At t) → IsOutside time x a.state → MayMove x a.state → Keeps a (move_to x a)
  outside time x a h may = move x a (known_about m x a.state (outside_known m time x a.state h)) (outside_none time x a.state h) (may_rise x a.state may)

  -- this end closes for an error, and isn't open any more
  stopped : (time : ℕ) (error : TransportError) (a : At t) → Keeps a (stopped_after time error a)
  stopped time error a = holds_stopped Keeps here next ending time error a

  given_shut : (c : At t) (why : ConnectionError) (b : Bool) → is_open c.state.life.state ≡ false → is_open (if b then move_to (Give why) c else c).state.life.state ≡ false
  unfolding move_to state_move life_move reason_given
  given_shut c why true h = ap is_open (given_state c.state.life why (is_none c.state.life.reason)) ∙ h
  given_shut c why false h = h

  shut_by : (time : ℕ) (error : TransportError) (a : At t) (b : Bool) → is_open a.state.life.state ≡ b →
      let c : At t = move_to (Shut time (close_for error)) a in
      is_open (if b then (if is_none c.state.life.reason then move_to (Give (lost.TransportError error)) c else c) else a).state.life.state ≡ false
  unfolding move_to state_move life_move life_closed
  shut_by time error a true h = let c : At t = move_to (Shut time (close_for error)) a in given_shut c (lost.TransportError error) (is_none c.state.life.reason) refl
  shut_by time error a false h = h

  stopped_shut : (time : ℕ) (error : TransportError) (a : At t) → is_open (stopped_after time error a).state.life.state ≡ false
  unfolding stopped_after given_after
  stopped_shut time error a = shut_by time error a (is_open a.state.life.state) refl

  -- the ids take a NEW_CONNECTION_ID, or this end closes
  taken : (new : NewConnectionId) (a : At t) → insert_stop new a.state.lower.ids ≡ None → Keeps a (move_to (Insert new) a)
  unfolding move_to state_move lower_move ids_stepped after deeds_move runs_move
  taken new a none = record {
    runs = runs_move (Insert new) a tt tt;
    kept = λ o peers. ((frames.NewConnectionId new, refl, retires_below Any (λ c. Unit {0}) new a.state.lower.ids (unrefused new a.state.lower.ids none)), tt);
  }

  -- or refuse it, and this end closes
  refuse : (time : ℕ) (new : NewConnectionId) (error : TransportError) (a : At t) → insert_stop new a.state.lower.ids ≡ Some error → Keeps a (stopped_after time error (move_to (Insert new) a))
  refuse time new error a is =
      let b : At t = move_to (Insert new) a in
      shut a (stopped_after time error b) (runs_next a b _ (runs_move (Insert new) a tt tt) (holds_stopped Runs runs_here runs_next runs_ending time error b)) (stopped_shut time error b)

  -- behind the frames the handshake goes on
  progress : (coming : Coming) (id : SpaceId) (a : At t) → Keeps a (progress_after m coming.time id a)
  progress coming id a =
      let o : OpenPacket = record { coming = coming; space = id; spin = false; which = None; source = []; token = []; number = 0; payload = [] } in
      holds_progress m coming.time id Keeps here next (λ x b h may. move x b (known_about m x b.state (packet_known m o x b.state (progress_in_packet m o x b.state h))) (progress_none m coming.time id x b.state h) (may_rise x b.state may)) a

  easy_none : (x : Move t) → IsEasy x → HandsNone x
  easy_none (Insert new) h = absurd h
  easy_none _ h = tt

  easy_rises : (x : Move t) (s : View t) → IsEasy x → RisesFrom x s
  easy_rises Establish s h = absurd h
  easy_rises _ s h = tt

  payload_keeps : (coming : Coming) (id : SpaceId) (payload : List ℕ) (a : At t) → Keeps a (payload_after m coming id payload a)
  payload_keeps coming id payload a = payload_walked m Keeps here next (λ x b k easy. move x b k (easy_none x easy) (easy_rises x b.state easy)) taken refuse progress coming id payload a

  -- ---- packets

  fixed_by : (source : List ℕ) (a : At t) (b : Bool) → Keeps a (if b then move_to (Fix source) a else a)
  fixed_by source a true = move (Fix source) a tt tt tt
  fixed_by source a false = here a

  fixed : (id : SpaceId) (source : List ℕ) (a : At t) → Keeps a (fixed_after id source a)
  unfolding fixed_after
  fixed id source a = fixed_by source a (fixes_peer id a.state)

  accepted : (coming : Coming) (id : SpaceId) (number : ℕ) (eliciting spin : Bool) (v : Verdict) (a : At t) → Keeps a (accepted_after coming id number eliciting spin v a)
  unfolding accepted_after
  accepted coming id number eliciting spin v a =
      let b : At t = move_to (Accept coming.time id number eliciting (signs_of coming spin) v) a in
      next a b _ (move (Accept coming.time id number eliciting (signs_of coming spin) v) a tt tt tt) (holds_initial Keeps here next ending Server (is_blocked b.state.paths) coming.time id b)

  closing_by : (a : At t) (b : Bool) → Keeps a (if b then move_to PeerClosesToo a else move_to Owe a)
  closing_by a true = move PeerClosesToo a tt tt tt
  closing_by a false = move Owe a tt tt tt

  verdict_keeps : (coming : Coming) (id : SpaceId) (spin : Bool) (source : List ℕ) (number : ℕ) (payload : List ℕ) (v : Verdict) (a : At t) → Keeps a (verdict_after m coming id spin source number payload v a)
  unfolding read_for_close admitted_after
  verdict_keeps coming id spin source number payload verdict.Seen a = move (Tell (did.Piece (Some id) (Some number) verdict.Seen)) a tt tt tt
  verdict_keeps coming id spin source number payload verdict.ReadForClose a =
      let b : At t = move_to (Enter id number verdict.ReadForClose) a in
      next a b _ (move (Enter id number verdict.ReadForClose) a tt tt tt) (closing_by b (list_any is_close_item (items_of payload)))
  verdict_keeps coming id spin source number payload verdict.NumberOnly a = move (Enter id number verdict.NumberOnly) a tt tt tt
  verdict_keeps coming id spin source number payload verdict.AckOnly a = accepted coming id number false spin verdict.AckOnly a
  verdict_keeps coming id spin source number payload verdict.Admitted a =
      let b : At t = accepted_after coming id number (list_any is_eliciting_item (items_of payload)) spin verdict.Admitted a in
      let c : At t = fixed_after id source b in
      next a b _ (accepted coming id number (list_any is_eliciting_item (items_of payload)) spin verdict.Admitted a) (next b c _ (fixed id source b) (payload_keeps coming id payload c))
  verdict_keeps coming id spin source number payload _ a = here a

  -- the step of the ring that it makes first
  unsealed_keeps : (time : ℕ) (which : Option Which) (number : ℕ) (a : At t) → Keeps a (unsealed_after m time which number a)
  unsealed_keeps time None number a = here a
  unsealed_keeps time (Some which) number a = move (Unseal time number which (fresh_by m which a.state) (session_by m which a.state.lower.session)) a tt tt tt

  packet_keeps : (o : OpenPacket) (a : At t) → Keeps a (packet_received m o a)
  unfolding received_after
  packet_keeps o a =
      let b : At t = unsealed_after m o.coming.time o.which o.number a in
      next a b _ (unsealed_keeps o.coming.time o.which o.number a) (verdict_keeps o.coming o.space o.spin o.source o.number o.payload (verdict_of b.state o.space o.source o.token o.number) b)

  -- ---- inputs

  -- a packet is taken and sealed
  seal_keeps : (time : ℕ) (form : Form) (fs : List FrameValue) (a : At t) → IsSealable time a.state form fs →
      Keeps a (move_to (Seal time form (next_number a.state.numbers (number_space form)) (packet_size a.state form fs) fs) (move_to (Take (number_space form) fs) a))
  unfolding move_to state_move life_move lower_move deeds_move frames_taken ids_stepped streams_stepped datagrams_stepped keys_move
  seal_keeps time form fs a may =
      let b : At t = move_to (Take (number_space form) fs) a in
      let number : ℕ = next_number a.state.numbers (number_space form) in
      let same = flown_ids b.state.waiting.close_owed b.state.lower (number_space form) number (flown_packet time (packet_size a.state form fs) fs) in
      record {
        runs = record {
          since = did.Sealed (number_space form) number (epoch_in a.state.keys form) (is_early form) fs ∷ [];
          appended = refl;
          opens = λ o. o;
          remains = λ peers. subst (λ (xs : List KeptCid). Remain a.state.lower.ids.remote xs) (sym (ap (λ (y : ConnectionIds). y.remote) same)) (steps_remain (sealed_cids fs) a.state.lower.ids peers);
        };
        kept = λ o peers. tt;
      }

  datagram_keeps : (coming : Coming) (bytes : List ℕ) (a : At t) → Keeps a (datagram_after m coming bytes a)
  datagram_keeps coming bytes a = datagram_holds m coming (λ p. Unit {0}) Keeps here next (outside coming.time) (λ p comes o b opened. packet_keeps o b) bytes a (λ p among. tt)

  closed_by : (time : ℕ) (kept : Close) (a : At t) (b : Bool) → Keeps a (if b then move_to (Shut time kept) a else a)
  closed_by time kept a true = move (Shut time kept) a tt tt tt
  closed_by time kept a false = here a

  input_keeps : (i : Input) (choice : Choice) (a : At t) → IsAllowed m i choice a → Keeps a (input_after m i choice a)
  unfolding IsAllowed input_after run.close_after spent_after told_sent
  input_keeps (input.Datagram time remote ecn bytes) choice a h = datagram_keeps (record { time = time; remote = remote; mark = ecn }) bytes a
  input_keeps (input.Timeout time) choice a h =
      holds_expired m Keeps here next (λ at_time b. move (Fire (fired_by m at_time b.state)) b (record { time = at_time; is = refl }) tt tt)
      (λ x e b may. move x b (known_about m x b.state (expiry_known m x b.state e)) (expiry_none x e) (may_rise x b.state may)) time a
  input_keeps (input.Transmit time max) choice a h =
      transmit_told m Keeps here next (λ x r b may. move x b (known_about m x b.state (sending_known m x b.state r)) (sending_none x (untold_sending x r)) (may_rise x b.state may))
      (λ f b. holds_tried m Keeps here (λ c may. move (Update _ _) c tt tt tt) f b)
      (λ at_time size b. move (Spend _) b (record { time = at_time; size = size; is = refl }) tt tt)
      (λ at_time batch b. move (Finish batch.total _) b (record { time = at_time; bytes = batch.total; last = batch.last; is = refl }) tt tt) seal_keeps time max choice a h
  input_keeps (input.Close time code reason) choice a h = closed_by time _ a (is_open a.state.life.state)
  input_keeps (input.Ping time) choice a h = move (Ask a.state.keys.highest) a tt tt tt
  input_keeps (input.Update time) choice a h = holds_updated m Keeps here (λ b may. move (Update (fresh_now m b.state) (m.after_next b.state.lower.session)) b tt tt tt) a
  input_keeps (input.SendDatagram time body) choice a h = move (Post (datagrams.Sent (datagram_limit a.state) true body)) a tt tt tt
  input_keeps (input.RecvDatagram time) choice a h = move (Post datagrams.Taken) a tt tt tt
  input_keeps (input.Identifiers time ids) choice a h = move (Issue time ids) a tt tt tt
  input_keeps i choice a h = called_input Keeps here next (λ x b may. move (Call x) b tt tt tt) i choice.read a h

  -- ---- steps and runs

  -- over deeds, from one view to another
  record Over (ds : List Did) (s s' : View t) : Type 0 where
    opens : is_open s'.life.state ≡ true → is_open s.life.state ≡ true
    remains : Peers Any s.lower.ids.remote → Remain s.lower.ids.remote s'.lower.ids.remote
    kept : is_open s'.life.state ≡ true → Peers Any s.lower.ids.remote → AllRetireBelow (active_seq_of s'.lower.ids.remote) (given_to_ids ds)

  step_over : (k : ℕ) (s : View t) (i : Input) (x : TraceStep) (s' : View t) → IsStep m k s i x s' → Over x.did s s'
  unfolding called began run.step_after reported state_move life_move lower_move events_told streams_stepped ready_reported connected_reported all_heard_reported lost_reported notices_reported drained_reported
  step_over k s i x s' h =
      let b : At t = input_after m i h.choice (began s (time_of i)) in
      let keeps : Keeps (began s (time_of i)) b = input_keeps i h.choice (began s (time_of i)) h.allowed in
      let remote : s'.lower.ids.remote ≡ b.state.lower.ids.remote = ap (λ (l : Lower t.S). l.ids.remote) h.lower in
      let life : s'.life.state ≡ b.state.life.state = ap (λ (l : Life). l.state) h.life in
      record {
        opens = λ o. keeps.runs.opens (ap is_open (sym life) ∙ o);
        remains = λ peers. subst (λ (xs : List KeptCid). Remain s.lower.ids.remote xs) (sym remote) (keeps.runs.remains peers);
        kept = λ o peers. subst (λ (ds : List Did). AllRetireBelow (active_seq_of s'.lower.ids.remote) (given_to_ids ds)) (sym (h.deeds ∙ keeps.runs.appended))
            (subst (λ (xs : List KeptCid). AllRetireBelow (active_seq_of xs) (given_to_ids keeps.runs.since)) (sym remote) (keeps.kept (ap is_open (sym life) ∙ o) peers));
      }

  run_over : (k : ℕ) (s : View t) (is : List Input) (xs : List TraceStep) (s' : View t) → Run m k s is xs s' → Over (deeds_of xs) s s'
  unfolding Run
  run_over k s [] [] s' r = subst (λ (v : View t). Over [] s v) (sym r) (record { opens = λ o. o; remains = λ peers. record { peers = peers; later = omega arith }; kept = λ o peers. tt })
  run_over k s (i ∷ is) (x ∷ xs) s' r =
      let one : Over x.did s r.0 = step_over k s i x r.0 r.1 in
      let more : Over (deeds_of xs) r.0 s' = run_over (k + 1) r.0 is xs s' r.2 in
      let n : ℕ = active_seq_of r.0.lower.ids.remote in
      let last : ℕ = active_seq_of s'.lower.ids.remote in
      record {
        opens = λ o. one.opens (more.opens o);
        remains = remain_next s.lower.ids.remote r.0.lower.ids.remote s'.lower.ids.remote one.remains more.remains;
        kept = λ o peers.
            let first = one.remains peers in
            subst (λ (bodies : List (List ℕ)). AllRetireBelow last bodies) (sym (given_append x.did (deeds_of xs)))
            (all_append last (given_to_ids x.did) (given_to_ids (deeds_of xs)) (all_more n last (given_to_ids x.did) (more.remains first.peers).later (one.kept (more.opens o) peers)) (more.kept o first.peers));
      }
  run_over k s [] (x ∷ xs) s' r = absurd r
  run_over k s (i ∷ is) [] s' r = absurd r

  pub run_keeps : (k : ℕ) (s : View t) (is : List Input) (xs : List TraceStep) (s' : View t) → Run m k s is xs s' → Peers Any s.lower.ids.remote → is_open s'.life.state ≡ true →
      AllRetireBelow (active_seq_of s'.lower.ids.remote) (given_to_ids (deeds_of xs))
  run_keeps k s is xs s' r peers o = (run_over k s is xs s' r).kept o peers
