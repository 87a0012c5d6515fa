-- Over a run just what came to pass is told, and each thing once.
use Rattle.std.proofs.Common.{◌≡◌, ℕ, ◌+◌, ◌<◌, ◌≤◌, List, [], ◌∷◌, ◌++◌, length, take, refl, ap, sym, ◌∙◌, subst, Bool, true, false, Option, Some, None, if◌then◌else◌, append_assoc, append-nil, length-append, arith}
use Rattle.std.proofs.lemmas.Bool.Decides.{nat_tests}
use Rattle.std.specs.Prelude.{◌&&◌, ◌==◌, not, nat_le, is_none, is_some, option_to_list, map}
use Rattle.std.specs.Option.{option_map}
use Rattle.std.specs.declared.net.SocketAddr.{SocketAddr}
use Rattle.qc_state.specs.declared.deeds.Did.{Did}
use Rattle.qc_state.specs.declared.deeds.Did.TheVariants as did
use Rattle.qc_state.specs.declared.events.EndpointEvent.{EndpointEvent}
use Rattle.qc_state.specs.declared.events.EndpointEvent.TheVariants as endpoint
use Rattle.qc_state.specs.declared.events.Event.{Event}
use Rattle.qc_state.specs.declared.events.Event.TheVariants.{HandshakeDataReady, Connected, Stream, ConnectionLost, DatagramReceived, DatagramsUnblocked}
use Rattle.qc_state.specs.declared.input.Input.{Input}
use Rattle.qc_state.specs.declared.life.ConnectionError.{ConnectionError}
use Rattle.qc_state.specs.declared.life.Life.{Life}
use Rattle.qc_state.specs.declared.life.State.{State}
use Rattle.qc_state.specs.declared.life.State.TheVariants as state
use Rattle.qc_state.specs.declared.trace.Step.{Step}
use Rattle.qc_laws.specs.EventLaws.{EachTells, OnlyDoneWaits, TellsDone, TellsOnce, Untold, all_told, connections_in, endpoint_events_of, ends_in, events_of, losses_in, once, rises_to, untold_of, is_heard}
use Rattle.qc_state.specs.Headline.{LifeRises, LosesOnce, RisesFrom, deeds_of, lives_in, reasons_in}
use Rattle.qc_state.specs.Life.{connected_event, connected_reported, data_ready, drained_event, drained_reported, event_if, identifiers_wanted, is_drained, life_closed, life_drained, life_established, life_raised, lost_event, lost_reported, more_heard, rank_of, ready_event, ready_reported, reason_given, token_learned, notices_reported, all_heard_reported, datagram_heard, retirement_told, token_told}
use Rattle.qc_state.specs.Moves.{IsTold, MayMove, Move, Accept, Clock, PeerClosesToo, Enter, Establish, Give, PeerCloses, Raise, Ready, ReportConnected, ReportDrained, ReportLost, ReportReady, ReportNotice, ReportNotices, Say, Seal, Shut, Take, Tell, Token, Want, deeds_move, life_move, move_to, state_move, Hand, ReportStream, ReportStreams, ReportHeard, ReportAllHeard, told_to_streams, Insert, Switch, Retire, Renew}
use Rattle.qc_state.specs.Polls.{endpoint_events, waiting_events}
use Rattle.qc_state.specs.Run.{IsStep, Ran, Run, began, called, input_after, reported, step_after, time_of, IsAllowed}
use Rattle.qc_state.specs.Types.{Types, Meaning}
use Rattle.qc_state.specs.View.{View, At}
use Rattle.qc_laws.proofs.Inputs.{IsMade, holds_input}
use Rattle.qc_state.proofs.Telling.{closed_rank, told_appends}
use Rattle.qc_laws.proofs.Told.{run_life_rises, run_loses_once}
use Rattle.qc_laws.proofs.StreamCalls.{handed_told}
use Rattle.qc_streams.specs.declared.events.StreamEvent.{StreamEvent}
use Rattle.qc_state.specs.declared.deeds.Layer.TheVariants as layer
use Rattle.qc_state.specs.Streams as streams_events
use Rattle.qc_state.specs.Datagrams.{sealed_datagrams, tells_datagram, told_by, told_by_all}
use Rattle.qc_datagrams.specs.Steps as posts
use Rattle.qc_datagrams.specs.declared.datagrams.Datagrams.{Datagrams}
use Rattle.qc_frame.specs.declared.frames.FrameOf.TheVariants as frames
use Rattle.qc_state.specs.Sending.{Choice}
use Rattle.std.specs.List.{list_all}
use Rattle.qc_cids.specs.Cids.{asks_one, next_token, token_by}
use Rattle.qc_ids.specs.LocalCids.{may_retire}
use Rattle.qc_state.specs.Ids.{active_limit}

-- ---- deeds and events, one list behind another

reasons_append : (ds es : List Did) → reasons_in (ds ++ es) ≡ reasons_in ds ++ reasons_in es
reasons_append [] es = refl
reasons_append (did.Sealed space number epoch early fs ∷ ds) es = reasons_append ds es
reasons_append (did.Piece space number v ∷ ds) es = reasons_append ds es
reasons_append (did.Gave layer body ∷ ds) es = reasons_append ds es
reasons_append (did.Rose life ∷ ds) es = reasons_append ds es
reasons_append (did.Lost why ∷ ds) es = ap (λ (x : List ConnectionError). why ∷ x) (reasons_append ds es)
reasons_append (did.Quiet why ∷ ds) es = reasons_append ds es

rose_more : (b : Bool) (x y z : ℕ) → z ≡ x + y → (if b then z + 1 else z) ≡ (if b then x + 1 else x) + y
rose_more true x y z e = omega (arith, e)
rose_more false x y z e = e

rises_append : (rank : ℕ) (ds es : List Did) → rises_to rank (ds ++ es) ≡ rises_to rank ds + rises_to rank es
rises_append rank [] es = omega arith
rises_append rank (did.Sealed space number epoch early fs ∷ ds) es = rises_append rank ds es
rises_append rank (did.Piece space number v ∷ ds) es = rises_append rank ds es
rises_append rank (did.Gave layer body ∷ ds) es = rises_append rank ds es
rises_append rank (did.Rose life ∷ ds) es = rose_more (life == rank) (rises_to rank ds) (rises_to rank es) (rises_to rank (ds ++ es)) (rises_append rank ds es)
rises_append rank (did.Lost why ∷ ds) es = rises_append rank ds es
rises_append rank (did.Quiet why ∷ ds) es = rises_append rank ds es

losses_append : (es fs : List Event) → losses_in (es ++ fs) ≡ losses_in es ++ losses_in fs
losses_append [] fs = refl
losses_append (HandshakeDataReady ∷ es) fs = losses_append es fs
losses_append (Connected ∷ es) fs = losses_append es fs
losses_append (Stream event ∷ es) fs = losses_append es fs
losses_append (DatagramReceived ∷ es) fs = losses_append es fs
losses_append (DatagramsUnblocked ∷ es) fs = losses_append es fs
losses_append (ConnectionLost why ∷ es) fs = ap (λ (x : List ConnectionError). why ∷ x) (losses_append es fs)

connections_append : (es fs : List Event) → connections_in (es ++ fs) ≡ connections_in es + connections_in fs
connections_append [] fs = omega arith
connections_append (HandshakeDataReady ∷ es) fs = connections_append es fs
connections_append (Connected ∷ es) fs = let more : connections_in (es ++ fs) ≡ connections_in es + connections_in fs = connections_append es fs in omega (arith, more)
connections_append (Stream event ∷ es) fs = connections_append es fs
connections_append (DatagramReceived ∷ es) fs = connections_append es fs
connections_append (DatagramsUnblocked ∷ es) fs = connections_append es fs
connections_append (ConnectionLost why ∷ es) fs = connections_append es fs

ends_append : (es fs : List EndpointEvent) → ends_in (es ++ fs) ≡ ends_in es + ends_in fs
ends_append [] fs = omega arith
ends_append (endpoint.ResetToken remote token ∷ es) fs = ends_append es fs
ends_append (endpoint.NeedIdentifiers time count ∷ es) fs = ends_append es fs
ends_append (endpoint.RetireConnectionId time n more ∷ es) fs = ends_append es fs
ends_append (endpoint.Drained ∷ es) fs = let more : ends_in (es ++ fs) ≡ ends_in es + ends_in fs = ends_append es fs in omega (arith, more)

-- ---- what waits to be told, over moves

-- from one life to another, between which these deeds were done: what waits behind them is what waited before, and what they did
record Waits (ds : List Did) (v v' : Life) : Type 0 where
  pub done : OnlyDoneWaits v'
  pub lost : option_to_list v'.lost ≡ option_to_list v.lost ++ reasons_in ds
  pub connected : once v'.connected ≡ once v.connected + rises_to 1 ds
  pub drained : once v'.drained ≡ once v.drained + rises_to 4 ds

-- deeds that give no reason and raise no life leave what waits
same_waits : (ds : List Did) (v : Life) → reasons_in ds ≡ [] → rises_to 1 ds ≡ 0 → rises_to 4 ds ≡ 0 → OnlyDoneWaits v → Waits ds v v
same_waits ds v none first last h = record {
  done = h;
  lost = sym (append-nil (option_to_list v.lost)) ∙ ap (λ (x : List ConnectionError). option_to_list v.lost ++ x) (sym none);
  connected = omega (arith, first);
  drained = omega (arith, last);
}

waits_next : (ds es : List Did) (u v w : Life) → Waits ds u v → Waits es v w → Waits (ds ++ es) u w
waits_next ds es u v w g h = record {
  done = h.done;
  lost = h.lost ∙ ap (λ (x : List ConnectionError). x ++ reasons_in es) g.lost ∙ append_assoc (option_to_list u.lost) (reasons_in ds) (reasons_in es)
      ∙ ap (λ (x : List ConnectionError). option_to_list u.lost ++ x) (sym (reasons_append ds es));
  connected = let both : rises_to 1 (ds ++ es) ≡ rises_to 1 ds + rises_to 1 es = rises_append 1 ds es in omega (arith, both, g.connected, h.connected);
  drained = let both : rises_to 4 (ds ++ es) ≡ rises_to 4 ds + rises_to 4 es = rises_append 4 ds es in omega (arith, both, g.drained, h.drained);
}

-- the life rises below its end, and not to Established
passed_waits : (rank : ℕ) (v v' : Life) → (rank == 1) ≡ false → (rank == 4) ≡ false → rank_of v.state < 4 → 1 ≤ rank_of v'.state →
    v'.reason ≡ v.reason → v'.lost ≡ v.lost → v'.connected ≡ v.connected → v'.drained ≡ v.drained → v'.notices ≡ v.notices → v'.heard ≡ v.heard → OnlyDoneWaits v → Waits (did.Rose rank ∷ []) v v'
passed_waits rank v v' first last low high reason lost connected drained notices heard h = record {
  done = record {
    lost = λ e. lost ∙ h.lost (ap is_none (sym reason) ∙ e);
    connected = λ e. absurd (omega (arith, e, high));
    drained = λ e. drained ∙ h.drained low;
    notices = ap ends_in notices ∙ h.notices;
    heard = ap (λ (es : List Event). list_all is_heard es) heard ∙ h.heard;
  };
  lost = ap option_to_list lost ∙ sym (append-nil (option_to_list v.lost));
  connected = rw first (ap once connected ∙ omega arith);
  drained = rw last (ap once drained ∙ omega arith);
}

told_waits : (d : Did) (v : Life) → IsTold d → OnlyDoneWaits v → Waits (d ∷ []) v v
told_waits (did.Piece space number v) life h w = same_waits (did.Piece space number v ∷ []) life refl refl refl w
told_waits (did.Gave layer body) life h w = same_waits (did.Gave layer body ∷ []) life refl refl refl w
told_waits _ life h w = absurd h

-- one event more, which isn't the end
one_notice : (es : List EndpointEvent) (e : EndpointEvent) → ends_in (e ∷ []) ≡ 0 → ends_in es ≡ 0 → ends_in (es ++ e ∷ []) ≡ 0
one_notice es e here none = let both : ends_in (es ++ e ∷ []) ≡ ends_in es + ends_in (e ∷ []) = ends_append es (e ∷ []) in omega (arith, both, here, none)

established_waits : (v : Life) → rank_of v.state < 1 → OnlyDoneWaits v → Waits (did.Rose 1 ∷ []) v (life_established v)
unfolding life_established
established_waits v low h = record {
  done = record { lost = h.lost; connected = λ e. absurd (omega (arith, e)); drained = λ e. h.drained (omega (arith, low)); notices = h.notices; heard = h.heard };
  lost = sym (append-nil (option_to_list v.lost));
  connected = rw (h.connected low) refl;
  drained = omega arith;
}

ended_waits : (v : Life) → rank_of v.state < 4 → OnlyDoneWaits v → Waits (did.Rose 4 ∷ []) v (life_raised v state.Drained)
unfolding life_raised
ended_waits v low h = record {
  done = record { lost = h.lost; connected = λ e. absurd (omega (arith, e)); drained = λ e. absurd (omega (arith, e)); notices = h.notices; heard = h.heard };
  lost = sym (append-nil (option_to_list v.lost));
  connected = omega arith;
  drained = rw (h.drained low) refl;
}

given_waits : (v : Life) (why : ConnectionError) → v.reason ≡ None → OnlyDoneWaits v → Waits (did.Lost why ∷ []) v (reason_given v why)
unfolding reason_given
given_waits v why none h =
    let before : v.lost ≡ None = h.lost (ap is_none none) in
    rw none (record { done = record { lost = λ e. cc e; connected = h.connected; drained = h.drained; notices = h.notices; heard = h.heard }; lost = rw before refl; connected = omega arith; drained = omega arith })

-- what tells of datagrams waits behind what waits of them
heard_more : (es fs : List Event) → list_all is_heard es ≡ true → list_all is_heard fs ≡ true → list_all is_heard (es ++ fs) ≡ true
heard_more [] fs h g = g
heard_more (DatagramReceived ∷ es) fs h g = heard_more es fs h g
heard_more (DatagramsUnblocked ∷ es) fs h g = heard_more es fs h g
heard_more (_ ∷ es) fs h g = cc

-- what steps of datagrams tell is such
told_is_heard : (x : posts.Step) (d : Datagrams) → list_all is_heard (told_by x d) ≡ true
told_is_heard (posts.Came body) d = by (tells_datagram (frames.Datagram body) d)
  where
    by : (b : Bool) → list_all is_heard (if b then DatagramReceived ∷ [] else []) ≡ true
    by true = refl
    by false = refl
told_is_heard posts.Sealed d = by d.blocked
  where
    by : (b : Bool) → list_all is_heard (if b then DatagramsUnblocked ∷ [] else []) ≡ true
    by true = refl
    by false = refl
told_is_heard _ d = refl

all_told_are_heard : (xs : List posts.Step) (d : Datagrams) → list_all is_heard (told_by_all xs d) ≡ true
unfolding told_by_all
all_told_are_heard [] d = refl
all_told_are_heard (x ∷ xs) d = heard_more (told_by x d) (told_by_all xs (posts.after_step x d)) (told_is_heard x d) (all_told_are_heard xs (posts.after_step x d))

-- more that tells of datagrams waits
more_waits : (es : List Event) (v : Life) → list_all is_heard es ≡ true → Waits [] v v → Waits [] v (more_heard es v)
more_waits es v are h = record {
  done = record { lost = h.done.lost; connected = h.done.connected; drained = h.done.drained; notices = h.done.notices; heard = heard_more v.heard es h.done.heard are };
  lost = h.lost;
  connected = h.connected;
  drained = h.drained;
}

heard_waits : (tells : Bool) (ds : List Did) (v : Life) → Waits ds v v → Waits ds v (datagram_heard tells v)
unfolding datagram_heard
heard_waits true ds v h = record {
  done = record { lost = h.done.lost; connected = h.done.connected; drained = h.done.drained; notices = h.done.notices; heard = heard_more v.heard (DatagramReceived ∷ []) h.done.heard refl };
  lost = h.lost;
  connected = h.connected;
  drained = h.drained;
}
heard_waits false ds v h = h

-- what waits for the endpoint before the end is one more, which isn't the end
notice_waits : (ds : List Did) (v : Life) (e : EndpointEvent) → ends_in (e ∷ []) ≡ 0 → Waits ds v v → Waits ds v (record v { notices = v.notices ++ e ∷ [] })
notice_waits ds v e none h = record {
  done = record { lost = h.done.lost; connected = h.done.connected; drained = h.done.drained; notices = one_notice v.notices e none h.done.notices; heard = h.done.heard };
  lost = h.lost;
  connected = h.connected;
  drained = h.drained;
}

named_waits : (o : Option (List ℕ)) (remote : SocketAddr) (ds : List Did) (v : Life) → Waits ds v v → Waits ds v (token_told v remote o)
unfolding token_learned
named_waits None remote ds v h = h
named_waits (Some token) remote ds v h = notice_waits ds v (endpoint.ResetToken remote token) refl h

retired_waits : (b : Bool) (time n : ℕ) (more : Bool) (ds : List Did) (v : Life) → Waits ds v v → Waits ds v (if b then retirement_told v time n more else v)
unfolding retirement_told
retired_waits true time n more ds v h = notice_waits ds v (endpoint.RetireConnectionId time n more) refl h
retired_waits false time n more ds v h = h

module _ {t : Types} where
  -- from one moment to another: the deeds between, and what waits behind them
  record Keeps (a b : At t) : Type 0 where
    pub since : List Did
    pub appended : b.did ≡ a.did ++ since
    pub waits : OnlyDoneWaits a.state.life → Waits since a.state.life b.state.life

  here : (a : At t) → Keeps a a
  here a = record { since = []; appended = sym (append-nil a.did); waits = λ h. same_waits [] a.state.life refl refl refl h }

  next : (a b c : At t) → Keeps a b → Keeps b c → Keeps a c
  next a b c g h = record {
    since = g.since ++ h.since;
    appended = h.appended ∙ ap (λ (x : List Did). x ++ h.since) g.appended ∙ append_assoc a.did g.since h.since;
    waits = λ w. waits_next g.since h.since a.state.life b.state.life c.state.life (g.waits w) (h.waits (g.waits w).done);
  }

  life_waits : (x : Move t) (s : View t) → IsMade x → MayMove x s → OnlyDoneWaits s.life → Waits (deeds_move x s) s.life (life_move x s)
  unfolding MayMove deeds_move life_move life_closed life_drained data_ready token_learned identifiers_wanted
  life_waits (Clock time) s r h w = absurd r
  life_waits (Take id fs) s r h w =
      more_waits (told_by_all (sealed_datagrams fs) s.lower.datagrams) s.life (all_told_are_heard (sealed_datagrams fs) s.lower.datagrams) (same_waits [] s.life refl refl refl w)
  life_waits (Seal time form n size fs) s r h w = same_waits _ s.life refl refl refl w
  life_waits (Enter id n v) s r h w = same_waits _ s.life refl refl refl w
  life_waits (Accept time id n e g v) s r h w = same_waits _ s.life refl refl refl w
  life_waits (Renew time cid token keys) s r h w = same_waits _ s.life refl refl refl w
  life_waits (Say q) s r h w = same_waits _ s.life refl refl refl w
  life_waits (Tell d) s r h w = told_waits d s.life h w
  life_waits (Hand frame) s r h w =
      heard_waits (tells_datagram frame s.lower.datagrams) (told_to_streams frame) s.life
      (handed_told (λ ds. Waits ds s.life s.life) frame (same_waits [] s.life refl refl refl w) (λ body. same_waits (did.Gave layer.Streams body ∷ []) s.life refl refl refl w))
  life_waits Ready s r h w = record { done = record { lost = w.lost; connected = w.connected; drained = w.drained; notices = w.notices; heard = w.heard }; lost = sym (append-nil (option_to_list s.life.lost)); connected = omega arith; drained = omega arith }
  life_waits (Insert new) s r h w = named_waits (token_by new s.lower.ids.remote) s.paths.current.remote _ s.life (same_waits _ s.life refl refl refl w)
  life_waits Switch s r h w = named_waits (next_token s.lower.ids.remote) s.paths.current.remote [] s.life (same_waits [] s.life refl refl refl w)
  life_waits (Retire time n) s r h w =
      retired_waits (may_retire n s.lower.ids.local) time n (asks_one (active_limit s.setup.peer) n s.lower.ids) _ s.life (same_waits _ s.life refl refl refl w)
  life_waits (Token token) s r h w = record { done = record { lost = w.lost; connected = w.connected; drained = w.drained; notices = one_notice s.life.notices (endpoint.ResetToken s.paths.current.remote token) refl w.notices; heard = w.heard }; lost = sym (append-nil (option_to_list s.life.lost)); connected = omega arith; drained = omega arith }
  life_waits (Want time count) s r h w = record { done = record { lost = w.lost; connected = w.connected; drained = w.drained; notices = one_notice s.life.notices (endpoint.NeedIdentifiers time count) refl w.notices; heard = w.heard }; lost = sym (append-nil (option_to_list s.life.lost)); connected = omega arith; drained = omega arith }
  life_waits Establish s r h w = established_waits s.life h w
  life_waits (Shut time close) s r h w = passed_waits 2 s.life (life_closed s.life close) refl refl (omega (arith, h)) (omega arith) refl refl refl refl refl refl w
  life_waits (PeerCloses time) s r h w = passed_waits 3 s.life (life_drained s.life) refl refl (omega (arith, h)) (omega arith) refl refl refl refl refl refl w
  life_waits PeerClosesToo s r h w = passed_waits 3 s.life (life_drained s.life) refl refl (let low : rank_of s.life.state < 3 = closed_rank s.life.state h in omega (arith, low)) (omega arith) refl refl refl refl refl refl w
  life_waits (Raise to) s r h w =
      subst (λ (y : State). Waits (did.Rose (rank_of y) ∷ []) s.life (life_raised s.life y)) (sym r) (ended_waits s.life (subst (λ (y : State). rank_of s.life.state < rank_of y) r h) w)
  life_waits (Give why) s r h w = given_waits s.life why h w
  life_waits ReportReady s r h w = absurd r
  life_waits ReportConnected s r h w = absurd r
  life_waits ReportHeard s r h w = absurd r
  life_waits ReportAllHeard s r h w = absurd r
  life_waits ReportStream s r h w = absurd r
  life_waits ReportStreams s r h w = absurd r
  life_waits ReportLost s r h w = absurd r
  life_waits ReportNotice s r h w = absurd r
  life_waits ReportNotices s r h w = absurd r
  life_waits ReportDrained s r h w = absurd r
  life_waits _ s r h w = same_waits [] s.life refl refl refl w

  move_keeps : (x : Move t) → IsMade x → (a : At t) → MayMove x a.state → Keeps a (move_to x a)
  unfolding move_to state_move
  move_keeps x r a h = record { since = deeds_move x a.state; appended = told_appends a.did (deeds_move x a.state); waits = life_waits x a.state r h }

-- ---- steps

-- events of streams tell neither a loss nor that the handshake is over
stream_losses : (es : List StreamEvent) (fs : List Event) → losses_in (map Stream es ++ fs) ≡ losses_in fs
stream_losses [] fs = refl
stream_losses (e ∷ es) fs = stream_losses es fs

stream_connections : (es : List StreamEvent) (fs : List Event) → connections_in (map Stream es ++ fs) ≡ connections_in fs
stream_connections [] fs = refl
stream_connections (e ∷ es) fs = stream_connections es fs

-- of the events that wait, those that tell a loss, and those that tell that the handshake is over
lost_losses : (o : Option ConnectionError) → losses_in (option_to_list (option_map ConnectionLost o)) ≡ option_to_list o
lost_losses (Some why) = refl
lost_losses None = refl

heard_losses : (hs fs : List Event) → list_all is_heard hs ≡ true → losses_in (hs ++ fs) ≡ losses_in fs
heard_losses [] fs h = refl
heard_losses (DatagramReceived ∷ hs) fs h = heard_losses hs fs h
heard_losses (DatagramsUnblocked ∷ hs) fs h = heard_losses hs fs h
heard_losses (_ ∷ hs) fs h = cc

heard_connections : (hs fs : List Event) → list_all is_heard hs ≡ true → connections_in (hs ++ fs) ≡ connections_in fs
heard_connections [] fs h = refl
heard_connections (DatagramReceived ∷ hs) fs h = heard_connections hs fs h
heard_connections (DatagramsUnblocked ∷ hs) fs h = heard_connections hs fs h
heard_connections (_ ∷ hs) fs h = cc

waiting_losses : (r c : Bool) (hs : List Event) (es : List StreamEvent) (o : Option ConnectionError) → list_all is_heard hs ≡ true →
    losses_in (option_to_list (event_if r HandshakeDataReady) ++ (option_to_list (event_if c Connected) ++ (hs ++ (map Stream es ++ option_to_list (option_map ConnectionLost o))))) ≡ option_to_list o
waiting_losses true true hs es o h = heard_losses hs _ h ∙ stream_losses es _ ∙ lost_losses o
waiting_losses true false hs es o h = heard_losses hs _ h ∙ stream_losses es _ ∙ lost_losses o
waiting_losses false true hs es o h = heard_losses hs _ h ∙ stream_losses es _ ∙ lost_losses o
waiting_losses false false hs es o h = heard_losses hs _ h ∙ stream_losses es _ ∙ lost_losses o

lost_connections : (o : Option ConnectionError) → connections_in (option_to_list (option_map ConnectionLost o)) ≡ 0
lost_connections (Some why) = refl
lost_connections None = refl

waiting_connections : (r c : Bool) (hs : List Event) (es : List StreamEvent) (o : Option ConnectionError) → list_all is_heard hs ≡ true →
    connections_in (option_to_list (event_if r HandshakeDataReady) ++ (option_to_list (event_if c Connected) ++ (hs ++ (map Stream es ++ option_to_list (option_map ConnectionLost o))))) ≡ once c
waiting_connections true true hs es o h = ap (λ (n : ℕ). n + 1) (heard_connections hs _ h ∙ stream_connections es _ ∙ lost_connections o)
waiting_connections true false hs es o h = heard_connections hs _ h ∙ stream_connections es _ ∙ lost_connections o
waiting_connections false true hs es o h = ap (λ (n : ℕ). n + 1) (heard_connections hs _ h ∙ stream_connections es _ ∙ lost_connections o)
waiting_connections false false hs es o h = heard_connections hs _ h ∙ stream_connections es _ ∙ lost_connections o

-- of those for the endpoint, those that tell of the end
waiting_ends : (d : Bool) → ends_in (option_to_list (if d then Some endpoint.Drained else None)) ≡ once d
waiting_ends true = refl
waiting_ends false = refl

module _ {t : Types} where
  losses_wait : (s : View t) → list_all is_heard s.life.heard ≡ true → losses_in (waiting_events s) ≡ option_to_list s.life.lost
  unfolding waiting_events ready_event connected_event lost_event
  losses_wait s h = waiting_losses s.life.ready s.life.connected s.life.heard (streams_events.events_of s.lower.streams) s.life.lost h

  connections_wait : (s : View t) → list_all is_heard s.life.heard ≡ true → connections_in (waiting_events s) ≡ once s.life.connected
  unfolding waiting_events ready_event connected_event lost_event
  connections_wait s h = waiting_connections s.life.ready s.life.connected s.life.heard (streams_events.events_of s.lower.streams) s.life.lost h

  ends_wait : (s : View t) → ends_in s.life.notices ≡ 0 → ends_in (endpoint_events s) ≡ once s.life.drained
  unfolding endpoint_events drained_event
  ends_wait s none =
      let both : ends_in (s.life.notices ++ option_to_list (if s.life.drained then Some endpoint.Drained else None)) ≡ ends_in s.life.notices + ends_in (option_to_list (if s.life.drained then Some endpoint.Drained else None)) =
      ends_append s.life.notices (option_to_list (if s.life.drained then Some endpoint.Drained else None)) in
      omega (arith, both, none, waiting_ends s.life.drained)

  -- nothing waits behind the reports
  reported_told : (s : View t) → untold_of (reported s).life ≡ all_told
  unfolding reported state_move life_move ready_reported connected_reported all_heard_reported lost_reported notices_reported drained_reported
  reported_told s = refl

  reported_notices : (s : View t) → (reported s).life.notices ≡ []
  unfolding reported state_move life_move ready_reported connected_reported all_heard_reported lost_reported notices_reported drained_reported
  reported_notices s = refl

  reported_heard : (s : View t) → (reported s).life.heard ≡ []
  unfolding reported state_move life_move ready_reported connected_reported all_heard_reported lost_reported notices_reported drained_reported
  reported_heard s = refl

  -- before anything is reported, still only what came to pass waits
  pub called_done : (m : Meaning t) (s : View t) (i : Input) (choice : Choice) → IsAllowed m i choice (began s (time_of i)) → OnlyDoneWaits s.life → OnlyDoneWaits (input_after m i choice (began s (time_of i))).state.life
  unfolding began state_move life_move
  called_done m s i choice may w =
      let a : At t = began s (time_of i) in
      let kept : Keeps a (input_after m i choice a) = holds_input Keeps here next move_keeps m i choice a may in
      (kept.waits w).done

  -- a step tells what waited before it, and what its deeds did
  step_tells : (m : Meaning t) (k : ℕ) (s : View t) (i : Input) (x : Step) (s' : View t) → IsStep m k s i x s' → OnlyDoneWaits s.life → TellsDone (untold_of s.life) x
  unfolding called began state_move life_move
  step_tells m k s i x s' h w =
      let a : At t = began s (time_of i) in
      let b : At t = input_after m i h.choice a in
      let kept : Keeps a b = holds_input Keeps here next move_keeps m i h.choice a h.allowed in
      let deeds : kept.since ≡ x.did = sym (h.deeds ∙ kept.appended) in
      let waits : Waits x.did s.life b.state.life = subst (λ (ds : List Did). Waits ds s.life b.state.life) deeds (kept.waits w) in
      record {
        losses = ap losses_in h.events ∙ losses_wait b.state waits.done.heard ∙ waits.lost;
        connections = ap connections_in h.events ∙ connections_wait b.state waits.done.heard ∙ waits.connected;
        ends = ap ends_in h.endpoint ∙ ends_wait b.state waits.done.notices ∙ waits.drained;
      }

  -- and behind it nothing waits
  step_told : (m : Meaning t) (k : ℕ) (s : View t) (i : Input) (x : Step) (s' : View t) → IsStep m k s i x s' → untold_of s'.life ≡ all_told
  unfolding step_after
  step_told m k s i x s' h = ap untold_of h.life ∙ reported_told (called m s i h.choice).state

  step_heard : (m : Meaning t) (k : ℕ) (s : View t) (i : Input) (x : Step) (s' : View t) → IsStep m k s i x s' → s'.life.heard ≡ []
  unfolding step_after
  step_heard m k s i x s' h = ap (λ (v : Life). v.heard) h.life ∙ reported_heard (called m s i h.choice).state

  step_notices : (m : Meaning t) (k : ℕ) (s : View t) (i : Input) (x : Step) (s' : View t) → IsStep m k s i x s' → s'.life.notices ≡ []
  unfolding step_after
  step_notices m k s i x s' h = ap (λ (v : Life). v.notices) h.life ∙ reported_notices (called m s i h.choice).state

-- where nothing waits, only what came to pass does
told_done : (v : Life) → untold_of v ≡ all_told → v.notices ≡ [] → v.heard ≡ [] → OnlyDoneWaits v
told_done v e none unheard = record { lost = λ _. ap (λ (u : Untold). u.lost) e; connected = λ _. ap (λ (u : Untold). u.connected) e; drained = λ _. ap (λ (u : Untold). u.drained) e; notices = ap ends_in none; heard = ap (λ (es : List Event). list_all is_heard es) unheard }

-- ---- runs

module _ {t : Types} where
  -- so it is behind a step
  pub step_done : (m : Meaning t) (k : ℕ) (s : View t) (i : Input) (x : Step) (s' : View t) → IsStep m k s i x s' → OnlyDoneWaits s'.life
  step_done m k s i x s' h = told_done s'.life (step_told m k s i x s' h) (step_notices m k s i x s' h) (step_heard m k s i x s' h)

  -- just what came to pass is told in a run
  pub run_tells_done : (m : Meaning t) (k : ℕ) (s : View t) (is : List Input) (xs : List Step) (s' : View t) → Run m k s is xs s' → OnlyDoneWaits s.life → EachTells (untold_of s.life) xs
  unfolding Run
  run_tells_done m k s [] [] s' r w = tt
  run_tells_done m k s (i ∷ is) (x ∷ xs) s' r w =
      let none : untold_of r.0.life ≡ all_told = step_told m k s i x r.0 r.1 in
      (step_tells m k s i x r.0 r.1 w, subst (λ (u : Untold). EachTells u xs) none (run_tells_done m (k + 1) r.0 is xs s' r.2 (step_done m k s i x r.0 r.1)))
  run_tells_done m k s [] (x ∷ xs) s' r w = absurd r
  run_tells_done m k s (i ∷ is) [] s' r w = absurd r

  -- and where it ends only what came to pass waits
  pub run_stays_done : (m : Meaning t) (k : ℕ) (s : View t) (is : List Input) (xs : List Step) (s' : View t) → Run m k s is xs s' → OnlyDoneWaits s.life → OnlyDoneWaits s'.life
  unfolding Run
  run_stays_done m k s [] [] s' r w = subst (λ (v : View t). OnlyDoneWaits v.life) (sym r) w
  run_stays_done m k s (i ∷ is) (x ∷ xs) s' r w = run_stays_done m (k + 1) r.0 is xs s' r.2 (step_done m k s i x r.0 r.1)
  run_stays_done m k s [] (x ∷ xs) s' r w = absurd r
  run_stays_done m k s (i ∷ is) [] s' r w = absurd r

  pub ran_tells_done : (m : Meaning t) (k : ℕ) (s : View t) (is : List Input) (xs : List Step) → Ran m k s is xs → OnlyDoneWaits s.life → EachTells (untold_of s.life) xs
  ran_tells_done m k s is xs r w = run_tells_done m k s (take (length xs) is) xs r.last r.run w

-- all that a run tells, together
all_losses : (u : Untold) (xs : List Step) → EachTells u xs → length (losses_in (events_of xs)) ≤ length (option_to_list u.lost) + length (reasons_in (deeds_of xs))
all_losses u [] h = omega arith
all_losses u (x ∷ xs) h =
    let others : length (losses_in (events_of xs)) ≤ 0 + length (reasons_in (deeds_of xs)) = all_losses all_told xs h.1 in
    let events : length (losses_in (x.events ++ events_of xs)) ≡ length (losses_in x.events) + length (losses_in (events_of xs)) = ap length (losses_append x.events (events_of xs)) ∙ length-append (losses_in x.events) (losses_in (events_of xs)) in
    let deeds : length (reasons_in (x.did ++ deeds_of xs)) ≡ length (reasons_in x.did) + length (reasons_in (deeds_of xs)) = ap length (reasons_append x.did (deeds_of xs)) ∙ length-append (reasons_in x.did) (reasons_in (deeds_of xs)) in
    let now : length (losses_in x.events) ≡ length (option_to_list u.lost) + length (reasons_in x.did) = ap length h.0.losses ∙ length-append (option_to_list u.lost) (reasons_in x.did) in
    omega (arith, others, events, deeds, now)

all_connections : (u : Untold) (xs : List Step) → EachTells u xs → connections_in (events_of xs) ≤ once u.connected + rises_to 1 (deeds_of xs)
all_connections u [] h = omega arith
all_connections u (x ∷ xs) h =
    let others : connections_in (events_of xs) ≤ 0 + rises_to 1 (deeds_of xs) = all_connections all_told xs h.1 in
    let events : connections_in (x.events ++ events_of xs) ≡ connections_in x.events + connections_in (events_of xs) = connections_append x.events (events_of xs) in
    let deeds : rises_to 1 (x.did ++ deeds_of xs) ≡ rises_to 1 x.did + rises_to 1 (deeds_of xs) = rises_append 1 x.did (deeds_of xs) in
    omega (arith, others, events, deeds, h.0.connections)

all_ends : (u : Untold) (xs : List Step) → EachTells u xs → ends_in (endpoint_events_of xs) ≤ once u.drained + rises_to 4 (deeds_of xs)
all_ends u [] h = omega arith
all_ends u (x ∷ xs) h =
    let others : ends_in (endpoint_events_of xs) ≤ 0 + rises_to 4 (deeds_of xs) = all_ends all_told xs h.1 in
    let events : ends_in (x.endpoint ++ endpoint_events_of xs) ≡ ends_in x.endpoint + ends_in (endpoint_events_of xs) = ends_append x.endpoint (endpoint_events_of xs) in
    let deeds : rises_to 4 (x.did ++ deeds_of xs) ≡ rises_to 4 x.did + rises_to 4 (deeds_of xs) = rises_append 4 x.did (deeds_of xs) in
    omega (arith, others, events, deeds, h.0.ends)

-- a life that rises rises to each rank once, and to none that lies behind it
none_more : (rank n life least : ℕ) (b : Bool) → (life == rank) ≡ b → rank < least → least ≤ life → n ≡ 0 → (if b then n + 1 else n) ≡ 0
none_more rank n life least true e low high none = absurd (let same : life ≡ rank = grind (arith, nat_tests) in omega (arith, same, low, high))
none_more rank n life least false e low high none = none

none_below : (rank least : ℕ) (ds : List Did) → RisesFrom least (lives_in ds) → rank < least → rises_to rank ds ≡ 0
none_below rank least [] h low = refl
none_below rank least (did.Sealed space number epoch early fs ∷ ds) h low = none_below rank least ds h low
none_below rank least (did.Piece space number v ∷ ds) h low = none_below rank least ds h low
none_below rank least (did.Gave layer body ∷ ds) h low = none_below rank least ds h low
none_below rank least (did.Rose life ∷ ds) h low = let high : least ≤ life = h.0 in none_more rank (rises_to rank ds) life least (life == rank) refl low high (none_below rank (life + 1) ds h.1 (omega (arith, low, high)))
none_below rank least (did.Lost why ∷ ds) h low = none_below rank least ds h low
none_below rank least (did.Quiet why ∷ ds) h low = none_below rank least ds h low

one_more : (rank n life : ℕ) (b : Bool) → (life == rank) ≡ b → n ≤ 1 → (rank < life + 1 → n ≡ 0) → (if b then n + 1 else n) ≤ 1
one_more rank n life true e least none = let same : life ≡ rank = grind (arith, nat_tests) in let zero : n ≡ 0 = none (omega (arith, same)) in omega (arith, zero)
one_more rank n life false e least none = least

once_each : (rank least : ℕ) (ds : List Did) → RisesFrom least (lives_in ds) → rises_to rank ds ≤ 1
once_each rank least [] h = omega arith
once_each rank least (did.Sealed space number epoch early fs ∷ ds) h = once_each rank least ds h
once_each rank least (did.Piece space number v ∷ ds) h = once_each rank least ds h
once_each rank least (did.Gave layer body ∷ ds) h = once_each rank least ds h
once_each rank least (did.Rose life ∷ ds) h = one_more rank (rises_to rank ds) life (life == rank) refl (once_each rank (life + 1) ds h.1) (λ low. none_below rank (life + 1) ds h.1 low)
once_each rank least (did.Lost why ∷ ds) h = once_each rank least ds h
once_each rank least (did.Quiet why ∷ ds) h = once_each rank least ds h

-- a loss: told before, waiting, or none so far
loss_once : (reason lost : Option ConnectionError) (given told : ℕ) → (is_none reason ≡ true → lost ≡ None) → told ≤ length (option_to_list lost) + given → length (option_to_list reason) + given ≤ 1 →
    once (is_some reason && is_none lost) + told ≤ 1
loss_once None None given told h few most = omega (arith, few, most)
loss_once None (Some why) given told h few most = cc (h refl)
loss_once (Some why) None given told h few most = omega (arith, few, most)
loss_once (Some why) (Some other) given told h few most = omega (arith, few, most)

-- so with a rank of the life: passed before, waiting to be told, or none so far
rise_once : (passed waits : Bool) (rises told : ℕ) → (passed ≡ false → waits ≡ false) → told ≤ once waits + rises → rises ≤ 1 → (passed ≡ true → rises ≡ 0) → once (passed && not waits) + told ≤ 1
rise_once true true rises told h few most none = let zero : rises ≡ 0 = none refl in omega (arith, few, zero)
rise_once true false rises told h few most none = let zero : rises ≡ 0 = none refl in omega (arith, few, zero)
rise_once false true rises told h few most none = cc (h refl)
rise_once false false rises told h few most none = omega (arith, few, most)

established_low : (s : State) → nat_le 1 (rank_of s) ≡ false → rank_of s < 1
established_low s e = grind (arith, nat_tests)

established_high : (s : State) → nat_le 1 (rank_of s) ≡ true → 1 ≤ rank_of s
established_high s e = grind (arith, nat_tests)

drained_low : (s : State) → is_drained s ≡ false → rank_of s < 4
drained_low state.Handshake h = omega arith
drained_low state.Established h = omega arith
drained_low state.Closed h = omega arith
drained_low state.Draining h = omega arith
drained_low state.Drained h = cc

drained_high : (s : State) → is_drained s ≡ true → 4 ≤ rank_of s
drained_high state.Handshake h = cc
drained_high state.Established h = cc
drained_high state.Closed h = cc
drained_high state.Draining h = cc
drained_high state.Drained h = omega arith

told_once : (v : Life) (xs : List Step) → OnlyDoneWaits v → EachTells (untold_of v) xs → length (option_to_list v.reason) + length (reasons_in (deeds_of xs)) ≤ 1 → RisesFrom (rank_of v.state + 1) (lives_in (deeds_of xs)) → TellsOnce v xs
told_once v xs w each few rises =
    let rank : ℕ = rank_of v.state in
    record {
      loss = loss_once v.reason v.lost (length (reasons_in (deeds_of xs))) (length (losses_in (events_of xs))) w.lost (all_losses (untold_of v) xs each) few;
      connection = rise_once (nat_le 1 rank) v.connected (rises_to 1 (deeds_of xs)) (connections_in (events_of xs)) (λ e. w.connected (established_low v.state e)) (all_connections (untold_of v) xs each)
          (once_each 1 (rank + 1) (deeds_of xs) rises) (λ e. none_below 1 (rank + 1) (deeds_of xs) rises (let high : 1 ≤ rank = established_high v.state e in omega (arith, high)));
      end = rise_once (is_drained v.state) v.drained (rises_to 4 (deeds_of xs)) (ends_in (endpoint_events_of xs)) (λ e. w.drained (drained_low v.state e)) (all_ends (untold_of v) xs each)
          (once_each 4 (rank + 1) (deeds_of xs) rises) (λ e. none_below 4 (rank + 1) (deeds_of xs) rises (let high : 4 ≤ rank = drained_high v.state e in omega (arith, high)));
    }

module _ {t : Types} where
  -- each thing is told once in a run
  pub run_tells_once : (m : Meaning t) (k : ℕ) (s : View t) (is : List Input) (xs : List Step) (s' : View t) → Run m k s is xs s' → OnlyDoneWaits s.life → TellsOnce s.life xs
  unfolding LosesOnce LifeRises
  run_tells_once m k s is xs s' r w = told_once s.life xs w (run_tells_done m k s is xs s' r w) (run_loses_once m k s is xs s' r) (run_life_rises m k s is xs s' r)

  pub ran_tells_once : (m : Meaning t) (k : ℕ) (s : View t) (is : List Input) (xs : List Step) → Ran m k s is xs → OnlyDoneWaits s.life → TellsOnce s.life xs
  ran_tells_once m k s is xs r w = run_tells_once m k s (take (length xs) is) xs r.last r.run w

-- the empty trace
pub none_tells_done : (u : Untold) (xs : List Step) → xs ≡ [] → EachTells u xs
none_tells_done u xs e = subst (λ (ys : List Step). EachTells u ys) (sym e) tt

one_or_none : (b : Bool) → once b + 0 ≤ 1
one_or_none true = omega arith
one_or_none false = omega arith

pub none_tells_once : (v : Life) (xs : List Step) → xs ≡ [] → TellsOnce v xs
none_tells_once v xs e =
    subst (λ (ys : List Step). TellsOnce v ys) (sym e)
    (record { loss = one_or_none (is_some v.reason && is_none v.lost); connection = one_or_none (nat_le 1 (rank_of v.state) && not v.connected); end = one_or_none (is_drained v.state && not v.drained) })
