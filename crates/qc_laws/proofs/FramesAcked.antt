-- Over a run the frames of streams that are acknowledged are those of the packets that loss recovery acknowledged.
use Rattle.std.proofs.Common.{◌≡◌, ℕ, ◌+◌, ◌⊎◌, inl, inr, zero, suc, List, [], ◌∷◌, ◌++◌, length, refl, ap, sym, ◌∙◌, subst, Bool, true, false, Option, Some, None, if◌then◌else◌, append_assoc, append-nil}
use Rattle.std.proofs.lemmas.List.Elements.{filter-append}
use Rattle.std.specs.Prelude.{◌==◌, filter, map}
use Rattle.std.specs.List.{list_all}
use Rattle.qc_base.specs.declared.ids.IssuedCid.{IssuedCid}
use Rattle.qc_base.specs.declared.side.SpaceId.{SpaceId}
use Rattle.qc_base.specs.declared.side.SpaceId.TheVariants.{Initial, Handshake, «Data»}
use Rattle.qc_datagrams.specs.Steps as datagrams
use Rattle.qc_flight.specs.Packets.{Entry}
use Rattle.qc_flight.specs.declared.sent.SentPacket.{SentPacket}
use Rattle.qc_flight.specs.declared.stream_frames.StreamMeta.{StreamMeta}
use Rattle.qc_frame.specs.Frame.{AckValue, FrameValue}
use Rattle.qc_frame.specs.FrameSpelling.{spelling}
use Rattle.qc_frame.specs.declared.frames.FrameOf.TheVariants as frames
use Rattle.qc_recovery.specs.Steps.{After}
use Rattle.qc_recovery.specs.declared.calls.Fired.{Fired}
use Rattle.qc_recovery.specs.declared.calls.Fired.TheVariants as fired
use Rattle.qc_streams.specs.Waits.{Step, BytesAcked, ControlAcked, ControlLost, after}
use Rattle.qc_streams.specs.declared.control.Control.{Control}
use Rattle.qc_streams.specs.declared.events.StreamEvent.{StreamEvent}
use Rattle.qc_streams.specs.declared.state.StreamsState.{StreamsState}
use Rattle.qc_streams.proofs.StepsLaw.{after_append}
use Rattle.qc_state.specs.declared.deeds.Did.{Did}
use Rattle.qc_state.specs.declared.deeds.Did.TheVariants as did
use Rattle.qc_state.specs.declared.deeds.Layer.TheVariants as layer
use Rattle.qc_state.specs.declared.form.Form.{Form}
use Rattle.qc_state.specs.declared.input.Input.{Input}
use Rattle.qc_state.specs.declared.input.Input.TheVariants as input
use Rattle.qc_state.specs.declared.life.Life.{Life}
use Rattle.qc_state.specs.declared.lower.Lower.{Lower}
use Rattle.qc_state.specs.declared.trace.Step.{Step as TraceStep}
use Rattle.qc_state.specs.Flight.{flown_packet}
use Rattle.qc_state.specs.Forms.{is_early, number_space}
use Rattle.qc_state.specs.Headline.{deeds_of}
use Rattle.qc_state.specs.Keys.{epoch_in}
use Rattle.qc_state.specs.Life.{all_heard_reported, connected_reported, drained_reported, is_open, lost_reported, notice_reported, notices_reported, ready_reported}
use Rattle.qc_state.specs.Lower.{datagrams_stepped, events_told, frames_sealed, ids_stepped, streams_stepped}
use Rattle.qc_state.specs.Moves.{Ack, Begin, Call, Fire, Hand, Issue, MayMove, Move, Post, ReportStream, ReportStreams, Seal, Take, deeds_move, is_call, life_move, lower_move, move_to, paths_move, state_move, waiting_move}
use Rattle.qc_state.specs.Numbers.{next_number}
use Rattle.qc_state.specs.Offers.{again_steps, begun_steps, oldest_in, probe_steps, wants_sending}
use Rattle.qc_state.specs.Recovering.{settled_by}
use Rattle.qc_state.specs.Run.{IsAllowed, IsStep, Run, answer_of, began, called, called_all, datagram_limit, input_after, reported, time_of}
use Rattle.qc_state.specs.Run as run
use Rattle.qc_state.specs.Sending.{Choice, packet_size}
use Rattle.qc_state.specs.Spaces.{space_of}
use Rattle.qc_state.specs.StreamFrames.{acked_steps, control_of, control_step, controls_acked, controls_lost, filed_steps, fired_steps, lost_steps, meta_acked, meta_lost, packet_acked, packet_lost, sealed_steps}
use Rattle.qc_state.specs.Streams.{asked_for, calls_of, events_of, steps_of_frame}
use Rattle.qc_state.specs.Types.{Types, Meaning}
use Rattle.qc_state.specs.View.{View, At}
use Rattle.qc_state.specs.Waiting.{probe_spent, waiting_without}
use Rattle.qc_state.proofs.OpenPackets.{IsUnacked}
use Rattle.qc_state.proofs.Transmitted.{IsSealable}
use Rattle.qc_laws.specs.AckedLaws.{AcksFrames, all_acked, is_acked}
use Rattle.qc_laws.specs.EndLaws.{Ends}
use Rattle.qc_laws.specs.EventLaws.{OnlyDoneWaits}
use Rattle.qc_laws.specs.EventLaws as events
use Rattle.qc_laws.specs.RecoveryLaws.{Capped, Dropped, Fired as TimerFired, Probed, RecoveryStep, Sent, Settled, Spent, Told, kept, steps_of}
use Rattle.qc_laws.specs.StreamsLaws.{AreMade, MakesEvent, is_asked, is_came, is_sealed, is_streams_call, streams_steps, streams_told, with_steps}
use Rattle.qc_laws.proofs.EndsHold.{began_ends, step_ends}
use Rattle.qc_laws.proofs.EventsTold.{called_done, step_done}
use Rattle.qc_laws.proofs.HarmlessTests.{first_holds, second_holds}
use Rattle.qc_laws.proofs.KnownMoves.{IsKnownMove, IsUncalled, is_called, uncalled_streams}
use Rattle.qc_laws.proofs.RecoveryFold.{Covers, covers_next, covers_same, fold_from, kept_same, other_part, recovers_by}
use Rattle.qc_laws.proofs.StreamCalls.{AreCalls, calls_may}
use Rattle.qc_laws.proofs.StreamsFold.{called_did, called_streams, events_append, events_wait, flown_streams, move_folds, none_called}
use Rattle.qc_laws.proofs.StreamsMade.{Are, apart_are, are_append, asked_are, calls_all, calls_are, frame_all, none_are, other_are, sealed_are}
use Rattle.qc_laws.proofs.StreamsSealed.{sealed_all}

-- ---- steps that acknowledge nothing

abbrev Unacked : List Step → Type 0
Unacked xs = filter is_acked xs ≡ []

unacked_append : (xs ys : List Step) → Unacked xs → Unacked ys → Unacked (xs ++ ys)
unacked_append xs ys h k = filter-append is_acked xs ys ∙ ap (λ (l : List Step). l ++ filter is_acked ys) h ∙ k

-- steps of a kind of which none does
kind_unacked : (kind : Step → Bool) → ((x : Step) → kind x ≡ true → is_acked x ≡ false) → (xs : List Step) → list_all kind xs ≡ true → Unacked xs
kind_unacked kind apart [] h = refl
kind_unacked kind apart (x ∷ xs) h =
    ap (λ (b : Bool). if b then x ∷ filter is_acked xs else filter is_acked xs) (apart x (first_holds (kind x) (list_all kind xs) h)) ∙ kind_unacked kind apart xs (second_holds (kind x) (list_all kind xs) h)

came_unacked : (x : Step) → is_came x ≡ true → is_acked x ≡ false
came_unacked (ControlAcked c) h = cc
came_unacked (BytesAcked id start end last) h = cc
came_unacked _ h = refl

call_unacked : (x : Step) → is_call x ≡ true → is_acked x ≡ false
call_unacked (ControlAcked c) h = cc
call_unacked (BytesAcked id start end last) h = cc
call_unacked _ h = refl

sealed_unacked : (x : Step) → is_sealed x ≡ true → is_acked x ≡ false
sealed_unacked (ControlAcked c) h = cc
sealed_unacked (BytesAcked id start end last) h = cc
sealed_unacked _ h = refl

asked_unacked : (n : ℕ) → Unacked (asked_for n)
asked_unacked zero = refl
asked_unacked (suc n) = asked_unacked n

-- those with which frames are lost, and streams looked at
control_lost : (o : Option Control) → Unacked (control_step ControlLost o)
control_lost None = refl
control_lost (Some c) = refl

frames_lost : (fs : List FrameValue) → Unacked (controls_lost fs)
frames_lost [] = refl
frames_lost (f ∷ fs) = unacked_append (control_step ControlLost (control_of f)) (controls_lost fs) (control_lost (control_of f)) (frames_lost fs)

metas_lost : (ms : List StreamMeta) → Unacked (map meta_lost ms)
metas_lost [] = refl
metas_lost (m ∷ ms) = metas_lost ms

packet_loses : (packet : SentPacket) → Unacked (packet_lost packet)
unfolding packet_lost
packet_loses packet = unacked_append (controls_lost packet.frames) (map meta_lost packet.stream_frames) (frames_lost packet.frames) (metas_lost packet.stream_frames)

lost_all : (es : List Entry) → Unacked (lost_steps es)
unfolding lost_steps
lost_all [] = refl
lost_all (e ∷ es) = unacked_append (packet_lost e.1) (lost_steps es) (packet_loses e.1) (lost_all es)

fired_all : (f : Fired) → Unacked (fired_steps f)
fired_all (fired.Lost id lost) = lost_all lost
fired_all (fired.Probe id count) = refl
fired_all fired.Nothing = refl

again_all : (b : Bool) (o : Option SentPacket) → Unacked (if b then [] else again_steps o)
again_all true o = refl
again_all false None = refl
again_all false (Some packet) = packet_loses packet

filed_all : (id : SpaceId) → Unacked (filed_steps id)
filed_all Initial = refl
filed_all Handshake = refl
filed_all Data = refl

module _ {t : Types} where
  probe_all : (b : Bool) (id : SpaceId) (s : View t) → Unacked (if b then [] else probe_steps id s)
  unfolding probe_steps
  probe_all true id s = refl
  probe_all false id s = again_all (wants_sending s id) (oldest_in s id)

  begun_all : (id : SpaceId) (opens : Bool) (s : View t) → Unacked (begun_steps id opens s)
  unfolding begun_steps
  begun_all id opens s =
      let probed : View t = if opens then record s { waiting = probe_spent s.waiting id } else s in
      let due : Bool = (space_of s.waiting.spaces id).probes == 0 in
      unacked_append (if due then [] else probe_steps id probed) (filed_steps id) (probe_all due id probed) (filed_all id)

-- ---- steps that acknowledge frames

abbrev AllAcked : List Step → Type 0
AllAcked xs = filter is_acked xs ≡ xs

all_append : (xs ys : List Step) → AllAcked xs → AllAcked ys → AllAcked (xs ++ ys)
all_append xs ys h k = filter-append is_acked xs ys ∙ ap (λ (l : List Step). l ++ filter is_acked ys) h ∙ ap (λ (l : List Step). xs ++ l) k

control_acked : (o : Option Control) → AllAcked (control_step ControlAcked o)
control_acked None = refl
control_acked (Some c) = refl

frames_acked : (fs : List FrameValue) → AllAcked (controls_acked fs)
frames_acked [] = refl
frames_acked (f ∷ fs) = all_append (control_step ControlAcked (control_of f)) (controls_acked fs) (control_acked (control_of f)) (frames_acked fs)

metas_acked : (ms : List StreamMeta) → AllAcked (map meta_acked ms)
metas_acked [] = refl
metas_acked (m ∷ ms) = ap (λ (l : List Step). meta_acked m ∷ l) (metas_acked ms)

packets_acked : (es : List Entry) → AllAcked (acked_steps es)
unfolding acked_steps
packets_acked [] = refl
packets_acked (e ∷ es) =
    all_append (packet_acked e.1) (acked_steps es) (all_append (controls_acked e.1.frames) (map meta_acked e.1.stream_frames) (frames_acked e.1.frames) (metas_acked e.1.stream_frames)) (packets_acked es)

-- those of an acknowledgement, which shows other packets to be lost
settled_acked : (acked lost : List Entry) → filter is_acked (acked_steps acked ++ lost_steps lost) ≡ acked_steps (acked ++ [])
settled_acked acked lost =
    filter-append is_acked (acked_steps acked) (lost_steps lost) ∙ ap (λ (l : List Step). l ++ filter is_acked (lost_steps lost)) (packets_acked acked) ∙ ap (λ (l : List Step). acked_steps acked ++ l) (lost_all lost)
    ∙ append-nil (acked_steps acked) ∙ ap acked_steps (sym (append-nil acked))

-- ---- lists

acked_append : (es fs : List Entry) → acked_steps (es ++ fs) ≡ acked_steps es ++ acked_steps fs
unfolding acked_steps
acked_append [] fs = refl
acked_append (e ∷ es) fs = ap (λ (l : List Step). packet_acked e.1 ++ l) (acked_append es fs) ∙ sym (append_assoc (packet_acked e.1) (acked_steps es) (acked_steps fs))

module _ {C : Type 0} where
  pub all_acked_append : (xs ys : List (RecoveryStep C)) → all_acked (xs ++ ys) ≡ all_acked xs ++ all_acked ys
  all_acked_append [] ys = refl
  all_acked_append (Sent space number packet ∷ xs) ys = all_acked_append xs ys
  all_acked_append (Settled space ack left ∷ xs) ys = ap (λ (es : List Entry). left.acked ++ es) (all_acked_append xs ys) ∙ sym (append_assoc left.acked (all_acked xs) (all_acked ys))
  all_acked_append (TimerFired fires ∷ xs) ys = all_acked_append xs ys
  all_acked_append (Dropped space ∷ xs) ys = all_acked_append xs ys
  all_acked_append (Spent tokens ∷ xs) ys = all_acked_append xs ys
  all_acked_append (Told control ∷ xs) ys = all_acked_append xs ys
  all_acked_append (Capped size ∷ xs) ys = all_acked_append xs ys
  all_acked_append (Probed time number ∷ xs) ys = all_acked_append xs ys

  -- these steps of the streams acknowledge the frames of the packets that those of recovery acknowledge
  abbrev AckSame : List Step → List (RecoveryStep C) → Type 0
  AckSame xs r = filter is_acked xs ≡ acked_steps (all_acked r)

  same_append : (xs ys : List Step) (r q : List (RecoveryStep C)) → AckSame xs r → AckSame ys q → AckSame (xs ++ ys) (r ++ q)
  same_append xs ys r q g h =
      filter-append is_acked xs ys ∙ ap (λ (l : List Step). l ++ filter is_acked ys) g ∙ ap (λ (l : List Step). acked_steps (all_acked r) ++ l) h
      ∙ sym (acked_append (all_acked r) (all_acked q)) ∙ ap acked_steps (sym (all_acked_append r q))

-- a packet that is sealed is in flight, or isn't, and acknowledges none
owed_unacked : (C : Type 0) (owed : Bool) (space : SpaceId) (n : ℕ) (packet : SentPacket) (xs : List Step) → Unacked xs → filter is_acked xs ≡ acked_steps (all_acked {C = C} (if owed then [] else Sent space n packet ∷ []))
unfolding acked_steps
owed_unacked C true space n packet xs h = h
owed_unacked C false space n packet xs h = h

-- steps with which nothing is sealed, acknowledged or lost: calls of the application, or those with which events are asked for
abbrev pub AreQuiet : List Step → Type 0
AreQuiet xs = (list_all is_call xs ≡ true) ⊎ ((n : ℕ) × (xs ≡ asked_for n))

-- beside that, something else holds of the steps of both between two views
module _ {t : Types} (More : List Step → List (RecoveryStep t.C) → View t → View t → Type 0) where
  -- it holds of quiet steps, of what comes one after the other, of each move that is known so and is no call, of an ACK, and of a packet that
  -- is taken and sealed
  pub record Holds (m : Meaning t) : Type 0 where
    pub quiet : (ys : List Step) (s s' : View t) → AreQuiet ys → kept s' ≡ kept s → is_open s'.life.state ≡ is_open s.life.state → More ys [] s s'
    pub next : (ys zs : List Step) (xs ws : List (RecoveryStep t.C)) (u v w : View t) → More ys xs u v → More zs ws v w → More (ys ++ zs) (xs ++ ws) u w
    pub move : (x : Move t) (s : View t) → IsKnownMove m x s → IsUncalled x → IsUnacked x → MayMove x s → More (streams_steps x s) (steps_of x s) s (state_move x s)
    pub ack : (time : ℕ) (space : SpaceId) (ack : AckValue) (s : View t) →
        let left : After t.C = settled_by m time space ack s in More (acked_steps left.acked ++ lost_steps left.lost) (Settled space ack left ∷ []) s (state_move (Ack space ack.largest left) s)
    pub seal : (time : ℕ) (form : Form) (fs : List FrameValue) (s : View t) → IsSealable time s form fs → Ends s →
        let n : ℕ = next_number s.numbers (number_space form) in
        let size : ℕ = packet_size s form fs in
        More (sealed_steps fs) (if s.waiting.close_owed then [] else Sent (number_space form) n (flown_packet time size fs) ∷ []) s
        (state_move (Seal time form n size fs) (state_move (Take (number_space form) fs) s))

  -- the streams made steps that acknowledge so
  record Tied (ds : List Did) (xs : List (RecoveryStep t.C)) (s s' : View t) : Type 0 where
    pub steps : List Step
    pub leads : s'.lower.streams ≡ after steps s.lower.streams
    pub are : Are steps ds [] [] s.lower.streams
    pub acked : AckSame steps xs
    pub more : More steps xs s s'

  -- over deeds, calls with their steps, and the events that were told, where only what came to pass waited
  pub record Over (m : Meaning t) (ds : List Did) (calls : List (Input × TraceStep)) (told : List StreamEvent) (s s' : View t) : Type 0 where
    pub steps : List Step
    pub asked : List StreamEvent
    pub leads : s'.lower.streams ≡ after steps s.lower.streams
    pub are : Are steps ds calls asked s.lower.streams
    pub same : OnlyDoneWaits s.life → asked ≡ told
    pub covers : Covers m ds s s'
    pub acked : AckSame steps covers.steps
    pub more : More steps covers.steps s s'

module _ {t : Types} (m : Meaning t) (More : List Step → List (RecoveryStep t.C) → View t → View t → Type 0) (holds : Holds More m) where
  -- ---- from one view to another, of an input that is no call of the streams

  tied_none : (s : View t) → Tied More [] [] s s
  unfolding after acked_steps
  tied_none s = record { steps = []; leads = refl; are = none_are s.lower.streams; acked = refl; more = holds.quiet [] s s (inl refl) refl refl }

  tied_next : (ds es : List Did) (xs ys : List (RecoveryStep t.C)) (u v w : View t) → Tied More ds xs u v → Tied More es ys v w → Tied More (ds ++ es) (xs ++ ys) u w
  tied_next ds es xs ys u v w g h =
      let s : StreamsState = u.lower.streams in
      record {
        steps = g.steps ++ h.steps;
        leads = h.leads ∙ ap (λ (x : StreamsState). after h.steps x) g.leads ∙ sym (after_append g.steps h.steps s);
        are = are_append g.steps h.steps ds es [] [] [] [] s g.are (subst (λ (x : StreamsState). Are h.steps es [] [] x) g.leads h.are);
        acked = same_append g.steps h.steps xs ys g.acked h.acked;
        more = holds.next g.steps h.steps xs ys u v w g.more h.more;
      }

  move_acked : (x : Move t) (s : View t) → IsKnownMove m x s → IsUncalled x → IsUnacked x → AckSame (streams_steps x s) (steps_of x s)
  unfolding streams_steps steps_of acked_steps
  move_acked (Take id fs) s k c u = absurd k
  move_acked (Seal time form n size fs) s k c u = absurd k
  move_acked (Begin id opens) s k c u = begun_all id opens s
  move_acked (Ack id n r) s k c u = absurd u
  move_acked (Fire r) s k c u = fired_all r.fired
  move_acked (Hand frame) s k c u = kind_unacked is_came came_unacked (steps_of_frame frame s.lower.streams) (frame_all frame s.lower.streams)
  move_acked (Call x) s k c u = absurd c
  move_acked ReportStream s k c u = absurd k
  move_acked ReportStreams s k c u = absurd k
  move_acked x s k c u = refl

  tied_move : (x : Move t) (s : View t) → IsKnownMove m x s → IsUncalled x → IsUnacked x → MayMove x s → Tied More (deeds_move x s) (steps_of x s) s (state_move x s)
  tied_move x s known plain unacked may =
      let folds = move_folds m x s known plain may in
      record { steps = streams_steps x s; leads = folds.0; are = folds.1; acked = move_acked x s known plain unacked; more = holds.move x s known plain unacked may }

  -- recovery is given an ACK
  tied_ack : (time : ℕ) (space : SpaceId) (ack : AckValue) (s : View t) →
      let left : After t.C = settled_by m time space ack s in
      Tied More (did.Gave layer.Recovery (spelling (frames.Ack ack)) ∷ []) (Settled space ack left ∷ []) s (state_move (Ack space ack.largest left) s)
  unfolding streams_steps deeds_move MayMove after
  tied_ack time space ack s =
      let left : After t.C = settled_by m time space ack s in
      let d : Did = did.Gave layer.Recovery (spelling (frames.Ack ack)) in
      let steps : List Step = acked_steps left.acked ++ lost_steps left.lost in
      let folds = move_folds m (Ack space ack.largest left) s (record { time = time; ack = ack; is = refl }) tt tt in
      record {
        steps = steps;
        leads = folds.0;
        are = are_append [] steps (d ∷ []) [] [] [] [] [] s.lower.streams (apart_are (d ∷ []) s.lower.streams refl refl refl) folds.1;
        acked = settled_acked left.acked left.lost;
        more = holds.ack time space ack s;
      }

  tied_packet : (time : ℕ) (form : Form) (fs : List FrameValue) (s : View t) → IsSealable time s form fs → Ends s →
      let n : ℕ = next_number s.numbers (number_space form) in
      let size : ℕ = packet_size s form fs in
      Tied More (did.Sealed (number_space form) n (epoch_in s.keys form) (is_early form) fs ∷ []) (if s.waiting.close_owed then [] else Sent (number_space form) n (flown_packet time size fs) ∷ []) s
      (state_move (Seal time form n size fs) (state_move (Take (number_space form) fs) s))
  unfolding state_move lower_move streams_stepped datagrams_stepped waiting_move waiting_without frames_sealed ids_stepped
  tied_packet time form fs s may ends =
      let space : SpaceId = number_space form in
      let n : ℕ = next_number s.numbers space in
      let size : ℕ = packet_size s form fs in
      let owed : Bool = s.waiting.close_owed in
      record {
        steps = sealed_steps fs;
        leads = flown_streams owed (state_move (Take space fs) s).lower space n (flown_packet time size fs);
        are = sealed_are space n (epoch_in s.keys form) (is_early form) fs s.lower.streams may.takes;
        acked = owed_unacked t.C owed space n (flown_packet time size fs) (sealed_steps fs) (kind_unacked is_sealed sealed_unacked (sealed_steps fs) (sealed_all fs));
        more = holds.seal time form fs s may ends;
      }

  -- ---- inputs

  over_next : (ds es : List Did) (calls others : List (Input × TraceStep)) (told later : List StreamEvent) (u v w : View t) → (OnlyDoneWaits u.life → OnlyDoneWaits v.life) →
      Over More m ds calls told u v → Over More m es others later v w → Over More m (ds ++ es) (calls ++ others) (told ++ later) u w
  unfolding covers_next
  over_next ds es calls others told later u v w stays g h =
      let s : StreamsState = u.lower.streams in
      record {
        steps = g.steps ++ h.steps;
        asked = g.asked ++ h.asked;
        leads = h.leads ∙ ap (λ (x : StreamsState). after h.steps x) g.leads ∙ sym (after_append g.steps h.steps s);
        are = are_append g.steps h.steps ds es calls others g.asked h.asked s g.are (subst (λ (x : StreamsState). Are h.steps es others h.asked x) g.leads h.are);
        same = λ done. ap (λ (es : List StreamEvent). es ++ h.asked) (g.same done) ∙ ap (λ (es : List StreamEvent). told ++ es) (h.same (stays done));
        covers = covers_next m ds es u v w g.covers h.covers;
        acked = same_append g.steps h.steps g.covers.steps h.covers.steps g.acked h.acked;
        more = holds.next g.steps h.steps g.covers.steps h.covers.steps u v w g.more h.more;
      }

  -- calls leave what recovery keeps
  called_kept : (xs : List Step) (a : At t) → kept (called_all xs a).state ≡ kept a.state
  unfolding move_to state_move lower_move paths_move streams_stepped
  called_kept [] a = refl
  called_kept (x ∷ xs) a = called_kept xs (move_to (Call x) a)

  called_open : (xs : List Step) (a : At t) → is_open (called_all xs a).state.life.state ≡ is_open a.state.life.state
  unfolding move_to state_move life_move
  called_open [] a = refl
  called_open (x ∷ xs) a = called_open xs (move_to (Call x) a)

  -- what an input does before anything is reported
  abbrev Does : Input → TraceStep → Choice → View t → Type 0
  Does i x choice s = let b : At t = input_after m i choice (began s (time_of i)) in Over More m b.did ((i, x) ∷ []) [] s b.state

  other_does : (i : Input) (x : TraceStep) (choice : Choice) (s : View t) → is_called i ≡ false → IsAllowed m i choice (began s (time_of i)) → Ends s → Does i x choice s
  unfolding began state_move lower_move paths_move life_move frames_sealed ids_stepped
  other_does i x choice s uncalled may ends =
      let a : At t = began s (time_of i) in
      let none : is_streams_call i ≡ false = uncalled_streams i uncalled in
      let b : At t = input_after m i choice a in
      let both = other_part m (Tied More) IsUncalled (λ y u. u) tied_none tied_next tied_move tied_ack tied_packet i choice a uncalled may (began_ends s (time_of i) ends) in
      let part = both.1 in
      let tied : Tied More part.since part.steps a.state b.state = part.also in
      let makes : [] ≡ calls_of i choice.read (after tied.steps s.lower.streams) = none_called i choice.read (after tied.steps s.lower.streams) none in
      subst (λ (ds : List Did). Over More m ds ((i, x) ∷ []) [] s b.state) (sym part.appended)
      (record {
        steps = tied.steps;
        asked = [];
        leads = tied.leads;
        are = other_are i x choice.read tied.steps part.since s.lower.streams none makes tied.are;
        same = λ done. refl;
        covers = record { steps = part.steps; fold = fold_from m part.since part.steps s a.state b.state b.state refl refl part.fold; hears = part.hears };
        acked = tied.acked;
        more = holds.next [] tied.steps [] part.steps s a.state b.state (holds.quiet [] s a.state (inl refl) refl refl) tied.more;
      })

  -- a call of the datagrams makes none of the streams
  post_does : (step : datagrams.Step) (i : Input) (x : TraceStep) (choice : Choice) (s : View t) → is_streams_call i ≡ false → let b : At t = move_to (Post step) (began s (time_of i)) in Over More m b.did ((i, x) ∷ []) [] s b.state
  unfolding began move_to state_move lower_move paths_move life_move deeds_move datagrams_stepped after acked_steps frames_sealed ids_stepped
  post_does step i x choice s none =
      let makes : [] ≡ calls_of i choice.read s.lower.streams = none_called i choice.read s.lower.streams none in
      record {
        steps = [];
        asked = [];
        leads = refl;
        are = other_are i x choice.read [] [] s.lower.streams none makes (none_are s.lower.streams);
        same = λ done. refl;
        covers = covers_same m s (move_to (Post step) (began s (time_of i))).state refl;
        acked = refl;
        more = holds.quiet [] s (move_to (Post step) (began s (time_of i))).state (inl refl) refl refl;
      }

  -- nor do ids that are given
  issue_does : (time : ℕ) (given : List IssuedCid) (i : Input) (x : TraceStep) (choice : Choice) (s : View t) → is_streams_call i ≡ false → let b : At t = move_to (Issue time given) (began s (time_of i)) in Over More m b.did ((i, x) ∷ []) [] s b.state
  unfolding began move_to state_move lower_move paths_move life_move deeds_move ids_stepped after acked_steps
  issue_does time given i x choice s none =
      let makes : [] ≡ calls_of i choice.read s.lower.streams = none_called i choice.read s.lower.streams none in
      record {
        steps = [];
        asked = [];
        leads = refl;
        are = other_are i x choice.read [] [] s.lower.streams none makes (none_are s.lower.streams);
        same = λ done. refl;
        covers = covers_same m s (move_to (Issue time given) (began s (time_of i))).state refl;
        acked = refl;
        more = holds.quiet [] s (move_to (Issue time given) (began s (time_of i))).state (inl refl) refl refl;
      }

  input_does : (i : Input) (x : TraceStep) (choice : Choice) (s : View t) → IsAllowed m i choice (began s (time_of i)) → x.answer ≡ answer_of m i choice (began s (time_of i)) → Ends s → Does i x choice s
  unfolding began state_move lower_move paths_move life_move input_after IsAllowed answer_of acked_steps frames_sealed ids_stepped
  input_does (input.Datagram time remote ecn bytes) x choice s may answers ends = other_does (input.Datagram time remote ecn bytes) x choice s refl may ends
  input_does (input.Timeout time) x choice s may answers ends = other_does (input.Timeout time) x choice s refl may ends
  input_does (input.Transmit time max) x choice s may answers ends = other_does (input.Transmit time max) x choice s refl may ends
  input_does (input.Close time code reason) x choice s may answers ends = other_does (input.Close time code reason) x choice s refl may ends
  input_does (input.Ping time) x choice s may answers ends = other_does (input.Ping time) x choice s refl may ends
  input_does (input.Update time) x choice s may answers ends = other_does (input.Update time) x choice s refl may ends
  input_does (input.SendDatagram time body) x choice s may answers ends = post_does (datagrams.Sent (datagram_limit (began s time).state) true body) (input.SendDatagram time body) x choice s refl
  input_does (input.RecvDatagram time) x choice s may answers ends = post_does datagrams.Taken (input.RecvDatagram time) x choice s refl
  input_does (input.Identifiers time given) x choice s may answers ends = issue_does time given (input.Identifiers time given) x choice s refl
  input_does i x choice s may answers ends =
      let a : At t = began s (time_of i) in
      let xs : List Step = calls_of i choice.read s.lower.streams in
      let calls : AreCalls xs s.lower.streams = calls_may i choice.read s.lower.streams may in
      subst (λ (ds : List Did). Over More m ds ((i, x) ∷ []) [] s (called_all xs a).state) (sym (called_did xs a))
      (record {
        steps = xs;
        asked = [];
        leads = called_streams xs a;
        are = calls_are i x choice.read s.lower.streams calls answers;
        same = λ done. refl;
        covers = covers_same m s (called_all xs a).state (called_kept xs a);
        acked = kind_unacked is_call call_unacked xs (calls_all xs s.lower.streams calls);
        more = holds.quiet xs s (called_all xs a).state (inl (calls_all xs s.lower.streams calls)) (called_kept xs a) (called_open xs a);
      })

  -- ---- steps and runs

  step_over : (k : ℕ) (s : View t) (i : Input) (x : TraceStep) (s' : View t) → IsStep m k s i x s' → Ends s → Over More m x.did ((i, x) ∷ []) (streams_told x.events) s s'
  unfolding called run.step_after reported state_move lower_move paths_move life_move events_told streams_stepped datagrams_stepped acked_steps frames_sealed ids_stepped ready_reported connected_reported all_heard_reported lost_reported notice_reported notices_reported drained_reported
  step_over k s i x s' h ends =
      let b : At t = input_after m i h.choice (began s (time_of i)) in
      let told : List StreamEvent = events_of b.state.lower.streams in
      let asks : Over More m [] [] (streams_told x.events) b.state s' = record {
        steps = asked_for (length told);
        asked = told;
        leads = ap (λ (l : Lower t.S). l.streams) h.lower;
        are = asked_are b.state.lower.streams;
        same = λ done. sym (ap streams_told h.events ∙ events_wait b.state done.heard);
        covers = covers_same m b.state s' (kept_same s' (run.step_after m s i h.choice) h.lower h.paths);
        acked = asked_unacked (length told);
        more = holds.quiet (asked_for (length told)) b.state s' (inr (length told, refl)) (kept_same s' (run.step_after m s i h.choice) h.lower h.paths) (ap (λ (l : Life). is_open l.state) h.life);
      } in
      subst (λ (ds : List Did). Over More m ds ((i, x) ∷ []) (streams_told x.events) s s') (append-nil b.did ∙ sym h.deeds)
      (over_next b.did [] ((i, x) ∷ []) [] [] (streams_told x.events) s b.state s' (called_done m s i h.choice h.allowed) (input_does i x h.choice s h.allowed h.answer ends) asks)

  pub run_over : (k : ℕ) (s : View t) (is : List Input) (xs : List TraceStep) (s' : View t) → Run m k s is xs s' → Ends s →
      Over More m (deeds_of xs) (with_steps is xs) (streams_told (events.events_of xs)) s s'
  unfolding Run after acked_steps
  run_over k s [] [] s' r ends = record {
    steps = [];
    asked = [];
    leads = ap (λ (v : View t). v.lower.streams) r;
    are = none_are s.lower.streams;
    same = λ done. refl;
    covers = covers_same m s s' (ap (λ (v : View t). kept v) r);
    acked = refl;
    more = holds.quiet [] s s' (inl refl) (ap (λ (v : View t). kept v) r) (ap (λ (v : View t). is_open v.life.state) r);
  }
  run_over k s (i ∷ is) (x ∷ xs) s' r ends =
      subst (λ (es : List StreamEvent). Over More m (deeds_of (x ∷ xs)) (with_steps (i ∷ is) (x ∷ xs)) es s s') (sym (events_append x.events (events.events_of xs)))
      (over_next x.did (deeds_of xs) ((i, x) ∷ []) (with_steps is xs) (streams_told x.events) (streams_told (events.events_of xs)) s r.0 s' (λ done. step_done m k s i x r.0 r.1)
      (step_over k s i x r.0 r.1 ends) (run_over (k + 1) r.0 is xs s' r.2 (step_ends m k s i x r.0 r.1 ends)))
  run_over k s [] (x ∷ xs) s' r ends = absurd r
  run_over k s (i ∷ is) [] s' r ends = absurd r

  -- what it says of the frames that are acknowledged
  abbrev pub acks_by : (s : View t) (is : List Input) (xs : List TraceStep) (s' : View t) → Over More m (deeds_of xs) (with_steps is xs) (streams_told (events.events_of xs)) s s' → AcksFrames m is xs s s'
  acks_by s is xs s' o = record {
    recovers = recovers_by m (deeds_of xs) s s' o.covers;
    streams = record {
      steps = o.steps;
      may = o.are.may;
      leads = o.leads;
      handed = o.are.handed;
      called = o.are.called;
      closed = o.are.closed;
      told = λ done. subst (λ (es : List StreamEvent). AreMade is_asked MakesEvent es o.steps s.lower.streams) (o.same done) o.are.asked;
      sealed = o.are.sealed;
      only = o.are.only;
    };
    acked = o.acked;
  }

module _ {t : Types} where
  abbrev Nothing : List Step → List (RecoveryStep t.C) → View t → View t → Type 0
  Nothing ys xs s s' = Unit {0}

  nothing_holds : (m : Meaning t) → Holds Nothing m
  nothing_holds m = record {
    quiet = λ ys s s' none same opened. tt;
    next = λ ys zs xs ws u v w g h. tt;
    move = λ x s known plain unacked may. tt;
    ack = λ time space ack s. tt;
    seal = λ time form fs s may ends. tt;
  }

  pub run_acks_frames : (m : Meaning t) (k : ℕ) (s : View t) (is : List Input) (xs : List TraceStep) (s' : View t) → Run m k s is xs s' → Ends s → AcksFrames m is xs s s'
  run_acks_frames m k s is xs s' r ends = acks_by m Nothing (nothing_holds m) s is xs s' (run_over m Nothing (nothing_holds m) k s is xs s' r ends)
