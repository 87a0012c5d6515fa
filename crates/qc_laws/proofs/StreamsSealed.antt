-- Steps with which frames of streams are sealed, acknowledged and lost: of which kind they are, and that those may be made that settle them.
use Rattle.std.proofs.Common.{◌≡◌, List, [], ◌∷◌, ◌++◌, refl, ap, sym, ◌∙◌, Bool, true, false, if◌then◌else◌, Option, Some, None, append_assoc}
use Rattle.std.proofs.lemmas.List.Folds.{list_all-append}
use Rattle.std.specs.Prelude.{◌==◌, filter, map}
use Rattle.std.specs.List.{list_all, list_any}
use Rattle.qc_base.specs.declared.side.SpaceId.{SpaceId}
use Rattle.qc_base.specs.declared.side.SpaceId.TheVariants.{Initial, Handshake, «Data»}
use Rattle.qc_flight.specs.Packets.{Entry}
use Rattle.qc_flight.specs.declared.sent.SentPacket.{SentPacket}
use Rattle.qc_flight.specs.declared.stream_frames.StreamMeta.{StreamMeta}
use Rattle.qc_frame.specs.Frame.{FrameValue}
use Rattle.qc_frame.specs.declared.frames.FrameOf.TheVariants as frames
use Rattle.qc_recovery.specs.declared.calls.Fired.{Fired}
use Rattle.qc_recovery.specs.declared.calls.Fired.TheVariants as fired
use Rattle.qc_streams.specs.Carried.{IsAnswered}
use Rattle.qc_streams.specs.Steps.{AllMay, IsSealedSo, MayStep}
use Rattle.qc_streams.specs.Waits.{IsPossible, Step, BytesAcked, BytesLost, ControlAcked, ControlLost, ControlSealed, MarksFiled, PartSealed, after_step}
use Rattle.qc_streams.specs.Within.{IsTaken}
use Rattle.qc_streams.specs.declared.control.Control.{Control}
use Rattle.qc_streams.specs.declared.state.StreamsState.{StreamsState}
use Rattle.qc_state.specs.declared.deeds.Did.{Did}
use Rattle.qc_state.specs.declared.deeds.Did.TheVariants as did
use Rattle.qc_state.specs.Moves.{is_call}
use Rattle.qc_state.specs.Offers.{again_steps, begun_steps, oldest_in, probe_steps, wants_sending}
use Rattle.qc_state.specs.Spaces.{space_of}
use Rattle.qc_state.specs.StreamFrames.{acked_steps, control_of, control_step, controls_acked, controls_lost, filed_steps, fired_steps, lost_steps, meta_acked, meta_lost, packet_acked, packet_lost, sealed_step, sealed_steps}
use Rattle.qc_state.specs.Types.{Types}
use Rattle.qc_state.specs.View.{View}
use Rattle.qc_state.specs.Waiting.{probe_spent}
use Rattle.qc_laws.specs.StreamsLaws.{NoneOf, frames_sealed, is_asked, is_came, is_closing, is_other, is_sealed, is_settled}
use Rattle.qc_laws.proofs.HarmlessTests.{both, first_holds, second_holds}
use Rattle.qc_laws.proofs.ReadSteps.{or_first, or_rest}

-- ---- deeds

pub frames_append : (ds es : List Did) → frames_sealed (ds ++ es) ≡ frames_sealed ds ++ frames_sealed es
frames_append [] es = refl
frames_append (did.Sealed space n epoch early fs ∷ ds) es = ap (λ (gs : List FrameValue). fs ++ gs) (frames_append ds es) ∙ sym (append_assoc fs (frames_sealed ds) (frames_sealed es))
frames_append (did.Piece space number v ∷ ds) es = frames_append ds es
frames_append (did.Gave to body ∷ ds) es = frames_append ds es
frames_append (did.Rose life ∷ ds) es = frames_append ds es
frames_append (did.Lost why ∷ ds) es = frames_append ds es
frames_append (did.Quiet why ∷ ds) es = frames_append ds es

-- ---- steps of one kind

pub none_sealed : (xs : List Step) → NoneOf is_sealed xs → filter is_sealed xs ≡ []
none_sealed [] h = refl
none_sealed (x ∷ xs) h =
    ap (λ (b : Bool). if b then x ∷ filter is_sealed xs else filter is_sealed xs) (or_first (is_sealed x) (list_any is_sealed xs) h) ∙ none_sealed xs (or_rest (is_sealed x) (list_any is_sealed xs) h)

pub all_sealed : (xs : List Step) → list_all is_sealed xs ≡ true → filter is_sealed xs ≡ xs
all_sealed [] h = refl
all_sealed (x ∷ xs) h =
    ap (λ (b : Bool). if b then x ∷ filter is_sealed xs else filter is_sealed xs) (first_holds (is_sealed x) (list_all is_sealed xs) h)
    ∙ ap (λ (ys : List Step). x ∷ ys) (all_sealed xs (second_holds (is_sealed x) (list_all is_sealed xs) h))

-- a step is of no kind but sealing and settling
pub record IsApart (x : Step) : Type 0 where
  pub came : is_came x ≡ false
  pub call : is_call x ≡ false
  pub closing : is_closing x ≡ false
  pub asked : is_asked x ≡ false
  pub other : is_other x ≡ false

pub sealed_apart : (x : Step) → is_sealed x ≡ true → IsApart x
sealed_apart (ControlSealed c) h = record { came = refl; call = refl; closing = refl; asked = refl; other = refl }
sealed_apart (PartSealed d) h = record { came = refl; call = refl; closing = refl; asked = refl; other = refl }
sealed_apart _ h = absurd cc

pub settled_apart : (x : Step) → is_settled x ≡ true → IsApart x
settled_apart MarksFiled h = record { came = refl; call = refl; closing = refl; asked = refl; other = refl }
settled_apart (ControlLost c) h = record { came = refl; call = refl; closing = refl; asked = refl; other = refl }
settled_apart (ControlAcked c) h = record { came = refl; call = refl; closing = refl; asked = refl; other = refl }
settled_apart (BytesLost id start end last) h = record { came = refl; call = refl; closing = refl; asked = refl; other = refl }
settled_apart (BytesAcked id start end last) h = record { came = refl; call = refl; closing = refl; asked = refl; other = refl }
settled_apart _ h = absurd cc

pub settled_unsealed : (x : Step) → is_settled x ≡ true → is_sealed x ≡ false
settled_unsealed (ControlSealed c) h = cc
settled_unsealed (PartSealed d) h = cc
settled_unsealed _ h = refl

-- ---- frames are sealed

control_sealed : (o : Option Control) → list_all is_sealed (control_step ControlSealed o) ≡ true
control_sealed None = refl
control_sealed (Some c) = refl

frame_sealed : (f : FrameValue) → list_all is_sealed (sealed_step f) ≡ true
frame_sealed (frames.Stream id offset fin body) = refl
frame_sealed f = control_sealed (control_of f)

pub sealed_all : (fs : List FrameValue) → list_all is_sealed (sealed_steps fs) ≡ true
unfolding sealed_steps
sealed_all [] = refl
sealed_all (f ∷ fs) = list_all-append is_sealed (sealed_step f) (sealed_steps fs) ∙ both (list_all is_sealed (sealed_step f)) (list_all is_sealed (sealed_steps fs)) (frame_sealed f) (sealed_all fs)

-- ---- frames are acknowledged and lost

-- each of these steps may be made
step_may : (x : Step) (s : StreamsState) → is_settled x ≡ true → MayStep x s
unfolding IsPossible IsTaken IsAnswered IsSealedSo
step_may MarksFiled s h = record { possible = tt; taken = tt; answered = tt; sealed = tt }
step_may (ControlLost c) s h = record { possible = tt; taken = tt; answered = tt; sealed = tt }
step_may (ControlAcked c) s h = record { possible = tt; taken = tt; answered = tt; sealed = tt }
step_may (BytesLost id start end last) s h = record { possible = tt; taken = tt; answered = tt; sealed = tt }
step_may (BytesAcked id start end last) s h = record { possible = tt; taken = tt; answered = tt; sealed = tt }
step_may _ s h = absurd cc

pub settled_may : (xs : List Step) (s : StreamsState) → list_all is_settled xs ≡ true → AllMay xs s
unfolding AllMay
settled_may [] s h = tt
settled_may (x ∷ xs) s h = (step_may x s (first_holds (is_settled x) (list_all is_settled xs) h), settled_may xs (after_step x s) (second_holds (is_settled x) (list_all is_settled xs) h))

pub settled_append : (xs ys : List Step) → list_all is_settled xs ≡ true → list_all is_settled ys ≡ true → list_all is_settled (xs ++ ys) ≡ true
settled_append xs ys h k = list_all-append is_settled xs ys ∙ both (list_all is_settled xs) (list_all is_settled ys) h k

control_acked : (o : Option Control) → list_all is_settled (control_step ControlAcked o) ≡ true
control_acked None = refl
control_acked (Some c) = refl

control_lost : (o : Option Control) → list_all is_settled (control_step ControlLost o) ≡ true
control_lost None = refl
control_lost (Some c) = refl

frames_acked : (fs : List FrameValue) → list_all is_settled (controls_acked fs) ≡ true
frames_acked [] = refl
frames_acked (f ∷ fs) = settled_append (control_step ControlAcked (control_of f)) (controls_acked fs) (control_acked (control_of f)) (frames_acked fs)

frames_lost : (fs : List FrameValue) → list_all is_settled (controls_lost fs) ≡ true
frames_lost [] = refl
frames_lost (f ∷ fs) = settled_append (control_step ControlLost (control_of f)) (controls_lost fs) (control_lost (control_of f)) (frames_lost fs)

metas_acked : (ms : List StreamMeta) → list_all is_settled (map meta_acked ms) ≡ true
metas_acked [] = refl
metas_acked (m ∷ ms) = metas_acked ms

metas_lost : (ms : List StreamMeta) → list_all is_settled (map meta_lost ms) ≡ true
metas_lost [] = refl
metas_lost (m ∷ ms) = metas_lost ms

packet_loses : (packet : SentPacket) → list_all is_settled (packet_lost packet) ≡ true
unfolding packet_lost
packet_loses packet = settled_append (controls_lost packet.frames) (map meta_lost packet.stream_frames) (frames_lost packet.frames) (metas_lost packet.stream_frames)

pub acked_all : (es : List Entry) → list_all is_settled (acked_steps es) ≡ true
unfolding acked_steps
acked_all [] = refl
acked_all (e ∷ es) =
    settled_append (packet_acked e.1) (acked_steps es) (settled_append (controls_acked e.1.frames) (map meta_acked e.1.stream_frames) (frames_acked e.1.frames) (metas_acked e.1.stream_frames)) (acked_all es)

lost_all : (es : List Entry) → list_all is_settled (lost_steps es) ≡ true
unfolding lost_steps
lost_all [] = refl
lost_all (e ∷ es) = settled_append (packet_lost e.1) (lost_steps es) (packet_loses e.1) (lost_all es)

-- those of an acknowledgement, of the loss timer, and of a packet that is begun
pub settled_all : (acked lost : List Entry) → list_all is_settled (acked_steps acked ++ lost_steps lost) ≡ true
settled_all acked lost = settled_append (acked_steps acked) (lost_steps lost) (acked_all acked) (lost_all lost)

pub fired_all : (f : Fired) → list_all is_settled (fired_steps f) ≡ true
fired_all (fired.Lost id lost) = lost_all lost
fired_all (fired.Probe id count) = refl
fired_all fired.Nothing = refl

again_all : (b : Bool) (o : Option SentPacket) → list_all is_settled (if b then [] else again_steps o) ≡ true
again_all true o = refl
again_all false None = refl
again_all false (Some packet) = packet_loses packet

filed_all : (id : SpaceId) → list_all is_settled (filed_steps id) ≡ true
filed_all Initial = refl
filed_all Handshake = refl
filed_all Data = refl

module _ {t : Types} where
  probe_all : (b : Bool) (id : SpaceId) (s : View t) → list_all is_settled (if b then [] else probe_steps id s) ≡ true
  unfolding probe_steps
  probe_all true id s = refl
  probe_all false id s = again_all (wants_sending s id) (oldest_in s id)

  pub begun_all : (id : SpaceId) (opens : Bool) (s : View t) → list_all is_settled (begun_steps id opens s) ≡ true
  unfolding begun_steps
  begun_all id opens s =
      let probed : View t = if opens then record s { waiting = probe_spent s.waiting id } else s in
      let due : Bool = (space_of s.waiting.spaces id).probes == 0 in
      settled_append (if due then [] else probe_steps id probed) (filed_steps id) (probe_all due id probed) (filed_all id)
