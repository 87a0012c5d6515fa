-- Frames of streams as they are sealed: which of the streams' steps joined lists of frames are, and that they may be made where the frames wait.
use Rattle.std.proofs.Common.{◌≡◌, ℕ, zero, suc, List, [], ◌∷◌, ◌++◌, replicate, refl, ap, sym, ◌∙◌, subst, Bool, true, false, if◌then◌else◌, Option, Some, None, append_assoc, append-nil}
use Rattle.qc_base.specs.declared.side.SpaceId.{SpaceId}
use Rattle.qc_base.specs.declared.side.SpaceId.TheVariants.{Initial, Handshake, «Data»}
use Rattle.qc_frame.specs.Frame.{FrameValue}
use Rattle.qc_frame.specs.declared.frames.FrameOf.TheVariants as frames
use Rattle.qc_streams.specs.Carried.{IsAnswered}
use Rattle.qc_streams.specs.Steps.{AllMay, IsSealedSo}
use Rattle.qc_streams.specs.Waits.{IsPossible, Step, after}
use Rattle.qc_streams.specs.Within.{IsTaken}
use Rattle.qc_streams.specs.declared.state.StreamsState.{StreamsState}
use Rattle.qc_streams.proofs.StepsLaw.{may_append}
use Rattle.qc_state.specs.Acks.{AckPart, may_acknowledge}
use Rattle.qc_state.specs.Allowed.{WaitAll, Waits}
use Rattle.qc_state.specs.Forms.{number_space}
use Rattle.qc_state.specs.Life.{is_closed}
use Rattle.qc_state.specs.Lower.{datagrams_stepped, frames_sealed, ids_stepped, streams_stepped}
use Rattle.qc_state.specs.Moves.{Take, lower_move, state_move}
use Rattle.qc_state.specs.Sending.{Carries, Closes, application_close, close_frame, closing_frame, told_close}
use Rattle.qc_state.specs.StreamFrames.{sealed_step, sealed_steps}
use Rattle.qc_state.specs.Types.{TokenMaker, Types}
use Rattle.qc_state.specs.View.{View}
use Rattle.qc_state.specs.declared.form.Form.{Form}
use Rattle.qc_state.specs.declared.life.Close.{Close}
use Rattle.qc_state.specs.declared.life.Close.TheVariants.{Connection, Application}
use Rattle.qc_state.specs.declared.waiting.SpaceWaiting.{SpaceWaiting}

-- ---- which steps they are

pub sealed_append : (fs gs : List FrameValue) → sealed_steps (fs ++ gs) ≡ sealed_steps fs ++ sealed_steps gs
unfolding sealed_steps
sealed_append [] gs = refl
sealed_append (f ∷ fs) gs = ap (λ (xs : List Step). sealed_step f ++ xs) (sealed_append fs gs) ∙ sym (append_assoc (sealed_step f) (sealed_steps fs) (sealed_steps gs))

pub sealed_padding : (n : ℕ) → sealed_steps (replicate n frames.Padding) ≡ []
unfolding sealed_steps
sealed_padding zero = refl
sealed_padding (suc n) = sealed_padding n

-- PADDING is none
pub sealed_padded : (fs : List FrameValue) (n : ℕ) → sealed_steps (fs ++ replicate n frames.Padding) ≡ sealed_steps fs
sealed_padded fs n = sealed_append fs (replicate n frames.Padding) ∙ ap (λ (xs : List Step). sealed_steps fs ++ xs) (sealed_padding n) ∙ append-nil (sealed_steps fs)

-- an ACK is none
pub sealed_ack : (time room : ℕ) (w : SpaceWaiting) (fs : List FrameValue) (b : Bool) → AckPart time w room fs b → sealed_steps fs ≡ []
unfolding sealed_steps
sealed_ack time room w fs true (AckPart.one ack says fits is) = ap sealed_steps is
sealed_ack time room w fs true (AckPart.left_out ack says long is) = ap sealed_steps is
sealed_ack time room w fs false (AckPart.none is) = ap sealed_steps is

-- nor is a close
sealed_application : (id : SpaceId) (code : ℕ) (kept : List ℕ) → sealed_step (application_close id code kept) ≡ []
sealed_application Initial code kept = refl
sealed_application Handshake code kept = refl
sealed_application Data code kept = refl

pub sealed_closing : (id : SpaceId) (kept : List ℕ) (b : Bool) (c : Option Close) → sealed_step (if b then told_close id kept c else close_frame 0x00 None) ≡ []
sealed_closing id kept true None = refl
sealed_closing id kept true (Some (Connection c)) = refl
sealed_closing id kept true (Some (Application c)) = sealed_application id c.error_code kept
sealed_closing id kept false c = refl

-- ---- that they may be made

pub none_may : (fs : List FrameValue) (s : StreamsState) → sealed_steps fs ≡ [] → AllMay (sealed_steps fs) s
unfolding AllMay
none_may fs s none = subst (λ (xs : List Step). AllMay xs s) (sym none) tt

module _ {t : Types} where
  -- nothing that a close and its ACK hold is a step
  pub sealed_close : (time : ℕ) (s : View t) (id : SpaceId) (room : ℕ) (fs : List FrameValue) → Closes time s id room fs → sealed_steps fs ≡ []
  unfolding sealed_steps
  sealed_close time s id room fs (Closes.closing acks part kept reason is) =
      ap sealed_steps is ∙ sealed_append acks (closing_frame id kept s.life ∷ [])
      ∙ ap (λ (xs : List Step). xs ++ (sealed_step (closing_frame id kept s.life) ++ [])) (sealed_ack time _ _ acks (may_acknowledge _) part)
      ∙ ap (λ (xs : List Step). xs ++ []) (sealed_closing id kept (is_closed s.life.state) s.life.close)

  -- what one that is taken leaves of the streams
  taken_streams : (id : SpaceId) (f : FrameValue) (s : View t) → (state_move (Take id (f ∷ [])) s).lower.streams ≡ after (sealed_step f) s.lower.streams
  unfolding state_move lower_move frames_sealed streams_stepped datagrams_stepped ids_stepped sealed_steps
  taken_streams id f s = ap (λ (xs : List Step). after xs s.lower.streams) (append-nil (sealed_step f))

module _ {t : Types} (maker : TokenMaker t) where
  -- a frame that waits may be sealed
  waits_may : (time : ℕ) (s : View t) (id : SpaceId) (f : FrameValue) → Waits maker time s id f → AllMay (sealed_step f) s.lower.streams
  unfolding Waits AllMay IsPossible IsTaken IsAnswered IsSealedSo
  waits_may time s id (frames.Stream stream offset fin body) h = (record { possible = tt; taken = tt; answered = tt; sealed = h.1 }, tt)
  waits_may time s id (frames.ResetStream stream code size) h = (record { possible = tt; taken = tt; answered = tt; sealed = h.1 }, tt)
  waits_may time s id (frames.StopSending stream code) h = (record { possible = tt; taken = tt; answered = tt; sealed = h.1 }, tt)
  waits_may time s id (frames.MaxData limit) h = (record { possible = tt; taken = tt; answered = tt; sealed = h.1 }, tt)
  waits_may time s id (frames.MaxStreamData stream limit) h = (record { possible = tt; taken = tt; answered = tt; sealed = h.1 }, tt)
  waits_may time s id (frames.MaxStreams dir limit) h = (record { possible = tt; taken = tt; answered = tt; sealed = h.1 }, tt)
  waits_may time s id _ h = tt

  -- so may frames that wait, each as its turn comes
  wait_may : (time : ℕ) (s : View t) (id : SpaceId) (fs : List FrameValue) → WaitAll maker time s id fs → AllMay (sealed_steps fs) s.lower.streams
  unfolding WaitAll sealed_steps AllMay
  wait_may time s id [] h = tt
  wait_may time s id (f ∷ fs) h =
      may_append (sealed_step f) (sealed_steps fs) s.lower.streams (waits_may time s id f h.0)
      (subst (λ (x : StreamsState). AllMay (sealed_steps fs) x) (taken_streams id f s) (wait_may time (state_move (Take id (f ∷ [])) s) id fs h.1))

  -- and what a packet carries
  pub carried_may : (closing : Bool) (time : ℕ) (s : View t) (form : Form) (room : ℕ) (fs : List FrameValue) → Carries maker closing time s form room fs → AllMay (sealed_steps fs) s.lower.streams
  carried_may closing time s form room fs (Carries.a_close owed gs n holds is) =
      none_may fs s.lower.streams (ap sealed_steps is ∙ sealed_padded gs n ∙ sealed_close time s (number_space form) room gs holds)
  carried_may closing time s form room fs (Carries.what_waits free gs n wait is) =
      subst (λ (xs : List Step). AllMay xs s.lower.streams) (sym (ap sealed_steps is ∙ sealed_padded gs n)) (wait_may time s (number_space form) gs wait)
