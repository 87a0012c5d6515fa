-- DATAGRAM frames as they are sealed: which of the datagrams' steps joined lists of frames are, and that each holds the oldest datagram.
use Rattle.std.proofs.Common.{◌≡◌, ℕ, zero, suc, List, [], ◌∷◌, ◌++◌, replicate, refl, ap, sym, ◌∙◌, subst, Bool, true, false, if◌then◌else◌, Option, Some, None, append_assoc, append-nil}
use Rattle.qc_base.specs.declared.side.SpaceId.{SpaceId}
use Rattle.qc_base.specs.declared.side.SpaceId.TheVariants.{Initial, Handshake, «Data»}
use Rattle.qc_datagrams.specs.Steps.{Step, after, after_step}
use Rattle.qc_datagrams.specs.declared.datagrams.Datagrams.{Datagrams}
use Rattle.qc_frame.specs.Frame.{FrameValue}
use Rattle.qc_frame.specs.declared.frames.FrameOf.TheVariants as frames
use Rattle.qc_state.specs.Acks.{AckPart, may_acknowledge}
use Rattle.qc_state.specs.Allowed.{WaitAll, Waits}
use Rattle.qc_state.specs.Datagrams.{AllOldest, IsOldest, sealed_datagram, sealed_datagrams}
use Rattle.qc_state.specs.Forms.{number_space}
use Rattle.qc_state.specs.Life.{is_closed}
use Rattle.qc_state.specs.Lower.{datagrams_stepped, frames_sealed, ids_stepped, streams_stepped}
use Rattle.qc_state.specs.Moves.{Take, lower_move, state_move}
use Rattle.qc_state.specs.Sending.{Carries, Closes, application_close, close_frame, closing_frame, told_close}
use Rattle.qc_state.specs.Types.{TokenMaker, Types}
use Rattle.qc_state.specs.View.{View}
use Rattle.qc_state.specs.declared.form.Form.{Form}
use Rattle.qc_state.specs.declared.life.Close.{Close}
use Rattle.qc_state.specs.declared.life.Close.TheVariants.{Connection, Application}
use Rattle.qc_state.specs.declared.waiting.SpaceWaiting.{SpaceWaiting}

-- ---- which steps they are

-- what joined steps leave
pub posts_append : (xs ys : List Step) (d : Datagrams) → after (xs ++ ys) d ≡ after ys (after xs d)
unfolding after
posts_append [] ys d = refl
posts_append (x ∷ xs) ys d = posts_append xs ys (after_step x d)

pub datagrams_append : (fs gs : List FrameValue) → sealed_datagrams (fs ++ gs) ≡ sealed_datagrams fs ++ sealed_datagrams gs
unfolding sealed_datagrams
datagrams_append [] gs = refl
datagrams_append (f ∷ fs) gs =
    ap (λ (xs : List Step). sealed_datagram f ++ xs) (datagrams_append fs gs) ∙ sym (append_assoc (sealed_datagram f) (sealed_datagrams fs) (sealed_datagrams gs))

pub datagrams_padding : (n : ℕ) → sealed_datagrams (replicate n frames.Padding) ≡ []
unfolding sealed_datagrams
datagrams_padding zero = refl
datagrams_padding (suc n) = datagrams_padding n

-- PADDING is none
pub datagrams_padded : (fs : List FrameValue) (n : ℕ) → sealed_datagrams (fs ++ replicate n frames.Padding) ≡ sealed_datagrams fs
datagrams_padded fs n =
    datagrams_append fs (replicate n frames.Padding) ∙ ap (λ (xs : List Step). sealed_datagrams fs ++ xs) (datagrams_padding n) ∙ append-nil (sealed_datagrams fs)

-- an ACK is none
pub datagrams_ack : (time room : ℕ) (w : SpaceWaiting) (fs : List FrameValue) (b : Bool) → AckPart time w room fs b → sealed_datagrams fs ≡ []
unfolding sealed_datagrams
datagrams_ack time room w fs true (AckPart.one ack says fits is) = ap sealed_datagrams is
datagrams_ack time room w fs true (AckPart.left_out ack says long is) = ap sealed_datagrams is
datagrams_ack time room w fs false (AckPart.none is) = ap sealed_datagrams is

-- nor is a close
datagrams_application : (id : SpaceId) (code : ℕ) (kept : List ℕ) → sealed_datagram (application_close id code kept) ≡ []
datagrams_application Initial code kept = refl
datagrams_application Handshake code kept = refl
datagrams_application Data code kept = refl

pub datagrams_closing : (id : SpaceId) (kept : List ℕ) (b : Bool) (c : Option Close) → sealed_datagram (if b then told_close id kept c else close_frame 0x00 None) ≡ []
datagrams_closing id kept true None = refl
datagrams_closing id kept true (Some (Connection c)) = refl
datagrams_closing id kept true (Some (Application c)) = datagrams_application id c.error_code kept
datagrams_closing id kept false c = refl

-- ---- that each holds the oldest datagram

pub oldest_append : (fs gs : List FrameValue) (d : Datagrams) → AllOldest fs d → AllOldest gs (after (sealed_datagrams fs) d) → AllOldest (fs ++ gs) d
unfolding AllOldest sealed_datagrams after
oldest_append [] gs d h k = k
oldest_append (f ∷ fs) gs d h k =
    (h.0, oldest_append fs gs (after (sealed_datagram f) d) h.1 (subst (λ (x : Datagrams). AllOldest gs x) (posts_append (sealed_datagram f) (sealed_datagrams fs) d) k))

-- of joined lists each part is so
pub oldest_first : (fs gs : List FrameValue) (d : Datagrams) → AllOldest (fs ++ gs) d → AllOldest fs d
unfolding AllOldest
oldest_first [] gs d h = tt
oldest_first (f ∷ fs) gs d h = (h.0, oldest_first fs gs (after (sealed_datagram f) d) h.1)

oldest_behind : (fs gs : List FrameValue) (d : Datagrams) → AllOldest (fs ++ gs) d → AllOldest gs (after (sealed_datagrams fs) d)
unfolding AllOldest sealed_datagrams after
oldest_behind [] gs d h = h
oldest_behind (f ∷ fs) gs d h =
    subst (λ (x : Datagrams). AllOldest gs x) (sym (posts_append (sealed_datagram f) (sealed_datagrams fs) d)) (oldest_behind fs gs (after (sealed_datagram f) d) h.1)

-- frames without a DATAGRAM
pub oldest_none : (fs : List FrameValue) (d : Datagrams) → sealed_datagrams fs ≡ [] → AllOldest fs d
unfolding AllOldest sealed_datagrams after
oldest_none [] d none = tt
oldest_none (frames.Datagram body ∷ fs) d none = absurd (cc)
oldest_none (_ ∷ fs) d none = (tt, oldest_none fs d none)

-- in front of others, and behind them
pub none_before : (fs gs : List FrameValue) (d : Datagrams) → sealed_datagrams fs ≡ [] → AllOldest gs d → AllOldest (fs ++ gs) d
unfolding after
none_before fs gs d none h = oldest_append fs gs d (oldest_none fs d none) (subst (λ (xs : List Step). AllOldest gs (after xs d)) (sym none) h)

pub none_behind : (fs gs : List FrameValue) (d : Datagrams) → sealed_datagrams gs ≡ [] → AllOldest fs d → AllOldest (fs ++ gs) d
none_behind fs gs d none h = oldest_append fs gs d h (oldest_none gs (after (sealed_datagrams fs) d) none)

pub behind_none : (fs gs : List FrameValue) (d : Datagrams) → sealed_datagrams fs ≡ [] → AllOldest (fs ++ gs) d → AllOldest gs d
unfolding after
behind_none fs gs d none h = subst (λ (xs : List Step). AllOldest gs (after xs d)) none (oldest_behind fs gs d h)

module _ {t : Types} where
  -- nothing that a close and its ACK hold is a DATAGRAM
  pub datagrams_close : (time : ℕ) (s : View t) (id : SpaceId) (room : ℕ) (fs : List FrameValue) → Closes time s id room fs → sealed_datagrams fs ≡ []
  unfolding sealed_datagrams
  datagrams_close time s id room fs (Closes.closing acks part kept reason is) =
      ap sealed_datagrams is ∙ datagrams_append acks (closing_frame id kept s.life ∷ [])
      ∙ ap (λ (xs : List Step). xs ++ (sealed_datagram (closing_frame id kept s.life) ++ [])) (datagrams_ack time _ _ acks (may_acknowledge _) part)
      ∙ ap (λ (xs : List Step). xs ++ []) (datagrams_closing id kept (is_closed s.life.state) s.life.close)

  -- what a frame that is taken leaves of the datagrams
  pub taken_datagrams : (id : SpaceId) (f : FrameValue) (s : View t) → (state_move (Take id (f ∷ [])) s).lower.datagrams ≡ after (sealed_datagram f) s.lower.datagrams
  unfolding state_move lower_move frames_sealed streams_stepped datagrams_stepped ids_stepped sealed_datagrams
  taken_datagrams id f s = ap (λ (xs : List Step). after xs s.lower.datagrams) (append-nil (sealed_datagram f))

module _ {t : Types} (maker : TokenMaker t) where
  -- a DATAGRAM that waits holds the oldest datagram
  waits_oldest : (time : ℕ) (s : View t) (id : SpaceId) (f : FrameValue) → Waits maker time s id f → IsOldest f s.lower.datagrams
  unfolding Waits
  waits_oldest time s id (frames.Datagram body) h = h.1
  waits_oldest time s id _ h = tt

  wait_oldest : (time : ℕ) (s : View t) (id : SpaceId) (fs : List FrameValue) → WaitAll maker time s id fs → AllOldest fs s.lower.datagrams
  unfolding WaitAll AllOldest
  wait_oldest time s id [] h = tt
  wait_oldest time s id (f ∷ fs) h =
      (waits_oldest time s id f h.0, subst (λ (x : Datagrams). AllOldest fs x) (taken_datagrams id f s) (wait_oldest time (state_move (Take id (f ∷ [])) s) id fs h.1))

  -- so it is with what a packet carries
  pub carried_oldest : (closing : Bool) (time : ℕ) (s : View t) (form : Form) (room : ℕ) (fs : List FrameValue) → Carries maker closing time s form room fs → AllOldest fs s.lower.datagrams
  carried_oldest closing time s form room fs (Carries.a_close owed gs n holds is) =
      oldest_none fs s.lower.datagrams (ap sealed_datagrams is ∙ datagrams_padded gs n ∙ datagrams_close time s (number_space form) room gs holds)
  carried_oldest closing time s form room fs (Carries.what_waits free gs n wait is) =
      subst (λ (xs : List FrameValue). AllOldest xs s.lower.datagrams) (sym is)
      (none_behind gs (replicate n frames.Padding) s.lower.datagrams (datagrams_padding n) (wait_oldest time s (number_space form) gs wait))
