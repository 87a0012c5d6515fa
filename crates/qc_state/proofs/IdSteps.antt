-- Frames about connection ids as they are sealed: which of the ids' steps joined lists of frames are, and that each is the one that goes next.
use Rattle.std.proofs.Common.{◌≡◌, ℕ, zero, suc, List, [], ◌∷◌, ◌++◌, replicate, refl, ap, sym, ◌∙◌, subst, Bool, true, false, if◌then◌else◌, Option, Some, None, append_assoc, append-nil}
use Rattle.qc_base.specs.declared.side.SpaceId.{SpaceId}
use Rattle.qc_base.specs.declared.side.SpaceId.TheVariants.{Initial, Handshake, «Data»}
use Rattle.qc_cids.specs.Steps.{Step, after}
use Rattle.qc_cids.specs.declared.connection_ids.ConnectionIds.{ConnectionIds}
use Rattle.qc_frame.specs.Frame.{FrameValue}
use Rattle.qc_frame.specs.declared.frames.FrameOf.TheVariants as frames
use Rattle.qc_state.proofs.IdsSettled.{after_append}
use Rattle.qc_state.specs.Acks.{AckPart, may_acknowledge}
use Rattle.qc_state.specs.Allowed.{WaitAll, Waits}
use Rattle.qc_state.specs.Ids.{AllNext, IsNext, sealed_cid, sealed_cids}
use Rattle.qc_state.specs.Forms.{number_space}
use Rattle.qc_state.specs.Life.{is_closed}
use Rattle.qc_state.specs.Lower.{datagrams_stepped, frames_sealed, ids_stepped, streams_stepped}
use Rattle.qc_state.specs.Moves.{Take, lower_move, state_move}
use Rattle.qc_state.specs.Sending.{Carries, Closes, application_close, close_frame, closing_frame, told_close}
use Rattle.qc_state.specs.Types.{TokenMaker, Types}
use Rattle.qc_state.specs.View.{View}
use Rattle.qc_state.specs.declared.form.Form.{Form}
use Rattle.qc_state.specs.declared.life.Close.{Close}
use Rattle.qc_state.specs.declared.life.Close.TheVariants.{Connection, Application}
use Rattle.qc_state.specs.declared.waiting.SpaceWaiting.{SpaceWaiting}

-- ---- which steps they are

pub cids_append : (fs gs : List FrameValue) → sealed_cids (fs ++ gs) ≡ sealed_cids fs ++ sealed_cids gs
unfolding sealed_cids
cids_append [] gs = refl
cids_append (f ∷ fs) gs =
    ap (λ (xs : List Step). sealed_cid f ++ xs) (cids_append fs gs) ∙ sym (append_assoc (sealed_cid f) (sealed_cids fs) (sealed_cids gs))

pub cids_padding : (n : ℕ) → sealed_cids (replicate n frames.Padding) ≡ []
unfolding sealed_cids
cids_padding zero = refl
cids_padding (suc n) = cids_padding n

-- PADDING is none
pub cids_padded : (fs : List FrameValue) (n : ℕ) → sealed_cids (fs ++ replicate n frames.Padding) ≡ sealed_cids fs
cids_padded fs n =
    cids_append fs (replicate n frames.Padding) ∙ ap (λ (xs : List Step). sealed_cids fs ++ xs) (cids_padding n) ∙ append-nil (sealed_cids fs)

-- an ACK is none
pub cids_ack : (time room : ℕ) (w : SpaceWaiting) (fs : List FrameValue) (b : Bool) → AckPart time w room fs b → sealed_cids fs ≡ []
unfolding sealed_cids
cids_ack time room w fs true (AckPart.one ack says fits is) = ap sealed_cids is
cids_ack time room w fs true (AckPart.left_out ack says long is) = ap sealed_cids is
cids_ack time room w fs false (AckPart.none is) = ap sealed_cids is

-- nor is a close
cids_application : (id : SpaceId) (code : ℕ) (kept : List ℕ) → sealed_cid (application_close id code kept) ≡ []
cids_application Initial code kept = refl
cids_application Handshake code kept = refl
cids_application Data code kept = refl

pub cids_closing : (id : SpaceId) (kept : List ℕ) (b : Bool) (c : Option Close) → sealed_cid (if b then told_close id kept c else close_frame 0x00 None) ≡ []
cids_closing id kept true None = refl
cids_closing id kept true (Some (Connection c)) = refl
cids_closing id kept true (Some (Application c)) = cids_application id c.error_code kept
cids_closing id kept false c = refl

-- ---- that each is the one that goes next

pub next_append : (fs gs : List FrameValue) (d : ConnectionIds) → AllNext fs d → AllNext gs (after (sealed_cids fs) d) → AllNext (fs ++ gs) d
unfolding AllNext sealed_cids after
next_append [] gs d h k = k
next_append (f ∷ fs) gs d h k =
    (h.0, next_append fs gs (after (sealed_cid f) d) h.1 (subst (λ (x : ConnectionIds). AllNext gs x) (after_append (sealed_cid f) (sealed_cids fs) d) k))

-- of joined lists each part is so
pub next_first : (fs gs : List FrameValue) (d : ConnectionIds) → AllNext (fs ++ gs) d → AllNext fs d
unfolding AllNext
next_first [] gs d h = tt
next_first (f ∷ fs) gs d h = (h.0, next_first fs gs (after (sealed_cid f) d) h.1)

next_behind : (fs gs : List FrameValue) (d : ConnectionIds) → AllNext (fs ++ gs) d → AllNext gs (after (sealed_cids fs) d)
unfolding AllNext sealed_cids after
next_behind [] gs d h = h
next_behind (f ∷ fs) gs d h =
    subst (λ (x : ConnectionIds). AllNext gs x) (sym (after_append (sealed_cid f) (sealed_cids fs) d)) (next_behind fs gs (after (sealed_cid f) d) h.1)

-- frames without one of theirs
pub next_none : (fs : List FrameValue) (d : ConnectionIds) → sealed_cids fs ≡ [] → AllNext fs d
unfolding AllNext sealed_cids after
next_none [] d none = tt
next_none (frames.NewConnectionId new ∷ fs) d none = absurd (cc)
next_none (frames.RetireConnectionId sequence ∷ fs) d none = absurd (cc)
next_none (_ ∷ fs) d none = (tt, next_none fs d none)

-- in front of others, and behind them
pub no_cid_before : (fs gs : List FrameValue) (d : ConnectionIds) → sealed_cids fs ≡ [] → AllNext gs d → AllNext (fs ++ gs) d
unfolding after
no_cid_before fs gs d none h = next_append fs gs d (next_none fs d none) (subst (λ (xs : List Step). AllNext gs (after xs d)) (sym none) h)

pub no_cid_behind : (fs gs : List FrameValue) (d : ConnectionIds) → sealed_cids gs ≡ [] → AllNext fs d → AllNext (fs ++ gs) d
no_cid_behind fs gs d none h = next_append fs gs d h (next_none gs (after (sealed_cids fs) d) none)

pub behind_no_cid : (fs gs : List FrameValue) (d : ConnectionIds) → sealed_cids fs ≡ [] → AllNext (fs ++ gs) d → AllNext gs d
unfolding after
behind_no_cid fs gs d none h = subst (λ (xs : List Step). AllNext gs (after xs d)) none (next_behind fs gs d h)

module _ {t : Types} where
  -- nothing that a close and its ACK hold is one
  pub cids_close : (time : ℕ) (s : View t) (id : SpaceId) (room : ℕ) (fs : List FrameValue) → Closes time s id room fs → sealed_cids fs ≡ []
  unfolding sealed_cids
  cids_close time s id room fs (Closes.closing acks part kept reason is) =
      ap sealed_cids is ∙ cids_append acks (closing_frame id kept s.life ∷ [])
      ∙ ap (λ (xs : List Step). xs ++ (sealed_cid (closing_frame id kept s.life) ++ [])) (cids_ack time _ _ acks (may_acknowledge _) part)
      ∙ ap (λ (xs : List Step). xs ++ []) (cids_closing id kept (is_closed s.life.state) s.life.close)

  -- what a frame that is taken leaves of the ids
  pub taken_cids : (id : SpaceId) (f : FrameValue) (s : View t) → (state_move (Take id (f ∷ [])) s).lower.ids ≡ after (sealed_cid f) s.lower.ids
  unfolding state_move lower_move frames_sealed streams_stepped datagrams_stepped ids_stepped sealed_cids
  taken_cids id f s = ap (λ (xs : List Step). after xs s.lower.ids) (append-nil (sealed_cid f))

module _ {t : Types} (maker : TokenMaker t) where
  -- one that waits is the one that goes next
  waits_next : (time : ℕ) (s : View t) (id : SpaceId) (f : FrameValue) → Waits maker time s id f → IsNext f s.lower.ids
  unfolding Waits
  waits_next time s id (frames.NewConnectionId new) h = h.1
  waits_next time s id (frames.RetireConnectionId sequence) h = h.1
  waits_next time s id _ h = tt

  wait_next : (time : ℕ) (s : View t) (id : SpaceId) (fs : List FrameValue) → WaitAll maker time s id fs → AllNext fs s.lower.ids
  unfolding WaitAll AllNext
  wait_next time s id [] h = tt
  wait_next time s id (f ∷ fs) h =
      (waits_next time s id f h.0, subst (λ (x : ConnectionIds). AllNext fs x) (taken_cids id f s) (wait_next time (state_move (Take id (f ∷ [])) s) id fs h.1))

  -- so it is with what a packet carries
  pub carried_next : (closing : Bool) (time : ℕ) (s : View t) (form : Form) (room : ℕ) (fs : List FrameValue) → Carries maker closing time s form room fs → AllNext fs s.lower.ids
  carried_next closing time s form room fs (Carries.a_close owed gs n holds is) =
      next_none fs s.lower.ids (ap sealed_cids is ∙ cids_padded gs n ∙ cids_close time s (number_space form) room gs holds)
  carried_next closing time s form room fs (Carries.what_waits free gs n wait is) =
      subst (λ (xs : List FrameValue). AllNext xs s.lower.ids) (sym is)
      (no_cid_behind gs (replicate n frames.Padding) s.lower.ids (cids_padding n) (wait_next time s (number_space form) gs wait))
