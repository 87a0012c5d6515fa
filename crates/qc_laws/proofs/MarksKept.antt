-- The counts of marks of a space: what leaves them, and the ACKs that are made of them.
use Rattle.std.proofs.Common.{◌≡◌, ℕ, zero, suc, List, [], ◌∷◌, ◌++◌, replicate, refl, ap, sym, ◌∙◌, subst, Bool, true, false, Option, Some, None, if◌then◌else◌}
use Rattle.qc_base.specs.declared.side.SpaceId.{SpaceId}
use Rattle.qc_base.specs.declared.side.SpaceId.TheVariants.{Initial, Handshake, «Data»}
use Rattle.qc_frame.specs.Frame.{FrameValue}
use Rattle.qc_frame.specs.declared.frames.EcnCounts.{EcnCounts}
use Rattle.qc_frame.specs.declared.frames.FrameOf.TheVariants as frames
use Rattle.qc_flight.specs.Packets.{Entry}
use Rattle.qc_state.specs.declared.form.Form.{Form}
use Rattle.qc_state.specs.Forms.{number_space}
use Rattle.qc_state.specs.Acks.{AckPart, told_counts}
use Rattle.qc_state.specs.declared.life.Close.{Close}
use Rattle.qc_state.specs.declared.life.Close.TheVariants.{Connection, Application}
use Rattle.qc_state.specs.declared.waiting.SpaceWaiting.{SpaceWaiting}
use Rattle.qc_state.specs.Life.{is_closed}
use Rattle.qc_laws.specs.MarkLaws.{AcksTell}
use Rattle.qc_state.specs.Sending.{Carries, Closes, application_close, close_frame, closing_frame, told_close}
use Rattle.qc_state.specs.Spaces.{space_of}
use Rattle.qc_state.specs.Types.{TokenMaker, Types}
use Rattle.qc_state.specs.View.{View}
use Rattle.qc_state.specs.Waiting.{without, without_all, again, all_again, lost_in, confirmed, all_confirmed, acked_in}
use Rattle.qc_state.specs.Allowed.{Waits, WaitAll}
use Rattle.qc_state.specs.Moves.{Take, state_move}
use Rattle.qc_state.proofs.Probed.{taken_space}

-- ---- what leaves the counts

again_keeps : (w : SpaceWaiting) (f : FrameValue) → (again w f).marks ≡ w.marks
again_keeps w frames.HandshakeDone = refl
again_keeps w (frames.Crypto offset body) = refl
again_keeps w _ = refl

pub all_again_keeps : (w : SpaceWaiting) (fs : List FrameValue) → (all_again w fs).marks ≡ w.marks
all_again_keeps w [] = refl
all_again_keeps w (f ∷ fs) = all_again_keeps (again w f) fs ∙ again_keeps w f

-- packets that are lost
pub lost_keeps : (w : SpaceWaiting) (es : List Entry) → (lost_in w es).marks ≡ w.marks
lost_keeps w [] = refl
lost_keeps w (e ∷ es) = lost_keeps (all_again w e.1.frames) es ∙ all_again_keeps w e.1.frames

confirmed_keeps : (w : SpaceWaiting) (f : FrameValue) → (confirmed w f).marks ≡ w.marks
confirmed_keeps w (frames.Ack ack) = refl
confirmed_keeps w _ = refl

all_confirmed_keeps : (w : SpaceWaiting) (fs : List FrameValue) → (all_confirmed w fs).marks ≡ w.marks
all_confirmed_keeps w [] = refl
all_confirmed_keeps w (f ∷ fs) = all_confirmed_keeps (confirmed w f) fs ∙ confirmed_keeps w f

-- packets that are acknowledged
pub acked_keeps : (w : SpaceWaiting) (es : List Entry) → (acked_in w es).marks ≡ w.marks
acked_keeps w [] = refl
acked_keeps w (e ∷ es) = acked_keeps (all_confirmed w e.1.frames) es ∙ all_confirmed_keeps w e.1.frames

without_keeps : (w : SpaceWaiting) (f : FrameValue) → (without w f).marks ≡ w.marks
unfolding without
without_keeps w frames.HandshakeDone = refl
without_keeps w frames.Ping = refl
without_keeps w (frames.Ack ack) = refl
without_keeps w (frames.Crypto offset body) = refl
without_keeps w _ = refl

-- frames that are sealed
pub without_all_keeps : (w : SpaceWaiting) (fs : List FrameValue) → (without_all w fs).marks ≡ w.marks
unfolding without_all
without_all_keeps w [] = refl
without_all_keeps w (f ∷ fs) = without_all_keeps (without w f) fs ∙ without_keeps w f

-- ---- the frames of a packet

-- frames before others tell these counts, where both do
tell_append : (counts : Option EcnCounts) (fs gs : List FrameValue) → AcksTell counts fs → AcksTell counts gs → AcksTell counts (fs ++ gs)
tell_append counts [] gs a b = b
tell_append counts (frames.Ack ack ∷ fs) gs a b = (a.0, tell_append counts fs gs a.1 b)
tell_append counts (_ ∷ fs) gs a b = tell_append counts fs gs a b

-- PADDING tells none
padding_tells : (counts : Option EcnCounts) (n : ℕ) → AcksTell counts (replicate n frames.Padding)
padding_tells counts zero = tt
padding_tells counts (suc n) = padding_tells counts n

-- and neither does a close
application_tells : (counts : Option EcnCounts) (id : SpaceId) (code : ℕ) (kept : List ℕ) → AcksTell counts (application_close id code kept ∷ [])
application_tells counts Initial code kept = tt
application_tells counts Handshake code kept = tt
application_tells counts Data code kept = tt

close_tells : (counts : Option EcnCounts) (b : Bool) (id : SpaceId) (kept : List ℕ) (c : Option Close) → AcksTell counts ((if b then told_close id kept c else close_frame 0x00 None) ∷ [])
close_tells counts true id kept None = tt
close_tells counts true id kept (Some (Connection c)) = tt
close_tells counts true id kept (Some (Application c)) = application_tells counts id c.error_code kept
close_tells counts false id kept c = tt

-- the ACK of a space tells its counts
part_tells : (time : ℕ) (w : SpaceWaiting) (room : ℕ) (acks : List FrameValue) (b : Bool) → AckPart time w room acks b → AcksTell (told_counts w.marks) acks
part_tells time w room acks true (AckPart.one ack says fits is) = subst (AcksTell (told_counts w.marks)) (sym is) (says.ecn, tt)
part_tells time w room acks true (AckPart.left_out ack says long is) = subst (AcksTell (told_counts w.marks)) (sym is) tt
part_tells time w room acks false (AckPart.none is) = subst (AcksTell (told_counts w.marks)) (sym is) tt

-- frames with PADDING behind them tell no others
padded_tells : (counts : Option EcnCounts) (n : ℕ) (fs gs : List FrameValue) → fs ≡ gs ++ replicate n frames.Padding → AcksTell counts gs → AcksTell counts fs
padded_tells counts n fs gs is told = subst (AcksTell counts) (sym is) (tell_append counts gs (replicate n frames.Padding) told (padding_tells counts n))

module _ {t : Types} where
  -- an ACK and a close behind it tell the counts of their space
  closes_tell : (time : ℕ) (s : View t) (id : SpaceId) (room : ℕ) (gs : List FrameValue) → Closes time s id room gs → AcksTell (told_counts (space_of s.waiting.spaces id).marks) gs
  closes_tell time s id room gs (Closes.closing acks part kept fits is) =
      let w : SpaceWaiting = space_of s.waiting.spaces id in
      let counts : Option EcnCounts = told_counts w.marks in
      subst (AcksTell counts) (sym is) (tell_append counts acks (closing_frame id kept s.life ∷ []) (part_tells time w _ acks _ part) (close_tells counts (is_closed s.life.state) id kept s.life.close))

module _ {t : Types} (maker : TokenMaker t) where
  -- a frame that waits in a space tells its counts
  first_tells : (time : ℕ) (s : View t) (id : SpaceId) (f : FrameValue) (fs : List FrameValue) → Waits maker time s id f → AcksTell (told_counts (space_of s.waiting.spaces id).marks) fs →
      AcksTell (told_counts (space_of s.waiting.spaces id).marks) (f ∷ fs)
  unfolding Waits
  first_tells time s id (frames.Ack ack) fs wait behind = (wait.1.ecn, behind)
  first_tells time s id _ fs wait behind = behind

  -- so do the frames that wait
  wait_tells : (time : ℕ) (s : View t) (id : SpaceId) (fs : List FrameValue) → WaitAll maker time s id fs → AcksTell (told_counts (space_of s.waiting.spaces id).marks) fs
  unfolding WaitAll
  wait_tells time s id [] h = tt
  wait_tells time s id (f ∷ fs) h =
      let v : View t = state_move (Take id (f ∷ [])) s in
      let same : (space_of v.waiting.spaces id).marks ≡ (space_of s.waiting.spaces id).marks = ap (λ (w : SpaceWaiting). w.marks) (taken_space id f s) ∙ without_keeps (space_of s.waiting.spaces id) f in
      first_tells time s id f fs h.0 (subst (λ (counts : Option EcnCounts). AcksTell (told_counts counts) fs) same (wait_tells time v id fs h.1))

  -- what a packet carries tells the counts of its space
  pub carries_tells : (closing : Bool) (time : ℕ) (s : View t) (form : Form) (room : ℕ) (fs : List FrameValue) → Carries maker closing time s form room fs → AcksTell (told_counts (space_of s.waiting.spaces (number_space form)).marks) fs
  carries_tells closing time s form room fs (Carries.a_close owed gs n closes is) =
      padded_tells (told_counts (space_of s.waiting.spaces (number_space form)).marks) n fs gs is (closes_tell time s (number_space form) room gs closes)
  carries_tells closing time s form room fs (Carries.what_waits free gs n wait is) =
      padded_tells (told_counts (space_of s.waiting.spaces (number_space form)).marks) n fs gs is (wait_tells time s (number_space form) gs wait)
