-- The close that this end takes for a packet, behind an ACK.
use Rattle.std.proofs.Common.{◌≡◌, ℕ, ◌-◌, List, [], ◌∷◌, ◌++◌, length, ap, ◌∙◌, subst, Bool}
use Rattle.qc_base.specs.declared.side.SpaceId.{SpaceId}
use Rattle.qc_frame.specs.Frame.{FrameValue}
use Rattle.qc_frame.specs.FrameSpelling.{frames_spelling}
use Rattle.qc_state.specs.Acks.{AckPart}
use Rattle.qc_state.specs.Moves.{Take, state_move, life_move}
use Rattle.qc_state.specs.Sending.{closing_frame, IsKeptReason}
use Rattle.qc_state.specs.Types.{Types}
use Rattle.qc_state.specs.View.{View}
use Rattle.qc_state.specs.declared.waiting.SpaceWaiting.{SpaceWaiting}

-- the ACK, by what room there was for it
pub ack_by : (time : ℕ) (w : SpaceWaiting) (most room : ℕ) (acks : List FrameValue) (due : Bool) → most ≡ room → AckPart time w most acks due → AckPart time w room acks due
ack_by time w most room acks due is part = subst (λ (x : ℕ). AckPart time w x acks due) is part

module _ {t : Types} (s mid : View t) (id : SpaceId) (acks : List FrameValue) where
  -- the reason that fits into the room that the ACK leaves
  pub reason_kept : (room left : ℕ) (kept : List ℕ) → mid ≡ state_move (Take id acks) s → left ≡ room - length (frames_spelling acks) → IsKeptReason left kept mid.life.close → IsKeptReason (room - length (frames_spelling acks)) kept s.life.close
  unfolding state_move life_move
  reason_kept room left kept is_mid is_left h =
      subst (λ (x : ℕ). IsKeptReason x kept s.life.close) is_left (subst (λ (v : View t). IsKeptReason left kept v.life.close) is_mid h)

  -- the close behind the ACK
  pub close_pushed : (kept : List ℕ) (frame : FrameValue) (fs : List FrameValue) → mid ≡ state_move (Take id acks) s → frame ≡ closing_frame id kept mid.life → fs ≡ acks ++ frame ∷ [] → fs ≡ acks ++ closing_frame id kept s.life ∷ []
  unfolding state_move life_move
  close_pushed kept frame fs is_mid is_frame is_fs = is_fs ∙ ap (λ (x : FrameValue). acks ++ x ∷ []) (is_frame ∙ ap (λ (v : View t). closing_frame id kept v.life) is_mid)
