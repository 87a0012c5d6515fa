-- A payload with bytes is its frames.
use Rattle.std.proofs.Common.{◌≡◌, ℕ, List, [], ◌∷◌, length, refl, ap, ◌∙◌, true, false, None, Result, Ok, Err}
use Rattle.std.specs.Prelude.{OnOk}
use Rattle.std.specs.declared.alloc.AllocError.{AllocError}
use Rattle.qc_base.specs.declared.side.SpaceId.{SpaceId}
use Rattle.qc_frame.specs.Payload.{items_of}
use Rattle.qc_state.specs.declared.coming.Coming.{Coming}
use Rattle.qc_state.specs.Receiving.{Reads, end_after, items_after, payload_after}
use Rattle.qc_state.specs.Types.{Types, Meaning}
use Rattle.qc_state.specs.View.{At}

module _ {t : Types} (m : Meaning t) where
  payload_frames : (coming : Coming) (space : SpaceId) (payload : List ℕ) (a : At t) → (length payload ≡ 0 → false ≡ true) → end_after m coming space (items_after m coming space (items_of payload) (Reads None a)) ≡ payload_after m coming space payload a
  unfolding payload_after
  payload_frames coming space [] a some = cc (some refl)
  payload_frames coming space (b ∷ bytes) a some = refl

  pub payload_done : (coming : Coming) (space : SpaceId) (payload frames : List ℕ) (a b : At t) (r : Result (Unit {0}) AllocError) → frames ≡ payload → (length payload ≡ 0 → false ≡ true) →
      OnOk r (b ≡ end_after m coming space (items_after m coming space (items_of frames) (Reads None a))) → OnOk r (b ≡ payload_after m coming space payload a)
  payload_done coming space payload frames a b (Ok done) same some h = h ∙ ap (λ (bytes : List ℕ). end_after m coming space (items_after m coming space (items_of bytes) (Reads None a))) same ∙ payload_frames coming space payload a some
  payload_done coming space payload frames a b (Err e) same some h = tt
