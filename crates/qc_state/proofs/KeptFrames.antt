-- PADDING at the end changes nothing of what is kept of a packet's frames, and of what becomes of them.
use Rattle.std.proofs.Common.{◌≡◌, ℕ, zero, suc, List, [], ◌∷◌, ◌++◌, Bool, true, false, ◌||◌, nat_lt, replicate, append_assoc, refl, ap, arith}
use Rattle.std.proofs.lemmas.Bool.Decides.{nat_tests}
use Rattle.std.specs.List.{list_any}
use Rattle.qc_flight.specs.declared.stream_frames.StreamMeta.{StreamMeta}
use Rattle.qc_frame.specs.Frame.{FrameValue}
use Rattle.qc_frame.specs.declared.frames.FrameOf.TheVariants.{Padding}
use Rattle.qc_state.specs.Acks.{is_ack}
use Rattle.qc_state.specs.Flight.{is_padding, kept_frames, kept_of, meta_of, metas_of}
use Rattle.qc_state.specs.Waiting.{again, all_again, all_confirmed, confirmed}
use Rattle.qc_state.specs.declared.waiting.SpaceWaiting.{SpaceWaiting}

kept_padding : (n : ℕ) → kept_frames (replicate n Padding) ≡ []
kept_padding zero = refl
kept_padding (suc n) = kept_padding n

pub kept_padded : (fs : List FrameValue) (n : ℕ) → kept_frames (fs ++ replicate n Padding) ≡ kept_frames fs
kept_padded [] n = kept_padding n
kept_padded (f ∷ fs) n = ap (λ ks. kept_of f ++ ks) (kept_padded fs n)

-- one frame more was kept
pub kept_more : (kept : List FrameValue) (f : FrameValue) (fs : List FrameValue) → (kept ++ kept_of f) ++ kept_frames fs ≡ kept ++ kept_frames (f ∷ fs)
kept_more kept f fs = append_assoc kept (kept_of f) (kept_frames fs)

-- the same of the STREAM frames among them
metas_padding : (n : ℕ) → metas_of (replicate n Padding) ≡ []
metas_padding zero = refl
metas_padding (suc n) = metas_padding n

pub metas_padded : (fs : List FrameValue) (n : ℕ) → metas_of (fs ++ replicate n Padding) ≡ metas_of fs
metas_padded [] n = metas_padding n
metas_padded (f ∷ fs) n = ap (λ ms. meta_of f ++ ms) (metas_padded fs n)

pub metas_more : (metas : List StreamMeta) (f : FrameValue) (fs : List FrameValue) → (metas ++ meta_of f) ++ metas_of fs ≡ metas ++ metas_of (f ∷ fs)
metas_more metas f fs = append_assoc metas (meta_of f) (metas_of fs)

padding_any : (n : ℕ) → list_any is_padding (replicate n Padding) ≡ nat_lt 0 n
padding_any zero = refl
padding_any (suc n) = grind (arith, nat_tests)

pub any_padded : (fs : List FrameValue) (n : ℕ) → list_any is_padding (fs ++ replicate n Padding) ≡ (list_any is_padding fs || nat_lt 0 n)
any_padded [] n = padding_any n
any_padded (f ∷ fs) n = any_by (is_padding f) _ _ _ (any_padded fs n)
  where
    any_by : (a b c d : Bool) → b ≡ (c || d) → (a || b) ≡ ((a || c) || d)
    any_by true b c d h = refl
    any_by false b c d h = h

-- PADDING is no ACK
acks_padding : (n : ℕ) → list_any is_ack (replicate n Padding) ≡ false
acks_padding zero = refl
acks_padding (suc n) = acks_padding n

pub acks_padded : (fs : List FrameValue) (n : ℕ) → list_any is_ack (fs ++ replicate n Padding) ≡ list_any is_ack fs
acks_padded [] n = acks_padding n
acks_padded (f ∷ fs) n = ap (λ b. is_ack f || b) (acks_padded fs n)

again_padding : (w : SpaceWaiting) (n : ℕ) → all_again w (replicate n Padding) ≡ w
again_padding w zero = refl
again_padding w (suc n) = again_padding w n

pub again_padded : (w : SpaceWaiting) (fs : List FrameValue) (n : ℕ) → all_again w (fs ++ replicate n Padding) ≡ all_again w fs
again_padded w [] n = again_padding w n
again_padded w (f ∷ fs) n = again_padded (again w f) fs n

confirmed_padding : (w : SpaceWaiting) (n : ℕ) → all_confirmed w (replicate n Padding) ≡ w
confirmed_padding w zero = refl
confirmed_padding w (suc n) = confirmed_padding w n

pub confirmed_padded : (w : SpaceWaiting) (fs : List FrameValue) (n : ℕ) → all_confirmed w (fs ++ replicate n Padding) ≡ all_confirmed w fs
confirmed_padded w [] n = confirmed_padding w n
confirmed_padded w (f ∷ fs) n = confirmed_padded (confirmed w f) fs n
