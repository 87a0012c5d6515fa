-- What frames of streams leave that were acknowledged, or are lost: one frame more, PADDING at the end, one packet more.
use Rattle.std.proofs.Common.{◌≡◌, ℕ, zero, suc, ◌+◌, ◌<◌, ◌≤◌, List, [], ◌∷◌, ◌++◌, length, drop, get_or, replicate, refl, ap, sym, ◌∙◌, add-one, arith}
use Rattle.qc_flight.specs.Packets.{Entry}
use Rattle.qc_frame.specs.Frame.{FrameValue}
use Rattle.qc_frame.specs.declared.frames.FrameOf.TheVariants.{Padding}
use Rattle.qc_state.specs.StreamFrames.{acked_steps, control_of, control_step, controls_acked, controls_lost, lost_steps, packet_acked, packet_lost}
use Rattle.qc_streams.proofs.StepsLaw.{after_append}
use Rattle.qc_streams.specs.Waits.{ControlAcked, ControlLost, Step, after}
use Rattle.qc_streams.specs.declared.state.StreamsState.{StreamsState}

-- PADDING is no frame of streams
lost_padding : (n : ℕ) → controls_lost (replicate n Padding) ≡ []
lost_padding zero = refl
lost_padding (suc n) = lost_padding n

pub controls_lost_padded : (fs : List FrameValue) (n : ℕ) → controls_lost (fs ++ replicate n Padding) ≡ controls_lost fs
controls_lost_padded [] n = lost_padding n
controls_lost_padded (f ∷ fs) n = ap (λ (xs : List Step). control_step ControlLost (control_of f) ++ xs) (controls_lost_padded fs n)

acked_padding : (n : ℕ) → controls_acked (replicate n Padding) ≡ []
acked_padding zero = refl
acked_padding (suc n) = acked_padding n

pub controls_acked_padded : (fs : List FrameValue) (n : ℕ) → controls_acked (fs ++ replicate n Padding) ≡ controls_acked fs
controls_acked_padded [] n = acked_padding n
controls_acked_padded (f ∷ fs) n = ap (λ (xs : List Step). control_step ControlAcked (control_of f) ++ xs) (controls_acked_padded fs n)

-- one frame more
pub controls_lost_more : (f : FrameValue) (fs : List FrameValue) (s : StreamsState) → after (controls_lost fs) (after (control_step ControlLost (control_of f)) s) ≡ after (controls_lost (f ∷ fs)) s
controls_lost_more f fs s = sym (after_append (control_step ControlLost (control_of f)) (controls_lost fs) s)

pub controls_acked_more : (f : FrameValue) (fs : List FrameValue) (s : StreamsState) → after (controls_acked fs) (after (control_step ControlAcked (control_of f)) s) ≡ after (controls_acked (f ∷ fs)) s
controls_acked_more f fs s = sym (after_append (control_step ControlAcked (control_of f)) (controls_acked fs) s)

-- no packet is left
drop_all : (es : List Entry) (place : ℕ) → length es ≤ place → drop place es ≡ []
drop_all [] zero le = refl
drop_all [] (suc place) le = refl
drop_all (x ∷ es) zero le = absurd (omega arith)
drop_all (x ∷ es) (suc place) le = drop_all es place (omega arith)

pub lost_none : (es : List Entry) (place : ℕ) (s : StreamsState) → length es ≤ place → after (lost_steps (drop place es)) s ≡ s
unfolding after lost_steps
lost_none es place s le = ap (λ (ds : List Entry). after (lost_steps ds) s) (drop_all es place le)

pub acked_none : (es : List Entry) (place : ℕ) (s : StreamsState) → length es ≤ place → after (acked_steps (drop place es)) s ≡ s
unfolding after acked_steps
acked_none es place s le = ap (λ (ds : List Entry). after (acked_steps ds) s) (drop_all es place le)

-- one packet more
lost_suc : (es : List Entry) (place : ℕ) (e : Entry) (s : StreamsState) → e ≡ get_or es place e → place < length es → after (lost_steps (drop (suc place) es)) (after (packet_lost e.1) s) ≡ after (lost_steps (drop place es)) s
unfolding lost_steps
lost_suc [] place e s is within = absurd (omega arith)
lost_suc (x ∷ es) zero e s is within = ap (λ (y : Entry). after (lost_steps es) (after (packet_lost y.1) s)) is ∙ sym (after_append (packet_lost x.1) (lost_steps es) s)
lost_suc (x ∷ es) (suc place) e s is within = lost_suc es place e s is (omega arith)

pub lost_more : (es : List Entry) (place : ℕ) (e : Entry) (s : StreamsState) → e ≡ get_or es place e → place < length es → after (lost_steps (drop (place + 1) es)) (after (packet_lost e.1) s) ≡ after (lost_steps (drop place es)) s
lost_more es place e s is within = rw add-one (lost_suc es place e s is within)

acked_suc : (es : List Entry) (place : ℕ) (e : Entry) (s : StreamsState) → e ≡ get_or es place e → place < length es → after (acked_steps (drop (suc place) es)) (after (packet_acked e.1) s) ≡ after (acked_steps (drop place es)) s
unfolding acked_steps
acked_suc [] place e s is within = absurd (omega arith)
acked_suc (x ∷ es) zero e s is within = ap (λ (y : Entry). after (acked_steps es) (after (packet_acked y.1) s)) is ∙ sym (after_append (packet_acked x.1) (acked_steps es) s)
acked_suc (x ∷ es) (suc place) e s is within = acked_suc es place e s is (omega arith)

pub acked_more : (es : List Entry) (place : ℕ) (e : Entry) (s : StreamsState) → e ≡ get_or es place e → place < length es → after (acked_steps (drop (place + 1) es)) (after (packet_acked e.1) s) ≡ after (acked_steps (drop place es)) s
acked_more es place e s is within = rw add-one (acked_suc es place e s is within)
