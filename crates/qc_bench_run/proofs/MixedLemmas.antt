-- Payloads written frame by frame, and how many frames are read of them.
use Rattle.std.proofs.Common.{◌≡◌, ℕ, zero, suc, ◌+◌, ◌*◌, ◌^◌, ◌<◌, ◌≤◌, List, [], ◌∷◌, ◌++◌, length, map, Result, Ok, Err, refl, ap, ◌∙◌, arith, length-append, lit≤}
use Rattle.std.proofs.lemmas.List.{flat_map_more}
use Rattle.std.proofs.lemmas.Nat.{mul-le}
use Rattle.qc_base.specs.Reading.{varint_of}
use Rattle.qc_frame.specs.Frame.{FrameValue, TypedValue}
use Rattle.qc_frame.specs.FrameFits.{Fits, AllFit, RangesFit, as_written}
use Rattle.qc_frame.specs.FrameReading.{frame_at}
use Rattle.qc_frame.specs.FrameSpelling.{numbers_of, spelling}
use Rattle.qc_frame.specs.Payload.{Item, item_and, items_within, items_of}
use Rattle.qc_frame.specs.declared.fault.InvalidFrame.{InvalidFrame}
use Rattle.qc_frame.proofs.WrittenPayload.{payload_read_back}
use Rattle.qc_bench_run.specs.Mixed.{GainsFrame, SpellsFrames, frames_among}

pub gains_frame : (f : FrameValue) (a b : List ℕ) → Fits f → b ≡ a ++ spelling f → GainsFrame a b
gains_frame f a b fits e = record { frame = f; fits = fits; appended = e }

pub spells_none : SpellsFrames 0 []
spells_none = record { frames = []; number = refl; fit = tt; spelled = refl }

fit_more : (fs : List FrameValue) (f : FrameValue) → AllFit fs → Fits f → AllFit (fs ++ f ∷ [])
fit_more [] f fit last = (last, tt)
fit_more (g ∷ fs) f fit last = (fit.0, fit_more fs f fit.1 last)

pub spells_more : (n : ℕ) (a b : List ℕ) → SpellsFrames n a → GainsFrame a b → SpellsFrames (n + 1) b
spells_more n a b s g = record {
  frames = s.frames ++ g.frame ∷ [];
  number = omega (arith, length-append s.frames (g.frame ∷ []), s.number);
  fit = fit_more s.frames g.frame s.fit g.fits;
  spelled = g.appended ∙ ap (λ bytes. bytes ++ spelling g.frame) s.spelled ∙ flat_map_more spelling [] s.frames g.frame;
}

all_frames : (fs : List FrameValue) → frames_among (map (λ f. Ok (as_written f)) fs) ≡ length fs
all_frames [] = refl
all_frames (f ∷ fs) = omega (arith, all_frames fs)

-- as many frames are read as were spelled
pub frames_spelled : (n : ℕ) (a : List ℕ) → SpellsFrames n a → frames_among (items_of a) ≡ n
frames_spelled n a s = ap (λ bytes. frames_among (items_of bytes)) s.spelled ∙ ap frames_among (payload_read_back s.frames s.fit) ∙ all_frames s.frames ∙ s.number

among_and : (n : ℕ) (v : Result (TypedValue × List ℕ) InvalidFrame) (others : List ℕ → List Item) → ((a : List ℕ) → frames_among (others a) ≤ n) → frames_among (item_and v others) ≤ n + 1
among_and n (Ok frame) others few = let h = few frame.1 in omega (arith, h)
among_and n (Err fault) others few = omega arith

among_within : (n : ℕ) (a : List ℕ) → frames_among (items_within n a) ≤ n
among_within zero a = omega arith
among_within (suc n) [] = omega arith
among_within (suc n) (b ∷ a) = omega (arith, among_and n (frame_at (b ∷ a)) (items_within n) (among_within n))

-- a payload has no more frames than bytes
pub few_frames : (a : List ℕ) → frames_among (items_of a) ≤ length a
unfolding items_of
few_frames a = among_within (length a) a

three_ranges : numbers_of (10 ∷ 8 ∷ 0 ∷ 3 ∷ 5 ∷ []) ≡ 10 ∷ 8 ∷ 0 ∷ 3 ∷ 5 ∷ []
unfolding numbers_of varint_of
three_ranges = refl

-- the ranges of the ACK among the samples
pub three_ranges_fit : RangesFit 1000 (numbers_of (10 ∷ 8 ∷ 0 ∷ 3 ∷ 5 ∷ []))
three_ranges_fit = rw three_ranges (lit≤ tt, (lit≤ tt, lit≤ tt, (lit≤ tt, lit≤ tt, tt)))

-- what was read so far, and once more, is below 2^64
pub product_fits : (i n m : ℕ) → i < n → n < 2 ^ 32 → m < 2 ^ 32 → i * m + m < 2 ^ 64
product_fits i n m h a b = omega (arith, mul-le i m i 4294967296 (omega arith) (omega arith))
