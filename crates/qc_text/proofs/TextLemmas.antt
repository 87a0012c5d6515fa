-- Runs of PADDING frames.
use Rattle.std.proofs.Common.{◌≡◌, ℕ, zero, suc, ◌+◌, ◌≤◌, length, map, drop, List, ◌++◌, replicate, ◌∙◌, ap, arith}
use Rattle.std.proofs.lemmas.List.{drop_all}
use Rattle.qc_frame.specs.Frame.{owned}
use Rattle.qc_frame.specs.declared.frames.FrameOf.{FrameOf}
use Rattle.qc_frame.specs.declared.frames.FrameOf.TheVariants.{Padding}
use Rattle.qc_text.specs.TraceText.{padding_text, padded_text}

abbrev pub FrameOwned : Type 0
FrameOwned = FrameOf (List ℕ)

-- a run at the end
pub padded_end : (run count : ℕ) → padded_text run (replicate count Padding) ≡ padding_text (run + count)
padded_end run zero = ap padding_text (omega arith)
padded_end run (suc count) = padded_end (run + 1) count ∙ ap padding_text (omega arith)

-- the frames are all written, and the PADDING frames after them remain
pub padded_left : (out : List ℕ) (run i count : ℕ) (frames : List FrameOwned) → length frames ≤ i → out ++ padded_text run (map owned (drop i frames) ++ replicate count Padding) ≡ out ++ padding_text (run + count)
padded_left out run i count frames past = ap (λ (fs : List FrameOwned). out ++ padded_text run (map owned fs ++ replicate count Padding)) (drop_all i frames past) ∙ ap (λ (text : List ℕ). out ++ text) (padded_end run count)
