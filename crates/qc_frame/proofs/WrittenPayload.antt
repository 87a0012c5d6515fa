-- Payloads that are written are read back
use Rattle.std.proofs.Common.{◌≡◌, ℕ, List, [], ◌∷◌, ◌++◌, map, Ok, refl, ap, sym, ◌∙◌, append_assoc, append-nil, arith}
use Rattle.qc_frame.specs.Frame.{FrameValue}
use Rattle.qc_frame.specs.FrameReading.{frame_at}
use Rattle.qc_frame.specs.FrameSpelling.{spelling, last_spelling, frames_spelling}
use Rattle.qc_frame.specs.FrameFits.{Fits, AllFit, as_written, last_as_written}
use Rattle.qc_frame.specs.Payload.{Item, items_of}
use Rattle.qc_frame.proofs.FrontFrame.{frame_again, frame_shorter}
use Rattle.qc_frame.proofs.Items.{items_none, items_frame}
use Rattle.qc_frame.proofs.ReadBack.{written, last_written}

pub frame_read_back : (f : FrameValue) (rest : List ℕ) → Fits f → frame_at (spelling f ++ rest) ≡ Ok (as_written f, rest)
frame_read_back f rest fits = frame_again (spelling f ++ rest) (as_written f) rest ((written f fits).goes rest)

pub last_read_back : (f : FrameValue) → Fits f → frame_at (last_spelling f) ≡ Ok (last_as_written f, [])
last_read_back f fits = frame_again (last_spelling f) (last_as_written f) [] (last_written f fits)

-- frames, and others whose bytes stand behind them
behind_frames : (fs : List FrameValue) (rest : List ℕ) → AllFit fs → items_of (frames_spelling fs ++ rest) ≡ map (λ f. Ok (as_written f)) fs ++ items_of rest
behind_frames [] rest fits = refl
behind_frames (f ∷ fs) rest fits =
    let others : List ℕ = frames_spelling fs ++ rest in
    let is = frame_read_back f others fits.0 in
    let less = frame_shorter (spelling f ++ others) (as_written f) others is in
    ap items_of (append_assoc (spelling f) (frames_spelling fs) rest) ∙ items_frame (spelling f ++ others) (as_written f) others (omega arith) is
    ∙ ap (λ (is : List Item). Ok (as_written f) ∷ is) (behind_frames fs rest fits.1)

pub payload_read_back : (fs : List FrameValue) → AllFit fs → items_of (frames_spelling fs) ≡ map (λ f. Ok (as_written f)) fs
payload_read_back fs fits =
    ap items_of (sym (append-nil (frames_spelling fs))) ∙ behind_frames fs [] fits
    ∙ ap (λ (is : List Item). map (λ f. Ok (as_written f)) fs ++ is) (items_none [] refl) ∙ append-nil _

pub payload_with_last : (fs : List FrameValue) (f : FrameValue) → AllFit fs → Fits f
    → items_of (frames_spelling fs ++ last_spelling f) ≡ map (λ f. Ok (as_written f)) fs ++ Ok (last_as_written f) ∷ []
payload_with_last fs f fits last =
    let is = last_read_back f last in
    let less = frame_shorter (last_spelling f) (last_as_written f) [] is in
    behind_frames fs (last_spelling f) fits
    ∙ ap (λ (is : List Item). map (λ f. Ok (as_written f)) fs ++ is) (items_frame (last_spelling f) (last_as_written f) [] (omega arith) is ∙ ap (λ (is : List Item). Ok (last_as_written f) ∷ is) (items_none [] refl))
