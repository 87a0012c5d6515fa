-- A store that keeps a list has what it is given, in order.
use Rattle.std.proofs.Common.{◌≡◌, ◌≢◌, ℕ, List, [], ◌∷◌, ◌++◌, refl, ap, sym, ◌∙◌, append_assoc, append-nil}
use Rattle.std.specs.Prelude.{map}
use Rattle.qc_conn.specs.Stored.{stored, token_read, tokens_in}
use Rattle.qc_frame.proofs.WrittenPayload.{frame_read_back}
use Rattle.qc_frame.specs.FrameFits.{Fits}
use Rattle.qc_frame.specs.FrameReading.{frame_at}
use Rattle.qc_frame.specs.FrameSpelling.{spelling}
use Rattle.qc_frame.specs.declared.frames.FrameOf.TheVariants as frames
use Rattle.qc_state.specs.declared.deeds.Did.{Did}
use Rattle.qc_state.specs.declared.deeds.Did.TheVariants as did
use Rattle.qc_state.specs.declared.deeds.Layer.TheVariants as layer

pub stored_in_order : (name : List ℕ) (tokens : List (List ℕ)) (kept : List (List ℕ × List ℕ)) → stored (λ store n token. store ++ (n, token) ∷ []) name tokens kept ≡ kept ++ map (λ token. (name, token)) tokens
stored_in_order name [] kept = sym (append-nil kept)
stored_in_order name (token ∷ tokens) kept = stored_in_order name tokens (kept ++ (name, token) ∷ []) ∙ append_assoc kept ((name, token) ∷ []) (map (λ t. (name, t)) tokens)

pub told_token : (token : List ℕ) (ds : List Did) → Fits (frames.NewToken token) → tokens_in (did.Gave layer.Store (spelling (frames.NewToken token)) ∷ ds) ≡ token ∷ tokens_in ds
told_token token ds fits =
    let read = ap (λ (bytes : List ℕ). token_read (frame_at bytes)) (sym (append-nil (spelling (frames.NewToken token)))) ∙ ap token_read (frame_read_back (frames.NewToken token) [] fits) in
    ap (λ (ts : List (List ℕ)). ts ++ tokens_in ds) read

pub told_other : (d : Did) (ds : List Did) → ((body : List ℕ) → d ≢ did.Gave layer.Store body) → tokens_in (d ∷ ds) ≡ tokens_in ds
told_other (did.Gave layer.Store body) ds other = absurd (other body refl)
told_other (did.Gave layer.Streams body) ds other = refl
told_other (did.Gave layer.Recovery body) ds other = refl
told_other (did.Gave layer.Session body) ds other = refl
told_other (did.Gave layer.Ids body) ds other = refl
told_other (did.Gave layer.Life body) ds other = refl
told_other (did.Piece space number v) ds other = refl
told_other (did.Sealed space number epoch early fs) ds other = refl
told_other (did.Rose life) ds other = refl
told_other (did.Lost why) ds other = refl
told_other (did.Quiet why) ds other = refl
