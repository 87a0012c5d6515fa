-- The text of frames tells the frames.
use Rattle.std.proofs.Common.{◌≡◌, ℕ, zero, suc, ◌+◌, ◌<◌, ◌^◌, true, false, ◌==◌, List, [], ◌∷◌, ◌++◌, length, replicate, drop, get_or, refl, sym, ap, ◌∙◌, append_assoc, arith, add-one, inl, inr}
use Rattle.std.specs.Prelude.{decimal, codes}
use Rattle.std.specs.List.{All}
use Rattle.std.proofs.lemmas.Bool.{ne_eqb, cases_Bool, false≢true}
use Rattle.std.proofs.lemmas.List.Elements.{All-head, All-tail}
use Rattle.hex.specs.Hex.{encode_lower}
use Rattle.qc_base.specs.Grammar.{IsBytes}
use Rattle.qc_frame.specs.Frame.{FrameValue, TypedValue}
use Rattle.qc_frame.specs.FrameFits.{as_written}
use Rattle.qc_frame.specs.FrameReading.{frame_at}
use Rattle.qc_frame.specs.FrameSpelling.{frame_name, spelling}
use Rattle.qc_frame.specs.declared.frames.FrameOf.TheVariants as frames
use Rattle.qc_frame.proofs.WrittenPayload.{frame_read_back}
use Rattle.qc_text.specs.TraceText.{is_padding, frame_text, padding_text, padded_text, frames_text}
use Rattle.qc_text.specs.OneText.{IsSpelled}
use Rattle.qc_text.proofs.Tokens.{is_mark, is_token, token_back, number_back, bytes_back}

name_is_token : (f : FrameValue) → is_token (frame_name f) ≡ true
unfolding frame_name
name_is_token frames.Padding = refl
name_is_token frames.Ping = refl
name_is_token (frames.Ack _) = refl
name_is_token (frames.ResetStream _ _ _) = refl
name_is_token (frames.StopSending _ _) = refl
name_is_token (frames.Crypto _ _) = refl
name_is_token (frames.NewToken _) = refl
name_is_token (frames.Stream _ _ _ _) = refl
name_is_token (frames.MaxData _) = refl
name_is_token (frames.MaxStreamData _ _) = refl
name_is_token (frames.MaxStreams _ _) = refl
name_is_token (frames.DataBlocked _) = refl
name_is_token (frames.StreamDataBlocked _ _) = refl
name_is_token (frames.StreamsBlocked _ _) = refl
name_is_token (frames.NewConnectionId _) = refl
name_is_token (frames.RetireConnectionId _) = refl
name_is_token (frames.PathChallenge _) = refl
name_is_token (frames.PathResponse _) = refl
name_is_token (frames.ConnectionClose _ _ _) = refl
name_is_token (frames.ApplicationClose _ _) = refl
name_is_token frames.HandshakeDone = refl
name_is_token (frames.Datagram _) = refl

-- a frame that its text tells
pub record IsTold (frame : FrameValue) : Type 0 where
  pub fits : IsSpelled frame
  pub bytes : IsBytes (spelling frame)

-- a frame is told by its spelling
spelled_back : (f g : FrameValue) → IsTold f → IsTold g → spelling f ≡ spelling g → f ≡ g
spelled_back f g p q e =
    let read = sym (frame_read_back f [] p.fits.0) ∙ ap (λ (a : List ℕ). frame_at (a ++ [])) e ∙ frame_read_back g [] q.fits.0 in
    let pairs : (as_written f, []) ≡ (as_written g, []) = cc read in
    sym p.fits.1 ∙ ap (λ (x : TypedValue × List ℕ). x.0.frame) pairs ∙ q.fits.1

-- a frame's text as it is read: a space, the name, a slash, the hex
frame_parts : (f : FrameValue) (r : List ℕ) → frame_text f ++ r ≡ 32 ∷ (frame_name f ++ 47 ∷ (encode_lower (spelling f) ++ r))
unfolding frame_text
frame_parts f r = simp append_assoc

-- behind a frame stands another one, a run of PADDING or the line's end
pub frame_back : (f g : FrameValue) (c d : ℕ) (r s : List ℕ) → IsTold f → IsTold g → is_mark c ≡ true → is_mark d ≡ true
    → frame_text f ++ c ∷ r ≡ frame_text g ++ d ∷ s → (f ≡ g) × (c ∷ r ≡ d ∷ s)
frame_back f g c d r s p q k l e =
    let parts = sym (frame_parts f (c ∷ r)) ∙ e ∙ frame_parts g (d ∷ s) in
    let named = token_back (frame_name f) (frame_name g) 47 47 (encode_lower (spelling f) ++ c ∷ r) (encode_lower (spelling g) ++ d ∷ s)
    (name_is_token f) (name_is_token g) refl refl (ap (drop 1) parts) in
    let spelled = bytes_back (spelling f) (spelling g) c d r s p.bytes q.bytes k l (ap (drop 1) named.1) in
    (spelled_back f g p q spelled.0, spelled.1)

-- ---- runs of PADDING

-- what a packet's frames go on with behind a run of PADDING: the line's end, or a frame that isn't PADDING
data Behind : List ℕ → Type 0 where
  ended : (r : List ℕ) → Behind (10 ∷ r)
  framed : (f : FrameValue) (r : List ℕ) → Behind (frame_text f ++ r)

padding_parts : (n : ℕ) (r : List ℕ) → padding_text (suc n) ++ r ≡ 32 ∷ (codes "PADDING" ++ 42 ∷ (decimal (suc n) ++ r))
unfolding padding_text
padding_parts n r = let some : (suc n == 0) ≡ false = ne_eqb (suc n) 0 (λ e. omega arith) in rw some refl

-- what stands behind a run begins with a mark
behind_mark : (x : List ℕ) → Behind x → (c : ℕ) × (r : List ℕ) × (is_mark c ≡ true) × (x ≡ c ∷ r)
behind_mark x (ended r) = (10, r, refl, refl)
behind_mark x (framed f r) = (32, frame_name f ++ 47 ∷ (encode_lower (spelling f) ++ r), refl, frame_parts f r)

-- and is no run of PADDING itself
behind_is_no_run : (x : List ℕ) (n : ℕ) (y : List ℕ) → Behind x → x ≡ padding_text (suc n) ++ y → ⊥
behind_is_no_run x n y (ended r) e = let parts = e ∙ padding_parts n y in cc parts
behind_is_no_run x n y (framed f r) e =
    let parts = sym (frame_parts f r) ∙ e ∙ padding_parts n y in
    let named = token_back (frame_name f) (codes "PADDING") 47 42 (encode_lower (spelling f) ++ r) (decimal (suc n) ++ y)
    (name_is_token f) refl refl refl (ap (drop 1) parts) in
    absurd (omega (arith, ap (λ (a : List ℕ). get_or a 0 0) named.1))

run_back : (m n : ℕ) (x y : List ℕ) → m < 2 ^ 128 → n < 2 ^ 128 → Behind x → Behind y → padding_text m ++ x ≡ padding_text n ++ y → (m ≡ n) × (x ≡ y)
unfolding padding_text
run_back zero zero x y p q k l e = (refl, e)
run_back zero (suc n) x y p q k l e = absurd (behind_is_no_run x n y k e)
run_back (suc m) zero x y p q k l e = absurd (behind_is_no_run y m x l (sym e))
run_back (suc m) (suc n) x y p q k l e =
    let left = behind_mark x k in
    let right = behind_mark y l in
    let parts : padding_text (suc m) ++ left.0 ∷ left.1 ≡ padding_text (suc n) ++ right.0 ∷ right.1 = rw (← left.3, ← right.3) e in
    let counts = number_back (suc m) (suc n) left.0 right.0 left.1 right.1 p q left.2 right.2
    (ap (drop 9) (sym (padding_parts m (left.0 ∷ left.1)) ∙ parts ∙ padding_parts n (right.0 ∷ right.1))) in
    (counts.0, left.3 ∙ counts.1 ∙ sym right.3)

-- ---- the frames of a packet

padding_is : (f : FrameValue) → is_padding f ≡ true → f ≡ frames.Padding
padding_is frames.Padding h = refl
padding_is _ h = absurd (false≢true h)

more_padding : (n : ℕ) (fs : List FrameValue) → replicate (n + 1) frames.Padding ++ fs ≡ replicate n frames.Padding ++ frames.Padding ∷ fs
more_padding zero fs = refl
more_padding (suc n) fs = rw add-one (ap (λ (a : List FrameValue). frames.Padding ∷ a) (rw add-one at (more_padding n fs)))

-- PADDING in front of frames, as a run and as a frame
as_run : (n : ℕ) (f : FrameValue) (fs : List FrameValue) → is_padding f ≡ true → replicate (n + 1) frames.Padding ++ fs ≡ replicate n frames.Padding ++ f ∷ fs
as_run n f fs h = more_padding n fs ∙ ap (λ (g : FrameValue). replicate n frames.Padding ++ g ∷ fs) (sym (padding_is f h))

text_of_run : (n : ℕ) (f : FrameValue) (fs : List FrameValue) → is_padding f ≡ true → padded_text n (f ∷ fs) ≡ padded_text (n + 1) fs
text_of_run n f fs h = rw h refl

text_of_frame : (n : ℕ) (f : FrameValue) (fs : List FrameValue) (r : List ℕ) → is_padding f ≡ false
    → padded_text n (f ∷ fs) ++ r ≡ padding_text n ++ (frame_text f ++ (padded_text 0 fs ++ r))
text_of_frame n f fs r h = rw h (simp append_assoc)

-- a frame, its text and the text of what stands behind it
mark_of_run : (n : ℕ) (x : List ℕ) → Behind x → (c : ℕ) × (r : List ℕ) × (is_mark c ≡ true) × (padding_text n ++ x ≡ c ∷ r)
unfolding padding_text
mark_of_run zero x b = behind_mark x b
mark_of_run (suc n) x b = (32, codes "PADDING" ++ 42 ∷ (decimal (suc n) ++ x), refl, padding_parts n x)

mark_of : (n : ℕ) (fs : List FrameValue) (r : List ℕ) → (c : ℕ) × (x : List ℕ) × (is_mark c ≡ true) × (padded_text n fs ++ 10 ∷ r ≡ c ∷ x)
mark_of n [] r = mark_of_run n (10 ∷ r) (ended r)
mark_of n (f ∷ fs) r =
    elim (cases_Bool (is_padding f)) [
      | inl is ↦
          let there = mark_of (n + 1) fs r in
          (there.0, there.1, there.2, ap (λ (a : List ℕ). a ++ 10 ∷ r) (text_of_run n f fs is) ∙ there.3)
      | inr isn ↦
          let there = mark_of_run n (frame_text f ++ (padded_text 0 fs ++ 10 ∷ r)) (framed f (padded_text 0 fs ++ 10 ∷ r)) in
          (there.0, there.1, there.2, text_of_frame n f fs (10 ∷ r) isn ∙ there.3)
    ]

-- frames behind a run of m PADDING frames are told by their text
abbrev Told : ℕ → List FrameValue → Type 0
Told m fs = (gs : List FrameValue) (n : ℕ) (r s : List ℕ) → m + length fs < 2 ^ 128 → n + length gs < 2 ^ 128 → All IsTold fs → All IsTold gs
    → padded_text m fs ++ 10 ∷ r ≡ padded_text n gs ++ 10 ∷ s → (replicate m frames.Padding ++ fs ≡ replicate n frames.Padding ++ gs) × (r ≡ s)

told_none : (m : ℕ) → Told m []
told_none m [] n r s p q k l e =
    let both = run_back m n (10 ∷ r) (10 ∷ s) (omega arith) (omega arith) (ended r) (ended s) e in
    (ap (λ (n : ℕ). replicate n frames.Padding ++ []) both.0, ap (drop 1) both.1)
told_none m (g ∷ gs) n r s p q k l e =
    elim (cases_Bool (is_padding g)) [
      | inl is ↦
          let there = told_none m gs (n + 1) r s p (omega arith) k (All-tail IsTold g gs l) (e ∙ ap (λ (a : List ℕ). a ++ 10 ∷ s) (text_of_run n g gs is)) in
          (there.0 ∙ as_run n g gs is, there.1)
      | inr isn ↦
          let x = padded_text 0 gs ++ 10 ∷ s in
          let both = run_back m n (10 ∷ r) (frame_text g ++ x) (omega arith) (omega arith) (ended r) (framed g x) (e ∙ text_of_frame n g gs (10 ∷ s) isn) in
          absurd (omega (arith, ap (λ (a : List ℕ). get_or a 0 0) (both.1 ∙ frame_parts g x)))
    ]

told_framed : (m : ℕ) (f : FrameValue) (fs : List FrameValue) → is_padding f ≡ false → Told 0 fs → Told m (f ∷ fs)
told_framed m f fs none told [] n r s p q k l e =
    let x = padded_text 0 fs ++ 10 ∷ r in
    let both = run_back m n (frame_text f ++ x) (10 ∷ s) (omega arith) (omega arith) (framed f x) (ended s) (sym (text_of_frame m f fs (10 ∷ r) none) ∙ e) in
    absurd (omega (arith, ap (λ (a : List ℕ). get_or a 0 0) (sym both.1 ∙ frame_parts f x)))
told_framed m f fs none told (g ∷ gs) n r s p q k l e =
    elim (cases_Bool (is_padding g)) [
      | inl is ↦
          let there = told_framed m f fs none told gs (n + 1) r s p (omega arith) k (All-tail IsTold g gs l) (e ∙ ap (λ (a : List ℕ). a ++ 10 ∷ s) (text_of_run n g gs is)) in
          (there.0 ∙ as_run n g gs is, there.1)
      | inr isn ↦
          let x = padded_text 0 fs ++ 10 ∷ r in
          let y = padded_text 0 gs ++ 10 ∷ s in
          let both = run_back m n (frame_text f ++ x) (frame_text g ++ y) (omega arith) (omega arith) (framed f x) (framed g y)
          (sym (text_of_frame m f fs (10 ∷ r) none) ∙ e ∙ text_of_frame n g gs (10 ∷ s) isn) in
          let left = mark_of 0 fs r in
          let right = mark_of 0 gs s in
          let parts : frame_text f ++ left.0 ∷ left.1 ≡ frame_text g ++ right.0 ∷ right.1 = rw (← left.3, ← right.3) both.1 in
          let first = frame_back f g left.0 right.0 left.1 right.1 (All-head IsTold f fs k) (All-head IsTold g gs l) left.2 right.2 parts in
          let others = told gs 0 r s (omega arith) (omega arith) (All-tail IsTold f fs k) (All-tail IsTold g gs l) (left.3 ∙ first.1 ∙ sym right.3) in
          (same both.0 first.0 others.0, others.1)
    ]
  where
    same : {m n : ℕ} {f g : FrameValue} {fs gs : List FrameValue} → m ≡ n → f ≡ g → fs ≡ gs → replicate m frames.Padding ++ f ∷ fs ≡ replicate n frames.Padding ++ g ∷ gs
    same p q r = cc

padded_back : (fs : List FrameValue) (m : ℕ) → Told m fs
padded_back [] m = told_none m
padded_back (f ∷ fs) m =
    elim (cases_Bool (is_padding f)) [
      | inl is ↦ λ gs n r s p q k l e.
          let there = padded_back fs (m + 1) gs n r s (omega arith) q (All-tail IsTold f fs k) l (sym (ap (λ (a : List ℕ). a ++ 10 ∷ r) (text_of_run m f fs is)) ∙ e) in
          (sym (as_run m f fs is) ∙ there.0, there.1)
      | inr isn ↦ told_framed m f fs isn (padded_back fs 0)
    ]

-- the frames of a packet are told by their text, up to the line's end
pub frames_back : (fs gs : List FrameValue) (r s : List ℕ) → length fs < 2 ^ 128 → length gs < 2 ^ 128 → All IsTold fs → All IsTold gs
    → frames_text fs ++ 10 ∷ r ≡ frames_text gs ++ 10 ∷ s → (fs ≡ gs) × (r ≡ s)
unfolding frames_text
frames_back fs gs r s p q k l e = padded_back fs 0 gs 0 r s (omega arith) (omega arith) k l e

-- and begins with a mark
pub frames_mark : (fs : List FrameValue) (r : List ℕ) → (c : ℕ) × (x : List ℕ) × (is_mark c ≡ true) × (frames_text fs ++ 10 ∷ r ≡ c ∷ x)
unfolding frames_text
frames_mark fs r = mark_of 0 fs r
