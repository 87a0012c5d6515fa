-- PADDING frames: their bytes, and lists that end in them
use Rattle.std.proofs.Common.{◌≡◌, ℕ, ◌+◌, ◌-◌, ◌<◌, ◌≤◌, List, [], ◌∷◌, ◌++◌, length, take, replicate, refl, ap, append_assoc, arith, zero, suc}
use Rattle.std.proofs.lemmas.List.{replicate-append-replicate, take_all}
use Rattle.qc_base.specs.Varint.{varint}
use Rattle.qc_frame.specs.Frame.{FrameValue}
use Rattle.qc_frame.specs.FrameSpelling.{spelling, frames_spelling}
use Rattle.qc_frame.specs.declared.frames.FrameOf.TheVariants.{Padding}

pub zero_byte : spelling Padding ≡ 0 ∷ []
unfolding spelling varint
zero_byte = refl

-- a PADDING frame is a zero byte
pub zeros : (n : ℕ) → frames_spelling (replicate n Padding) ≡ replicate n 0
zeros zero = refl
zeros (suc n) = rw zero_byte (ap (λ (bytes : List ℕ). 0 ∷ bytes) (zeros n))

-- more PADDING frames behind those that are there
pub padded_more : (fs : List FrameValue) (n more : ℕ) → fs ++ replicate (n + more) Padding ≡ (fs ++ replicate n Padding) ++ replicate more Padding
padded_more fs n more = rw (append_assoc, replicate-append-replicate) refl

-- the first of the PADDING frames that are left, written out
pub padded_one : (fs : List FrameValue) (n i : ℕ) → i < n → (fs ++ Padding ∷ []) ++ replicate (n - (i + 1)) Padding ≡ fs ++ replicate (n - i) Padding
padded_one fs n i h = let e : n - i ≡ suc (n - (i + 1)) = omega arith in rw (append_assoc, e) refl

-- a buffer of so many bytes filled up with zeros
pub filled_up : (bytes : List ℕ) (len n : ℕ) → len ≡ length bytes → take (len + n) bytes ++ replicate (len + n - len) 0 ≡ bytes ++ frames_spelling (replicate n Padding)
filled_up bytes len n e =
    let fits : length bytes ≤ len + n = omega arith in
    let more : len + n - len ≡ n = omega arith in
    rw (take_all (len + n) bytes fits, more, zeros n) refl
