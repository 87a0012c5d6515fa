-- A run of PADDING frames, a byte each
use Rattle.std.proofs.Common.{◌≡◌, ℕ, zero, suc, ◌<◌, ◌≤◌, List, [], ◌∷◌, ◌++◌, length, drop, replicate, slice_index, Ok, refl, ap, sym, ◌∙◌, arith}
use Rattle.qc_frame.specs.FrameReading.{frame_at}
use Rattle.qc_frame.specs.FrameSpelling.{frame_type}
use Rattle.qc_frame.specs.FrameFits.{Fits}
use Rattle.qc_frame.specs.Payload.{Item, items_of, padding_item}
use Rattle.qc_frame.specs.declared.frames.FrameOf.TheVariants.{Padding}
use Rattle.qc_frame.proofs.Items.{items_frame}
use Rattle.qc_frame.proofs.Padded.{zero_byte}
use Rattle.qc_frame.proofs.WrittenPayload.{frame_read_back}

-- a zero byte is a PADDING frame
zero_read : (a : List ℕ) → frame_at (0 ∷ a) ≡ Ok (record { ty = 0x00; frame = Padding }, a)
unfolding frame_type Fits
zero_read a = ap (λ (s : List ℕ). frame_at (s ++ a)) (sym zero_byte) ∙ frame_read_back Padding a tt

one_padding : (b : ℕ) (a : List ℕ) → b ≡ 0 → items_of (b ∷ a) ≡ padding_item ∷ items_of a
one_padding b a is = rw is (items_frame (0 ∷ a) (record { ty = 0x00; frame = Padding }) a (omega arith) (zero_read a))

pub padding_run : (n : ℕ) (a : List ℕ) → n ≤ length a → ((k : ℕ) → k < n → slice_index a k ≡ 0) → items_of a ≡ replicate n padding_item ++ items_of (drop n a)
padding_run zero a within zeros = refl
padding_run (suc n) [] within zeros = absurd (omega arith)
padding_run (suc n) (b ∷ a) within zeros =
    one_padding b a (zeros 0 (omega arith))
    ∙ ap (λ (items : List Item). padding_item ∷ items) (padding_run n a (omega arith) (λ k less. zeros (suc k) (omega arith)))

pub zeros_run : (n : ℕ) (a : List ℕ) → n ≤ length a → ((k : ℕ) → k < n → slice_index a k ≡ 0) → a ≡ replicate n 0 ++ drop n a
zeros_run zero a within zeros = refl
zeros_run (suc n) [] within zeros = absurd (omega arith)
zeros_run (suc n) (b ∷ a) within zeros =
    let first : b ≡ 0 = zeros 0 (omega arith) in
    rw first (ap (λ (bytes : List ℕ). 0 ∷ bytes) (zeros_run n a (omega arith) (λ k less. zeros (suc k) (omega arith))))

-- another byte comes behind the run
pub run_ends : (n : ℕ) (a rest : List ℕ) → (n < length a → slice_index a n ≡ 0 → ⊥) → drop n a ≡ 0 ∷ rest → ⊥
run_ends zero [] rest stops is = let size = ap length is in absurd (omega (arith, size))
run_ends zero (b ∷ a) rest stops is = stops (omega arith) (ap (λ (bytes : List ℕ). slice_index bytes 0) is)
run_ends (suc n) [] rest stops is = let size = ap length is in absurd (omega (arith, size))
run_ends (suc n) (b ∷ a) rest stops is = run_ends n a rest (λ less. stops (omega arith)) is
