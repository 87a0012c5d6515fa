-- The buffer of a sending side, and the bytes that were written to it
use Rattle.std.proofs.Common.{◌≡◌, ◌∙◌, ℕ, ◌+◌, List, [], ◌∷◌, ◌++◌, length, take, drop, Option, ap, sym, subst, append_assoc, length-append, arith, refl}
use Rattle.std.proofs.lemmas.List.{append-nil}
use Rattle.qc_send_stream.specs.Buffer.{Buffer, IsNext, bytes_written, discarded, nothing, part_bytes, part_offset, range_acked, range_lost, range_sealed}
use Rattle.qc_send_stream.specs.Written.{Step as BufferStep, Wrote as BufferWrote, Sealed, Acked, Lost, Discarded, SendsWhatWasWritten as BufferSends, after as buffer_after, after_step as buffer_step, all_written, wrote as bytes_of}
use Rattle.qc_send_stream.proofs.WrittenLaw.{sends_what_was_written as buffer_sends}

-- steps of a buffer that leave it so, and write those bytes
pub record Traced (written : List ℕ) (b : Buffer) : Type 0 where
  pub steps : List BufferStep
  pub leave : buffer_after steps nothing ≡ b
  pub write : all_written steps ≡ written

pub traced_nothing : Traced [] nothing
unfolding buffer_after all_written
traced_nothing = record { steps = []; leave = refl; write = refl }

after_one_more : (xs : List BufferStep) (x : BufferStep) (b : Buffer) → buffer_after (xs ++ x ∷ []) b ≡ buffer_step x (buffer_after xs b)
unfolding buffer_after
after_one_more [] x b = refl
after_one_more (y ∷ xs) x b = after_one_more xs x (buffer_step y b)

written_one_more : (xs : List BufferStep) (x : BufferStep) → all_written (xs ++ x ∷ []) ≡ all_written xs ++ bytes_of x
unfolding all_written
written_one_more [] x = append-nil (bytes_of x)
written_one_more (y ∷ xs) x = ap (λ (l : List ℕ). bytes_of y ++ l) (written_one_more xs x) ∙ sym (append_assoc (bytes_of y) (all_written xs) (bytes_of x))

-- one step more
pub traced_step : (x : BufferStep) (written : List ℕ) (b : Buffer) → Traced written b → Traced (written ++ bytes_of x) (buffer_step x b)
traced_step x written b t = record {
  steps = t.steps ++ x ∷ [];
  leave = after_one_more t.steps x nothing ∙ ap (λ (c : Buffer). buffer_step x c) t.leave;
  write = written_one_more t.steps x ∙ ap (λ (l : List ℕ). l ++ bytes_of x) t.write;
}

-- one step more, which writes nothing
pub traced_still : (x : BufferStep) (written : List ℕ) (b : Buffer) → bytes_of x ≡ [] → Traced written b → Traced written (buffer_step x b)
traced_still x written b none t =
    subst (λ (l : List ℕ). Traced l (buffer_step x b)) (ap (λ (l : List ℕ). written ++ l) none ∙ append-nil written) (traced_step x written b t)

counted_step : (x : BufferStep) (b : Buffer) → (buffer_step x b).written ≡ b.written + length (bytes_of x)
unfolding buffer_step bytes_of bytes_written range_sealed range_acked range_lost discarded
counted_step (BufferWrote bs) b = refl
counted_step (Sealed start end) b = omega arith
counted_step (Acked start end) b = omega arith
counted_step (Lost start end) b = omega arith
counted_step Discarded b = omega arith

counted_after : (xs : List BufferStep) (b : Buffer) → (buffer_after xs b).written ≡ b.written + length (all_written xs)
unfolding buffer_after all_written
counted_after [] b = omega arith
counted_after (x ∷ xs) b =
    omega (arith, counted_after xs (buffer_step x b), counted_step x b, length-append (bytes_of x) (all_written xs))

-- as many bytes are counted as were written
pub traced_count : (written : List ℕ) (b : Buffer) → Traced written b → b.written ≡ length written
unfolding nothing
traced_count written b t =
    let all : (buffer_after t.steps nothing).written ≡ 0 + length (all_written t.steps) = counted_after t.steps nothing in
    ap (λ (c : Buffer). c.written) (sym t.leave) ∙ (omega (arith, all)) ∙ ap (λ (l : List ℕ). length l) t.write

-- what may be sent next are bytes that were written
pub traced_next : (written : List ℕ) (b : Buffer) (most : ℕ) (bytes : Option (ℕ × List ℕ)) → IsNext most b bytes → Traced written b
    → part_bytes bytes ≡ take (length (part_bytes bytes)) (drop (part_offset bytes) written)
unfolding BufferSends
traced_next written b most bytes next t =
    subst (λ (l : List ℕ). part_bytes bytes ≡ take (length (part_bytes bytes)) (drop (part_offset bytes) l)) t.write
    (buffer_sends t.steps most bytes (subst (λ (c : Buffer). IsNext most c bytes) (sym t.leave) next))
