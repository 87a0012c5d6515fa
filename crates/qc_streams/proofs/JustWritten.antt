-- Bytes that were just written wait
use Rattle.std.proofs.Common.{◌≡◌, ◌∙◌, ℕ, ◌+◌, ◌<◌, ◌≤◌, Bool, true, false, cond, not, ◌&&◌, ◌||◌, nat_le, List, [], ◌∷◌, ◌++◌, length, take, Option, None, Some, is_some, ap, arith, refl}
use Rattle.std.proofs.lemmas.Bool.Decides.{nat_tests}
use Rattle.std.proofs.lemmas.List.{length-take-le}
use Rattle.qc_send_stream.specs.declared.send.SendPart.{SendPart}
use Rattle.qc_send_stream.specs.declared.send.Reset.{Reset}
use Rattle.qc_send_stream.specs.declared.send.Standing.{Standing}
use Rattle.qc_send_stream.specs.Buffer.{Buffer, Kept, bytes_written, from_lost, from_offset, has_bytes, row, waiting}
use Rattle.qc_send_stream.specs.Sending.{end_waits, has_more, is_closed, write_refusal}
use Rattle.qc_streams.proofs.Done.{open_side}

is_there : (b : Bool) (k : Kept) (ks rest : List Kept) → has_bytes rest ≡ true → has_bytes (cond b (k ∷ ks) rest) ≡ true
unfolding has_bytes
is_there true k ks rest is = refl
is_there false k ks rest is = is

first_there : (t : Bool) (k : Kept) (ks rest : List Kept) → t ≡ true → has_bytes (cond t (k ∷ ks) rest) ≡ true
unfolding has_bytes
first_there true k ks rest is = refl
first_there false k ks rest is = absurd (cc)

le_so : (n m : ℕ) → n ≤ m → nat_le n m ≡ true
le_so n m less = grind (arith, nat_tests)

fresh : (sent o : ℕ) (ks : List Kept) (bs : List ℕ) → sent ≤ o → 0 < length bs → has_bytes (from_offset sent (ks ++ row false o bs)) ≡ true
unfolding from_offset row
fresh sent o [] [] least some = absurd (omega (arith, some))
fresh sent o [] (b ∷ bs) least some = first_there (nat_le sent o) _ _ _ (le_so sent o least)
fresh sent o (k ∷ ks) bs least some = is_there (nat_le sent k.offset) k (ks ++ row false o bs) (from_offset sent (ks ++ row false o bs)) (fresh sent o ks bs least some)

either : (ks rest : List Kept) → has_bytes rest ≡ true → has_bytes (cond (has_bytes ks) ks rest) ≡ true
unfolding has_bytes
either [] rest is = is
either (k ∷ ks) rest is = refl

waits : (bs : List ℕ) (b : Buffer) → b.sent ≤ b.written → 0 < length bs → has_bytes (waiting (bytes_written bs b)) ≡ true
unfolding waiting bytes_written
waits bs b least some = either (from_lost (b.kept ++ row false b.written bs)) (from_offset b.sent (b.kept ++ row false b.written bs)) (fresh b.sent b.written b.kept bs least some)

not_reset : (end : Option Standing) (r : Option Reset) → (is_some end || is_some r) ≡ false → is_some r ≡ false
not_reset None r is = is
not_reset (Some x) r is = absurd (cc)

owes : (reset bytes end : Bool) → reset ≡ false → bytes ≡ true → (not reset && (bytes || end)) ≡ true
owes true bytes end is has = absurd (cc)
owes false true end is has = refl
owes false false end is has = absurd (cc)

-- bytes of a side wait that were just written, where those before them were sent at most
pub written_more : (budget n : ℕ) (bs : List ℕ) (p p' q : SendPart) (b : Buffer) → write_refusal budget p ≡ None → p' ≡ p → p'.buffer.sent ≤ p'.buffer.written
    → 0 < n → n ≤ length bs → b ≡ bytes_written (take n bs) p'.buffer → q ≡ record p' { buffer = b } → has_more q ≡ true
unfolding has_more is_closed
written_more budget n bs p p' q b fits same least some there written is =
    let long : 0 < length (take n bs) = omega (arith, some, length-take-le n bs there) in
    let none : (is_some p.end || is_some p.reset) ≡ false = open_side budget p fits in
    ap (λ (x : SendPart). not (is_some x.reset) && (has_bytes (waiting x.buffer) || end_waits x.end)) is
    ∙ owes (is_some p'.reset) (has_bytes (waiting b)) (end_waits p'.end) (ap (λ (x : SendPart). is_some x.reset) same ∙ not_reset p.end p.reset none)
    (ap (λ (x : Buffer). has_bytes (waiting x)) written ∙ waits (take n bs) p'.buffer least long)
