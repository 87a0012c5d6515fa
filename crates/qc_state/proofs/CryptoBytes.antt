-- The bytes of a CRYPTO stream, from what the calls on their buffer say.
use Rattle.std.proofs.Common.{◌≡◌, ℕ, ◌+◌, ◌<◌, ◌≤◌, List, length, min, Some, refl, sym, arith}
use Rattle.qc_send_stream.specs.Buffer.{Buffer, IsNext, part_bytes, part_offset, range_lost}
use Rattle.qc_state.specs.Waiting.{StartsWith}

-- the bytes that are offered wait first
pub starts : (most : ℕ) (b : Buffer) (offset : ℕ) (body : List ℕ) → IsNext most b (Some (offset, body)) → 0 < most → offset + length body ≤ b.written → StartsWith b offset body
unfolding part_offset part_bytes
starts most b offset body next some within = record { some = next.some (sym next.given) some; first = next.first; within = within }

-- where bytes are lost, the end of the range counts no further than bytes were sent
pub lost_below : (offset count end sent : ℕ) (b : Buffer) → sent < 18446744073709551616 → sent ≡ b.sent → end ≡ min (min (offset + count) 18446744073709551615) sent → range_lost offset end b ≡ range_lost offset (offset + count) b
unfolding range_lost
lost_below offset count end sent b small is_sent is_end =
    let e : min end b.sent ≡ min (offset + count) b.sent = omega (arith, small, is_sent, is_end) in rw e refl
