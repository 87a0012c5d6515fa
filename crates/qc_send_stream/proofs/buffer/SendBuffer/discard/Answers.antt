use Rattle.std.proofs.Common.{ℕ, [], refl, arith}
use Rattle.qc_send_stream.specs.Buffer.{discarded}
use Rattle.qc_send_stream.specs.Segments.{flat, Apart, EndBy, Listed, IsSound, buffered}
use Rattle.qc_send_stream.proofs.buffer.SendBuffer.discard.Goals as goal

none_sound : (written sent : ℕ) → IsSound written sent written [] []
unfolding Apart EndBy Listed flat
none_sound written sent = record { apart = tt; below = tt; listed = tt; counted = omega arith }

pub invariant_of-self : goal.invariant_of-self
invariant_of-self c = rw (c.clear.ensures.empty, c.clear-2.ensures.empty) (none_sound c.self.inside.written c.self.inside.sent)

pub returns : goal.returns
unfolding discarded buffered flat
returns c = rw (c.clear.ensures.empty, ← c.self.view_is) refl
