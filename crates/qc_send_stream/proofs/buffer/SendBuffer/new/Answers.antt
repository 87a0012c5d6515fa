use Rattle.std.proofs.Common.{[], refl}
use Rattle.qc_send_stream.specs.Buffer.{nothing}
use Rattle.qc_send_stream.specs.Segments.{flat, Apart, EndBy, Listed, IsSound, buffered}
use Rattle.qc_send_stream.proofs.buffer.SendBuffer.new.Goals as goal

none_sound : IsSound 0 0 0 [] []
unfolding Apart EndBy Listed flat
none_sound = record { apart = tt; below = tt; listed = tt; counted = refl }

pub invariant_of-result : goal.invariant_of-result
invariant_of-result c = rw (c.new.ensures.empty, c.new-2.ensures.empty) none_sound

pub returns : goal.returns
unfolding nothing buffered flat
returns c = rw c.new.ensures.empty refl
