use Rattle.std.proofs.Common.{length}
use Rattle.qc_send_stream.specs.Segments.{Listed}
use Rattle.qc_send_stream.proofs.ends.first_lost.Given as goal

abbrev pub invariant-loop-end : goal.invariant-loop-end
invariant-loop-end l = Listed l.segments.entries l.lost.keys

abbrev pub decreases-loop-end : goal.decreases-loop-end
decreases-loop-end l = length l.lost.keys
