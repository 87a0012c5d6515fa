use Rattle.std.proofs.Common.{◌-◌}
use Rattle.qc_send_stream.specs.Segments.{Listed, Noted}
use Rattle.qc_send_stream.proofs.ends.note_range.Given as goal

abbrev pub invariant-loop-at : goal.invariant-loop-at
invariant-loop-at l = record {
  noted : Noted l.fn.start l.start l.segments.entries l.lost.keys;
  listed : Listed l.segments.entries l.lost.keys;
}

abbrev pub decreases-loop-at : goal.decreases-loop-at
decreases-loop-at l = l.end - l.start
