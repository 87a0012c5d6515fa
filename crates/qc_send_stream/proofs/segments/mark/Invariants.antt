use Rattle.std.proofs.Common.{◌≡◌, ◌-◌}
use Rattle.qc_send_stream.specs.Segments.{Apart, stood}
use Rattle.qc_send_stream.proofs.segments.mark.Given as goal

abbrev pub invariant-loop-at : goal.invariant-loop-at
invariant-loop-at l = record {
  same : stood l.lost l.start l.end l.segments.entries ≡ stood l.lost l.fn.start l.end l.fn.segments.entries;
  apart : Apart 0 l.segments.entries;
}

abbrev pub decreases-loop-at : goal.decreases-loop-at
decreases-loop-at l = l.end - l.start
