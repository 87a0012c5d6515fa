use Rattle.std.proofs.Common.{◌≡◌, ◌+◌, ◌-◌, length}
use Rattle.qc_send_stream.specs.Segments.{Apart, flat, outside}
use Rattle.qc_send_stream.proofs.segments.remove.Given as goal

abbrev pub invariant-loop-at : goal.invariant-loop-at
invariant-loop-at l = record {
  same : outside l.start l.end l.segments.entries ≡ outside l.fn.start l.end l.fn.segments.entries;
  apart : Apart 0 l.segments.entries;
  counted : l.count + length (flat l.segments.entries) ≡ length (flat l.fn.segments.entries);
}

abbrev pub decreases-loop-at : goal.decreases-loop-at
decreases-loop-at l = l.end - l.start
