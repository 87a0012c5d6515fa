use Rattle.std.proofs.Common.{◌≡◌, ◌-◌, ◌≤◌, length}
use Rattle.qc_frame.specs.FrameReading.{more_ranges_at}
use Rattle.qc_frame.proofs.read.skip_more_ranges.Given as goal

abbrev pub invariant-loop-i : goal.invariant-loop-i
invariant-loop-i l = record {
  left : more_ranges_at (l.count - l.i) l.low l.rest ≡ more_ranges_at l.count l.smallest l.bytes;
  shorter : length l.rest ≤ length l.bytes;
}
