use Rattle.std.proofs.Common.{◌≡◌}
use Rattle.qc_recovery.proofs.ack.ranges_down.Given as goal

abbrev pub invariant-loop-range : goal.invariant-loop-range
invariant-loop-range l = l.ranges.items ≡ l.yielded
