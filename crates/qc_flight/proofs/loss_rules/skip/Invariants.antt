use Rattle.std.proofs.Common.{◌-◌, ◌≤◌, length, drop}
use Rattle.qc_flight.specs.Packets.{Skips}
use Rattle.qc_flight.proofs.loss_rules.skip.Given as goal

abbrev pub invariant-loop-at : goal.invariant-loop-at
invariant-loop-at l = (l.at ≤ length l.ranges) × Skips l.number (drop l.place l.ranges) (drop l.at l.ranges)

abbrev pub decreases-loop-at : goal.decreases-loop-at
decreases-loop-at l = length l.ranges - l.at
