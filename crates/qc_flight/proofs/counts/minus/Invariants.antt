use Rattle.std.proofs.Common.{◌≡◌, ◌-◌, ◌≤◌, drop}
use Rattle.qc_flight.specs.Packets.{counts_minus}
use Rattle.qc_flight.proofs.counts.minus.Given as goal

abbrev pub invariant-loop-place : goal.invariant-loop-place
invariant-loop-place l = (l.place ≤ l.taken.len) × (counts_minus l.left (drop l.place l.taken.items) ≡ counts_minus l.fn.counts l.taken.items)

abbrev pub decreases-loop-place : goal.decreases-loop-place
decreases-loop-place l = l.taken.len - l.place
