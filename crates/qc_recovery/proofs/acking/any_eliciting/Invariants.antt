use Rattle.std.proofs.Common.{◌≡◌, ◌-◌, ◌≤◌, length, drop}
use Rattle.qc_recovery.specs.Steps.{has_eliciting}
use Rattle.qc_recovery.proofs.acking.any_eliciting.Given as goal

abbrev pub invariant-loop-place : goal.invariant-loop-place
invariant-loop-place l = (l.place ≤ length l.packets) × (has_eliciting (drop l.place l.packets) ≡ has_eliciting l.packets)

abbrev pub decreases-loop-place : goal.decreases-loop-place
decreases-loop-place l = length l.packets - l.place
