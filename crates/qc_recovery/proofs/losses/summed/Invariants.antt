use Rattle.std.proofs.Common.{◌≡◌, ◌-◌, ◌≤◌, length, drop}
use Rattle.qc_recovery.specs.Losses.{report_from, report_of}
use Rattle.qc_recovery.proofs.losses.summed.Given as goal

abbrev pub invariant-loop-place : goal.invariant-loop-place
invariant-loop-place l = (l.place ≤ length l.lost) × (report_from l.space l.mtud l.report (drop l.place l.lost) ≡ report_of l.space l.mtud l.lost)

abbrev pub decreases-loop-place : goal.decreases-loop-place
decreases-loop-place l = length l.lost - l.place
