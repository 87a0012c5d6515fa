use Rattle.std.proofs.Common.{◌≡◌, ◌-◌, ◌≤◌, length, drop}
use Rattle.qc_recovery.specs.Losses.{marks_span, persists, scans, start_after}
use Rattle.qc_recovery.proofs.persistent.is_persistent.Given as goal

abbrev pub invariant-loop-place : goal.invariant-loop-place
invariant-loop-place l = (l.place ≤ length l.lost) × (scans (marks_span l.space l.mtud) l.span l.least l.before l.from (drop l.place l.lost) ≡ persists (marks_span l.space l.mtud) l.span (start_after l.space l.fn.sample) l.lost)

abbrev pub decreases-loop-place : goal.decreases-loop-place
decreases-loop-place l = length l.lost - l.place
