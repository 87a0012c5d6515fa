use Rattle.std.proofs.Common.{◌≡◌, ◌-◌, ◌≤◌, length, drop}
use Rattle.qc_recovery.specs.Acking.{acks_told}
use Rattle.qc_recovery.proofs.telling.tell_acks.Given as goal

abbrev pub invariant-loop-place : goal.invariant-loop-place
invariant-loop-place g l = (l.place ≤ length l.acked) × (acks_told g.C.Controller l.now l.space l.limited (drop l.place l.acked) l.path ≡ acks_told g.C.Controller l.now l.space l.limited l.acked l.fn.path)

abbrev pub decreases-loop-place : goal.decreases-loop-place
decreases-loop-place g l = length l.acked - l.place
