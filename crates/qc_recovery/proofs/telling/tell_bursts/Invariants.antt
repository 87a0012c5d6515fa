use Rattle.std.proofs.Common.{◌≡◌, ◌-◌, ◌≤◌, length, drop}
use Rattle.qc_flight.specs.Packets.{those}
use Rattle.qc_recovery.specs.Acking.{bursts_from, bursts_told}
use Rattle.qc_recovery.specs.Losses.{is_in_burst}
use Rattle.qc_recovery.proofs.telling.tell_bursts.Given as goal

abbrev pub invariant-loop-place : goal.invariant-loop-place
invariant-loop-place g l = (l.place ≤ length l.lost) × (bursts_from g.C.Controller l.now l.burst (those (is_in_burst l.space l.search) (drop l.place l.lost)) l.path ≡ bursts_told g.C.Controller l.now l.space l.lost l.fn.path)

abbrev pub decreases-loop-place : goal.decreases-loop-place
decreases-loop-place g l = length l.lost - l.place
