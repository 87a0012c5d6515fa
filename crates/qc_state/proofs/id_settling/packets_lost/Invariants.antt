use Rattle.std.proofs.Common.{◌≡◌, ◌-◌, ◌≤◌, drop, length}
use Rattle.qc_state.specs.Ids.{lost_ids}
use Rattle.qc_cids.specs.Steps.{after}
use Rattle.qc_state.proofs.id_settling.packets_lost.Given as goal

-- the packets that are left lead to where all do
abbrev pub invariant-loop-place : goal.invariant-loop-place
invariant-loop-place l = (l.place ≤ length l.lost) × (after (lost_ids (drop l.place l.lost)) l.ids ≡ after (lost_ids l.lost) l.fn.ids)

abbrev pub decreases-loop-place : goal.decreases-loop-place
decreases-loop-place l = length l.lost - l.place
