use Rattle.std.proofs.Common.{◌≡◌, ◌-◌, ◌≤◌, drop, length}
use Rattle.qc_state.specs.StreamFrames.{lost_steps}
use Rattle.qc_streams.specs.Waits.{after}
use Rattle.qc_state.proofs.stream_settling.packets_lost.Given as goal

-- the packets that are left lead to where all do
abbrev pub invariant-loop-place : goal.invariant-loop-place
invariant-loop-place l = (l.place ≤ length l.lost) × (after (lost_steps (drop l.place l.lost)) l.streams ≡ after (lost_steps l.lost) l.fn.streams)

abbrev pub decreases-loop-place : goal.decreases-loop-place
decreases-loop-place l = length l.lost - l.place
