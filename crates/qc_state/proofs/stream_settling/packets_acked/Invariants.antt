use Rattle.std.proofs.Common.{◌≡◌, ◌-◌, ◌≤◌, drop, length}
use Rattle.qc_state.specs.StreamFrames.{acked_steps}
use Rattle.qc_streams.specs.Waits.{after}
use Rattle.qc_state.proofs.stream_settling.packets_acked.Given as goal

-- the packets that are left lead to where all do
abbrev pub invariant-loop-place : goal.invariant-loop-place
invariant-loop-place l = (l.place ≤ length l.acked) × (after (acked_steps (drop l.place l.acked)) l.streams ≡ after (acked_steps l.acked) l.fn.streams)

abbrev pub decreases-loop-place : goal.decreases-loop-place
decreases-loop-place l = length l.acked - l.place
