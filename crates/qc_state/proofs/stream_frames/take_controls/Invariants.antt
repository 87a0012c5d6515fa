use Rattle.std.proofs.Common.{true}
use Rattle.qc_state.specs.Taking.{TakesStreams}
use Rattle.qc_state.proofs.stream_frames.take_controls.Given as goal

-- what was taken so far leaves so much of the room
abbrev pub invariant-loop-control : goal.invariant-loop-control
invariant-loop-control l = TakesStreams true l.room l.fn.streams l.streams l.fn.frames l.frames l.left

abbrev pub decreases-loop-control : goal.decreases-loop-control
decreases-loop-control l = l.left
