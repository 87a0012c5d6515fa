use Rattle.std.proofs.Common.{◌≡◌, true}
use Rattle.qc_state.specs.Taking.{TakesStreams}
use Rattle.qc_state.proofs.stream_frames.take_parts.Given as goal
use Rattle.qc_streams.specs.Control.{next_control}

-- what was taken so far leaves so much of the room, and the frames without bytes
abbrev pub invariant-loop-drawn : goal.invariant-loop-drawn
invariant-loop-drawn l = record {
  takes : TakesStreams true l.room l.fn.streams l.streams l.fn.frames l.frames l.left;
  rest : next_control 64 l.streams ≡ next_control 64 l.fn.streams;
}

abbrev pub decreases-loop-drawn : goal.decreases-loop-drawn
decreases-loop-drawn l = l.left
