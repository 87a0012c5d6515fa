use Rattle.std.proofs.Common.{◌≡◌, map, drop}
use Rattle.qc_frame.specs.Frame.{owned}
use Rattle.qc_state.specs.StreamFrames.{controls_acked}
use Rattle.qc_streams.specs.Waits.{after}
use Rattle.qc_state.proofs.stream_settling.each_control_acked.Given as goal

-- the frames that are left lead to where all do
abbrev pub invariant-loop-frame : goal.invariant-loop-frame
invariant-loop-frame l = after (controls_acked (map owned (drop l.frame-index l.frames))) l.streams ≡ after (controls_acked (map owned l.frames)) l.fn.streams
