use Rattle.std.proofs.Common.{◌≡◌, map, drop}
use Rattle.qc_frame.specs.Frame.{owned}
use Rattle.qc_state.specs.StreamFrames.{controls_lost}
use Rattle.qc_streams.specs.Waits.{after}
use Rattle.qc_state.proofs.stream_settling.each_control_lost.Given as goal

-- the frames that are left lead to where all do
abbrev pub invariant-loop-frame : goal.invariant-loop-frame
invariant-loop-frame l = after (controls_lost (map owned (drop l.frame-index l.frames))) l.streams ≡ after (controls_lost (map owned l.frames)) l.fn.streams
