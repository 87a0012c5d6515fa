use Rattle.std.proofs.Common.{◌≡◌, map, drop}
use Rattle.qc_frame.specs.Frame.{owned}
use Rattle.qc_state.specs.Waiting.{all_again}
use Rattle.qc_state.proofs.settling.each_again.Given as goal

-- the frames that are left lead to where all do
abbrev pub invariant-loop-frame : goal.invariant-loop-frame
invariant-loop-frame l = all_again l.space (map owned (drop l.frame-index l.frames)) ≡ all_again l.fn.space (map owned l.frames)
