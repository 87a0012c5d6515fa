use Rattle.std.proofs.Common.{◌≡◌, map, drop}
use Rattle.qc_frame.specs.Frame.{owned}
use Rattle.qc_state.specs.Waiting.{all_confirmed}
use Rattle.qc_state.proofs.settling.each_confirmed.Given as goal

-- the frames that are left lead to where all do
abbrev pub invariant-loop-frame : goal.invariant-loop-frame
invariant-loop-frame l = all_confirmed l.space (map owned (drop l.frame-index l.frames)) ≡ all_confirmed l.fn.space (map owned l.frames)
