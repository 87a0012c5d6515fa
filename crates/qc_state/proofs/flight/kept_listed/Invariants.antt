use Rattle.std.proofs.Common.{◌≡◌, ◌++◌, map, drop}
use Rattle.qc_frame.specs.Frame.{owned}
use Rattle.qc_state.specs.Flight.{kept_frames}
use Rattle.qc_state.proofs.flight.kept_listed.Given as goal

-- what was kept, and what is kept of the frames that are left, is what is kept of all
abbrev pub invariant-loop-frame : goal.invariant-loop-frame
invariant-loop-frame l = l.kept ++ kept_frames (map owned (drop l.frame-index l.frames)) ≡ kept_frames (map owned l.frames)
