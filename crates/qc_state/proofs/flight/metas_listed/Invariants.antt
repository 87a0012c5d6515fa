use Rattle.std.proofs.Common.{◌≡◌, ◌++◌, map, drop}
use Rattle.qc_frame.specs.Frame.{owned}
use Rattle.qc_state.specs.Flight.{metas_of}
use Rattle.qc_state.proofs.flight.metas_listed.Given as goal

-- what was kept, and what is kept of the frames that are left, is what is kept of all
abbrev pub invariant-loop-frame : goal.invariant-loop-frame
invariant-loop-frame l = l.metas ++ metas_of (map owned (drop l.frame-index l.frames)) ≡ metas_of (map owned l.frames)
