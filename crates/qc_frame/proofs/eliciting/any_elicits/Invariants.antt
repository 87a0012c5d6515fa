use Rattle.std.proofs.Common.{◌≡◌, map, drop}
use Rattle.std.specs.List.{list_any}
use Rattle.qc_frame.specs.Frame.{owned}
use Rattle.qc_frame.specs.FrameSpelling.{elicits}
use Rattle.qc_frame.proofs.eliciting.any_elicits.Given as goal

-- what is left decides
abbrev pub invariant-loop-frame : goal.invariant-loop-frame
invariant-loop-frame l = list_any elicits (map owned (drop l.frame-index l.frames)) ≡ list_any elicits (map owned l.frames)
