use Rattle.std.proofs.Common.{◌≡◌, map, drop}
use Rattle.std.specs.List.{list_any}
use Rattle.qc_frame.specs.Frame.{owned}
use Rattle.qc_state.specs.Flight.{is_padding}
use Rattle.qc_state.proofs.flight.any_padding.Given as goal

-- what is left decides
abbrev pub invariant-loop-frame : goal.invariant-loop-frame
invariant-loop-frame l = list_any is_padding (map owned (drop l.frame-index l.frames)) ≡ list_any is_padding (map owned l.frames)
