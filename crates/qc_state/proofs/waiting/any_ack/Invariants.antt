use Rattle.std.proofs.Common.{◌≡◌, map, drop}
use Rattle.std.specs.List.{list_any}
use Rattle.qc_frame.specs.Frame.{owned}
use Rattle.qc_state.specs.Acks.{is_ack}
use Rattle.qc_state.proofs.waiting.any_ack.Given as goal

-- what is left decides
abbrev pub invariant-loop-frame : goal.invariant-loop-frame
invariant-loop-frame l = list_any is_ack (map owned (drop l.frame-index l.frames)) ≡ list_any is_ack (map owned l.frames)
