use Rattle.std.proofs.Common.{◌≡◌, map, drop}
use Rattle.qc_frame.specs.Frame.{owned}
use Rattle.qc_state.specs.Ids.{lost_cids}
use Rattle.qc_cids.specs.Steps.{after}
use Rattle.qc_state.proofs.id_settling.each_lost.Given as goal

-- the frames that are left lead to where all do
abbrev pub invariant-loop-frame : goal.invariant-loop-frame
invariant-loop-frame l = after (lost_cids (map owned (drop l.frame-index l.frames))) l.ids ≡ after (lost_cids (map owned l.frames)) l.fn.ids
