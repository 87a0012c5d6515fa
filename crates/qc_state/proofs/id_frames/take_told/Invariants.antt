use Rattle.qc_state.specs.Taking.{TakesIds}
use Rattle.qc_state.proofs.id_frames.take_told.Given as goal

-- what was taken so far leaves so much of the room
abbrev pub invariant-loop-new : goal.invariant-loop-new
invariant-loop-new l = TakesIds l.room l.fn.ids l.ids l.fn.frames l.frames l.left

abbrev pub decreases-loop-new : goal.decreases-loop-new
decreases-loop-new l = l.left
