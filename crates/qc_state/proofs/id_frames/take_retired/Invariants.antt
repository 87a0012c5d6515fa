use Rattle.std.proofs.Common.{◌≡◌}
use Rattle.qc_cids.specs.Cids.{next_told}
use Rattle.qc_state.specs.Taking.{TakesIds}
use Rattle.qc_state.proofs.id_frames.take_retired.Given as goal

-- what was taken so far leaves so much of the room, and the ids that are to be told
abbrev pub invariant-loop-sequence : goal.invariant-loop-sequence
invariant-loop-sequence l = record {
  takes : TakesIds l.room l.fn.ids l.ids l.fn.frames l.frames l.left;
  rest : next_told l.ids ≡ next_told l.fn.ids;
}

abbrev pub decreases-loop-sequence : goal.decreases-loop-sequence
decreases-loop-sequence l = l.left
