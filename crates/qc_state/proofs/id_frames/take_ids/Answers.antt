use Rattle.qc_state.proofs.IdsTaken.{none_left, takes_ids_both}
use Rattle.qc_state.proofs.id_frames.take_ids.Goals as goal

-- first those that tell ids
pub returns-clause-takes : goal.returns-clause-takes
returns-clause-takes c = takes_ids_both c.args.room c.in_ok-more.more c.in_ok-left.left c.args.ids.now c.take_told.new.ids c.take_retired.new.ids c.args.frames.now c.take_told.new.frames c.take_retired.new.frames c.in_ok-more.ensures.takes c.in_ok-left.ensures.takes

-- no frame is left that has room
pub returns-clause-full : goal.returns-clause-full
returns-clause-full c =
    none_left c.in_ok-more.more c.in_ok-left.left c.take_told.new.ids c.take_retired.new.ids c.take_told.new.frames c.take_retired.new.frames c.in_ok-more.ensures.full c.in_ok-left.ensures.takes c.in_ok-left.ensures.full
    c.in_ok-left.ensures.rest
