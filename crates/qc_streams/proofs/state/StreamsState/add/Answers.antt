use Rattle.qc_streams.proofs.Places.{add_undone}
use Rattle.qc_streams.proofs.state.StreamsState.add.Goals as goal

pub returns-in-Err-clause-err : goal.returns-in-Err-clause-err
returns-in-Err-clause-err c =
    add_undone c.args.self.now c.insert.new.self c.add_place.new.self c.drop_place.new.self c.in-Err.ensures.err c.in_ok-add_place.ensures.added
    c.drop_place.ensures
