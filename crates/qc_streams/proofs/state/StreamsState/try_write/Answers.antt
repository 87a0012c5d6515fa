use Rattle.qc_streams.proofs.Views.{unwritten_so}
use Rattle.qc_streams.proofs.state.StreamsState.try_write.Goals as goal

pub returns-in-Err-clause-err : goal.returns-in-Err-clause-err
returns-in-Err-clause-err c =
    unwritten_so c.in-Err.error c.mark_write.result c.args.id c.args.self.now c.write_copy.new.self c.mark_write.new.self c.mark_write.ensures.error
    c.in-Err.ensures.err c.mark_write.ensures.marked
