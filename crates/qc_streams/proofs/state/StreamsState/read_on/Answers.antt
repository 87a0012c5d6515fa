use Rattle.qc_streams.proofs.Views.{left_so}
use Rattle.qc_streams.proofs.state.StreamsState.read_on.Goals as goal

pub returns-in-Err-clause-leads : goal.returns-in-Err-clause-leads
returns-in-Err-clause-leads c =
    left_so c.in-Err.fault c.mark_read.result c.args.most c.args.ordered c.args.id c.args.self.now c.read.new.self c.mark_read.new.self c.mark_read.ensures.error c.requires
    c.in-Err.ensures.answer c.in-Err.ensures.leads c.mark_read.ensures.marked
