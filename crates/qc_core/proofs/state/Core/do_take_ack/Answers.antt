use Rattle.qc_core.proofs.TakenAcks.{ack_taken}
use Rattle.qc_core.proofs.state.Core.do_take_ack.Goals as goal

-- an ACK is no step of the streams
pub returns-clause-leads : goal.returns-clause-leads
returns-clause-leads g c = ack_taken g.U.Random.Rng.stream c.take_ack.result c.args.self.now _ c.args.now c.args.room c.args.space _ _ c.self.view_is c.take_ack.ensures.frames c.take_ack.ensures.rest
