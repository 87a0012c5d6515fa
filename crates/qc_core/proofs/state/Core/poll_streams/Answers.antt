use Rattle.qc_state.specs.View.{ideal}
use Rattle.qc_core.proofs.StreamCalls.{lost_first}
use Rattle.qc_core.proofs.state.Core.poll_streams.Goals as goal

-- where the streams have no event, the reason of the end is first
pub returns-in-None-clause-event : goal.returns-in-None-clause-event
returns-in-None-clause-event g c = lost_first (ideal g.U.Random.Rng.stream c.args.self.now) _ _ _ c.do_report_stream.ensures.event c.in-None.is c.do_report_stream.ensures.leads c.poll_lost.ensures.event
