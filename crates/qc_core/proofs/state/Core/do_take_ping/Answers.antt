use Rattle.qc_core.proofs.TakenPings.{ping_taken}
use Rattle.qc_core.proofs.state.Core.do_take_ping.Goals as goal

-- a PING is no step of a layer below
pub returns-clause-leads : goal.returns-clause-leads
returns-clause-leads g c = ping_taken g.U.Random.Rng.stream c.args.self.now _ c.self.view_is
