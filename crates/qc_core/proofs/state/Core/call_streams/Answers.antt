use Rattle.std.proofs.lemmas.Result.{IfOk-weaker}
use Rattle.qc_core.proofs.StreamCalls.{core_calls}
use Rattle.qc_core.proofs.state.Core.call_streams.Goals as goal

pub returns : goal.returns
returns g c = IfOk-weaker _ _ _ (λ answer h. core_calls g.U.Random.Rng.stream _ c.args.self.now _ c.call.new.streams answer c.self.view_is h) c.call.ensures
