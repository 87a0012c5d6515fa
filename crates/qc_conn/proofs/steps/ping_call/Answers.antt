use Rattle.std.proofs.Common.{refl}
use Rattle.qc_laws.proofs.Steps.{calls_ping}
use Rattle.qc_conn.proofs.steps.ping_call.Goals as goal

pub returns : goal.returns
returns g c = calls_ping _ _ _ _ _ _ _ c.clock.ensures c.ping.ensures c.requires refl
