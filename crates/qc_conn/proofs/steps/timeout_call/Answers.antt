use Rattle.std.proofs.Common.{refl}
use Rattle.qc_laws.proofs.Steps.{calls_timeout}
use Rattle.qc_conn.proofs.steps.timeout_call.Goals as goal

pub returns : goal.returns
returns g c = calls_timeout _ _ _ _ _ _ _ c.clock.ensures c.requires c.in_ok-handle_timeout.ensures.leads refl
