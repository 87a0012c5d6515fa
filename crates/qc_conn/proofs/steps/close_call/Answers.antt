use Rattle.std.proofs.Common.{refl, ◌∙◌}
use Rattle.qc_laws.proofs.Steps.{calls_close}
use Rattle.qc_conn.proofs.steps.close_call.Goals as goal

pub returns : goal.returns
returns g c = calls_close _ _ _ _ _ _ _ _ _ _ c.clock.ensures c.requires (c.in_ok-reason.ensures ∙ c.as_slice.ensures) c.in_ok-close_told.ensures refl
