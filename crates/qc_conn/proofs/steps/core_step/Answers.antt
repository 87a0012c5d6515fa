use Rattle.std.proofs.Common.{refl}
use Rattle.qc_laws.proofs.Steps.{is_step_reported}
use Rattle.qc_conn.proofs.steps.core_step.Goals as goal

pub returns : goal.returns
returns g c = is_step_reported _ _ _ _ _ _ _ _ _ c.requires.forward c.in_ok-answer.ensures refl c.in_ok-events.ensures.leads c.in_ok-endpoint.ensures.leads c.in_ok-events.ensures.events c.in_ok-endpoint.ensures.events c.poll_timeout-timeout.ensures refl c.word.ensures c.time.ensures
