use Rattle.qc_laws.proofs.Steps.{calls_send}
use Rattle.qc_conn.proofs.steps.send_call.Goals as goal

pub returns : goal.returns
returns g c = calls_send _ _ _ _ _ _ _ _ c.clock.ensures c.in_ok-answer.ensures.leads c.requires c.in_ok-answer.ensures.answer
