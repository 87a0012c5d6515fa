use Rattle.qc_laws.proofs.Steps.{calls_recv}
use Rattle.qc_conn.proofs.steps.recv_call.Goals as goal

pub returns : goal.returns
returns g c = calls_recv _ _ _ _ _ _ _ c.clock.ensures c.in_ok-answer.ensures.leads c.requires c.in_ok-answer.ensures.answer
