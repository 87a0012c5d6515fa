use Rattle.qc_laws.proofs.Steps.{calls_transmit, transmits_began}
use Rattle.qc_conn.proofs.steps.transmit_call.Goals as goal

pub returns : goal.returns
returns g c = calls_transmit _ _ _ _ _ _ _ _ (transmits_began _ _ _ _ _ _ _ _ _ c.clock.ensures c.requires.none c.in_ok-sent.ensures.sends) c.sent_answer.ensures
