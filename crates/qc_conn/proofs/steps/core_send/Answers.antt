use Rattle.qc_laws.proofs.Steps.{transmits_began}
use Rattle.qc_conn.proofs.steps.core_send.Goals as goal

pub returns : goal.returns
returns g c = record { deeds = c.transmit.new.did; transmits = transmits_began _ _ _ _ _ _ _ _ _ c.clock.ensures c.clear.ensures c.in_ok-sent.ensures.sends }
