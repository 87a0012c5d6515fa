use Rattle.qc_conn.proofs.Reports.{endpoint_told, endpoint_leads}
use Rattle.qc_conn.proofs.steps.take_endpoint_events.Goals as goal

-- the events that waited
pub returns-clause-events : goal.returns-clause-events
returns-clause-events g c = endpoint_told _ _ _ _ _ c.take_notices-events.ensures.events c.take_notices-events.ensures.leads c.poll_drained.ensures.event c.in_ok-push.ensures.ok

-- they wait no longer
pub returns-clause-leads : goal.returns-clause-leads
returns-clause-leads g c = endpoint_leads _ _ _ c.take_notices-events.ensures.leads c.poll_drained.ensures.leads
