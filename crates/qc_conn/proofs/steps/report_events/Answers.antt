use Rattle.qc_conn.proofs.Reports.{events_told, reports_lead}
use Rattle.qc_conn.proofs.steps.report_events.Goals as goal

-- the events that waited
pub returns-clause-events : goal.returns-clause-events
returns-clause-events g c =
    events_told _ _ _ _ _ _ _ _ _ _ _ _ _ _ c.new-events.ensures c.poll_ready.ensures.event c.poll_ready.ensures.leads c.in_ok-report_next.ensures c.poll_connected.ensures.event c.poll_connected.ensures.leads c.in_ok-report_next-2.ensures
    c.in_ok-take_heard_events.ensures.events c.in_ok-take_heard_events.ensures.leads c.in_ok-take_stream_events.ensures.events c.in_ok-take_stream_events.ensures.leads c.poll_lost.ensures.event c.in_ok-report_next-3.ensures

-- they wait no longer
pub returns-clause-leads : goal.returns-clause-leads
returns-clause-leads g c = reports_lead _ _ _ _ _ _ c.poll_ready.ensures.leads c.poll_connected.ensures.leads c.in_ok-take_heard_events.ensures.leads c.in_ok-take_stream_events.ensures.leads c.poll_lost.ensures.leads
