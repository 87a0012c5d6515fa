use Rattle.qc_conn.proofs.Firsts.{first_leads}
use Rattle.qc_conn.proofs.steps.core_first.Goals as goal

pub returns-clause-leads : goal.returns-clause-leads
returns-clause-leads g c = first_leads _ _ _ _ c.args.coming.now c.args.bytes.items _ c.first_datagram.new.did c.clock.ensures c.new-did.ensures c.in_ok-taken.ensures.leads
