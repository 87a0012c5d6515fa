use Rattle.qc_receive.proofs.Handed.{first_opened_is}
use Rattle.qc_receive.proofs.events.opened_first.Goals as goal

-- its token is expected, and it does what a packet does that opened
pub returns-clause-leads : goal.returns-clause-leads
returns-clause-leads g c = first_opened_is _ c.args.coming.now c.args.source c.args.token _ c.args.number c.args.payload _ _ _ _ c.in_ok-expected.ensures.cases c.do_expect.ensures c.in_ok-received.ensures
