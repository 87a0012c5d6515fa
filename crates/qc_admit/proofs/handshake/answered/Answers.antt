use Rattle.qc_admit.proofs.Taken.{ready_goes}
use Rattle.qc_admit.proofs.handshake.answered.Goals as goal

-- the handshake's data became ready
pub returns-then-ready : goal.returns-then-ready
returns-then-ready g c = ready_goes c.args.coming.now c.args.answer c.in-Ok.ready _ _ c.args.did.now c.in-Ok.is c.if-ready.true c.do_ready.ensures
