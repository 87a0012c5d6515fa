use Rattle.qc_frame.specs.Frame.{borrowed}
use Rattle.qc_admit.proofs.Closes.{closed_so}
use Rattle.qc_admit.proofs.frames.closed_by.Goals as goal

-- a close, for its reason
pub returns : goal.returns
returns g c = closed_so _ c.closed.result c.args.coming.now c.args.space (borrowed c.args.frame.now) c.in_ok-why.why _ _ c.in_ok-why.ensures c.closed.ensures
