use Rattle.qc_admit.proofs.Padding.{end_left, end_reached}
use Rattle.qc_admit.proofs.payloads.items.Goals as goal

-- behind the last frame
pub returns-then-branch : goal.returns-then-branch
returns-then-branch g c = end_reached _ c.args.coming.now c.args.space c.end.result _ _ _ _ _ c.if-branch.true c.in_ok-each.ensures c.end.ensures

-- a frame ended the packet
pub returns : goal.returns
returns g c = end_left _ c.args.coming.now c.args.space _ _ _ _ c.if-branch.false c.in_ok-each.ensures
