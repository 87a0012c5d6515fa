use Rattle.std.proofs.Common.{ap, ◌∙◌}
use Rattle.qc_frame.specs.FrameSpelling.{spelling}
use Rattle.qc_core.proofs.Acknowledges.{acked_armed, acked_still}
use Rattle.qc_admit.proofs.frames.acked.Goals as goal

-- packets were newly acknowledged
pub returns-then-branch : goal.returns-then-branch
returns-then-branch g c = acked_armed _ c.args.now c.args.space _ c.in_ok-body.body c.in_ok-do_ack.field-0 _ _ _ _ _ (c.in_ok-body.ensures ∙ ap spelling c.requires.frame) c.in_ok-do_tell_gave.ensures c.in_ok-do_ack.ensures.leads c.in_ok-do_ack.ensures.newly c.if-branch.true c.arm.ensures

-- none were
pub returns-else-branch : goal.returns-else-branch
returns-else-branch g c = acked_still _ c.args.now c.args.space _ c.in_ok-body.body c.in_ok-do_ack.field-0 _ _ _ _ (c.in_ok-body.ensures ∙ ap spelling c.requires.frame) c.in_ok-do_tell_gave.ensures c.in_ok-do_ack.ensures.leads c.in_ok-do_ack.ensures.newly c.if-branch.false
