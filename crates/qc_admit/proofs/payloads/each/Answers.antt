use Rattle.std.proofs.Common.{Ok, ap, ◌∙◌}
use Rattle.qc_frame.specs.Frame.{typed}
use Rattle.qc_frame.specs.declared.fault.InvalidFrame.{InvalidFrame}
use Rattle.qc_admit.proofs.Fitting.{rest_fit}
use Rattle.qc_admit.proofs.Padding.{ended_left, fault_more, none_more, one_left}
use Rattle.qc_admit.proofs.payloads.each.Goals as goal

-- nothing is left
pub returns-in-Err-End : goal.returns-in-Err-End
returns-in-Err-End g c = none_more _ c.args.coming.now c.args.space c.in-Err-End.field-0 _ _ _ _ c.in-Err-End.ensures.left c.in-Err-End.field-0-is c.loop-fault.invariant.same

-- bytes that are no frame
pub returns-in-Err-Fault : goal.returns-in-Err-Fault
returns-in-Err-Fault g c =
    fault_more _ c.args.coming.now c.args.space c.in-Err-Fault.field-0 _ c.in-Err-Fault.fault c.error_at-error.result _ _ _ _ c.in-Err-Fault.ensures.left c.in-Err-Fault.field-0-is c.error_at-error.ensures.code
    (c.error_at-error.ensures.frame ∙ ap (λ (fault : InvalidFrame). fault.ty) c.in-Err-Fault.fault-is) c.in_ok-stopped-in-Err-Fault.ensures c.loop-fault.invariant.same

-- a frame that ended the packet
pub returns-then-not-branch : goal.returns-then-not-branch
returns-then-not-branch g c =
    ended_left _ c.args.coming.now c.args.space (Ok (typed c.in-Ok.read)) _ _ _ _ _ _ _ _ c.in-Ok.ensures.next c.if-not-branch.true c.in_ok-one_more-in-Ok.ensures c.loop-fault.invariant.same

-- one behind which the others are next
pub loop-fault-preserved : goal.loop-fault-preserved
loop-fault-preserved g c = record {
  same = one_left _ c.args.coming.now c.args.space (Ok (typed c.in-Ok.read)) _ _ _ _ _ _ _ _ c.in-Ok.ensures.next c.if-not-branch.false c.in_ok-one_more-in-Ok.ensures c.loop-fault.invariant.same;
  fit = rest_fit _ _ _ c.in-Ok.ensures.next c.loop-fault.invariant.fit;
}
