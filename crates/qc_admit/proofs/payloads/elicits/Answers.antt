use Rattle.qc_admit.proofs.Elicits.{none_elicits, fault_elicits, one_elicits, other_elicits}
use Rattle.qc_admit.proofs.payloads.elicits.Goals as goal

-- nothing is left
pub returns-in-None : goal.returns-in-None
returns-in-None c = none_elicits _ _ _ _ c.skip_padding-skipped.ensures.skipped c.in-None.ensures.steps.0 c.loop-read.invariant

-- bytes that are no frame
pub loop-read-preserved-in-Some-Err : goal.loop-read-preserved-in-Some-Err
loop-read-preserved-in-Some-Err c = fault_elicits _ _ _ _ c.in-Some-Err.field-0 c.in-Some-Err.field-0-0 _ c.skip_padding-skipped.ensures.skipped c.in-Some-Err.ensures.steps c.in-Some-Err.field-0-is c.loop-read.invariant

-- a frame that elicits
pub returns-then-is_ack_eliciting : goal.returns-then-is_ack_eliciting
returns-then-is_ack_eliciting c =
    one_elicits _ _ _ _ c.in-Some-Ok.field-0 c.in-Some-Ok.read _ c.is_ack_eliciting.result c.skip_padding-skipped.ensures.skipped c.in-Some-Ok.ensures.steps c.in-Some-Ok.field-0-is c.is_ack_eliciting.ensures c.if-is_ack_eliciting.true
    c.loop-read.invariant

-- one that doesn't
pub loop-read-preserved : goal.loop-read-preserved
loop-read-preserved c =
    other_elicits _ _ _ _ c.in-Some-Ok.field-0 c.in-Some-Ok.read _ c.is_ack_eliciting.result c.skip_padding-skipped.ensures.skipped c.in-Some-Ok.ensures.steps c.in-Some-Ok.field-0-is c.is_ack_eliciting.ensures c.if-is_ack_eliciting.false
    c.loop-read.invariant
