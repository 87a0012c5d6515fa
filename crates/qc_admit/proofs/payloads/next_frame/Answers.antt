use Rattle.std.proofs.Common.{Err, Ok, ap}
use Rattle.qc_frame.specs.Frame.{typed}
use Rattle.qc_frame.specs.Payload.{item_view}
use Rattle.qc_admit.proofs.Fitting.{next_fits}
use Rattle.qc_admit.proofs.Padding.{next_read, none_read}
use Rattle.qc_admit.proofs.payloads.next_frame.Goals as goal

-- nothing but PADDING is left
pub returns-in-None-clause-left : goal.returns-in-None-clause-left
returns-in-None-clause-left c = none_read _ _ _ c.skip_padding-skipped.ensures.skipped c.in-None.ensures.steps.0

-- bytes that are no frame
pub returns-in-Some-Err-clause-left : goal.returns-in-Some-Err-clause-left
returns-in-Some-Err-clause-left c = (_, next_read _ _ _ _ c.in-Some-Err.field-0 (Err c.in-Some-Err.fault) c.skip_padding-skipped.ensures.skipped c.in-Some-Err.ensures.steps (ap item_view c.in-Some-Err.field-0-is))

-- a frame, which fits its fields
pub returns-in-Some-Ok-clause-next : goal.returns-in-Some-Ok-clause-next
returns-in-Some-Ok-clause-next c =
    next_read _ _ _ _ c.in-Some-Ok.field-0 (Ok (typed c.in-Some-Ok.read)) c.skip_padding-skipped.ensures.skipped c.in-Some-Ok.ensures.steps (ap item_view c.in-Some-Ok.field-0-is)

pub returns-in-Some-Ok-clause-fits : goal.returns-in-Some-Ok-clause-fits
returns-in-Some-Ok-clause-fits c = next_fits _ _ _ _ c.in-Some-Ok.field-0 c.in-Some-Ok.read c.skip_padding-skipped.ensures.skipped c.in-Some-Ok.ensures.steps c.in-Some-Ok.field-0-is c.requires
