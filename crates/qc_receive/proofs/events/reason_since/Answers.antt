use Rattle.qc_admit.proofs.Reasons.{reason_found}
use Rattle.qc_receive.proofs.events.reason_since.Goals as goal

-- a reason was given since
pub returns-in_ok-why-in-Some : goal.returns-in_ok-why-in-Some
returns-in_ok-why-in-Some g c = reason_found c.args.core.now _ c.args.stood c.in-Some.why c.in_ok-why-in-Some.why c.core.view_is c.if-stood.false c.in-Some.is c.in_ok-why-in-Some.ensures
