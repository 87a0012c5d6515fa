use Rattle.qc_recovery.proofs.Told.{ack_tells, call_tells, nothing_tells, timeout_tells, timer_tells}
use Rattle.qc_recovery.proofs.laws.losses_are_told_once.Goals as goal

pub returns-clause-timer : goal.returns-clause-timer
returns-clause-timer c = timer_tells

pub returns-clause-ack : goal.returns-clause-ack
returns-clause-ack c = ack_tells

pub returns-clause-fired : goal.returns-clause-fired
returns-clause-fired c = timeout_tells

pub returns-clause-acked : goal.returns-clause-acked
returns-clause-acked c = call_tells

pub returns-clause-ack_of_nothing : goal.returns-clause-ack_of_nothing
returns-clause-ack_of_nothing c = nothing_tells
