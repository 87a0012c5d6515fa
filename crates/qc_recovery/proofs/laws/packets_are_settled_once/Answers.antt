use Rattle.qc_recovery.proofs.Settling.{ack_settles, timer_settles}
use Rattle.qc_recovery.proofs.laws.packets_are_settled_once.Goals as goal

pub returns-clause-ack : goal.returns-clause-ack
returns-clause-ack g c = ack_settles g.C.Controller

pub returns-clause-timer : goal.returns-clause-timer
returns-clause-timer g c = timer_settles g.C.Controller
