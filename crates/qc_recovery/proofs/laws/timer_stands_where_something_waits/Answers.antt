use Rattle.qc_recovery.proofs.Stands.{ack_stands, runs_stand, timer_stands}
use Rattle.qc_recovery.proofs.laws.timer_stands_where_something_waits.Goals as goal

pub returns-clause-stands : goal.returns-clause-stands
returns-clause-stands g c = runs_stand g.C.Controller

pub returns-clause-ack : goal.returns-clause-ack
returns-clause-ack g c = ack_stands g.C.Controller

pub returns-clause-age : goal.returns-clause-age
returns-clause-age g c = timer_stands g.C.Controller
