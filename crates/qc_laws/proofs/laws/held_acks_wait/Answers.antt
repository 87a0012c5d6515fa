use Rattle.qc_laws.proofs.AckHolds.{run_acks_hold, run_each_holds}
use Rattle.qc_laws.proofs.laws.held_acks_wait.Goals as goal

pub returns-clause-each : goal.returns-clause-each
returns-clause-each g c s last k is xs run holds = run_each_holds _ k s is xs last run holds

pub returns-clause-kept : goal.returns-clause-kept
returns-clause-kept g c s last k is xs run holds = run_acks_hold _ k s is xs last run holds
