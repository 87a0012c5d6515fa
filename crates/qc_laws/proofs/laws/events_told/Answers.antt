use Rattle.qc_laws.proofs.EventsTold.{run_tells_done, run_tells_once, run_stays_done}
use Rattle.qc_laws.proofs.laws.events_told.Goals as goal

pub returns-clause-done : goal.returns-clause-done
returns-clause-done g c s last k is xs run waits = run_tells_done _ k s is xs last run waits

pub returns-clause-once : goal.returns-clause-once
returns-clause-once g c s last k is xs run waits = run_tells_once _ k s is xs last run waits

pub returns-clause-stays : goal.returns-clause-stays
returns-clause-stays g c s last k is xs run waits = run_stays_done _ k s is xs last run waits
