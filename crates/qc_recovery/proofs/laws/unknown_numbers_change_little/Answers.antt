use Rattle.qc_recovery.proofs.Unknown.{uncounted_numbers, unknown_numbers, unmarked_numbers}
use Rattle.qc_recovery.proofs.laws.unknown_numbers_change_little.Goals as goal

pub returns-clause-marks : goal.returns-clause-marks
returns-clause-marks g c = unknown_numbers c.packets_leave_once.ensures.none g.C.Controller

pub returns-clause-unmarked : goal.returns-clause-unmarked
returns-clause-unmarked g c = unmarked_numbers c.packets_leave_once.ensures.none g.C.Controller

pub returns-clause-uncounted : goal.returns-clause-uncounted
returns-clause-uncounted g c = uncounted_numbers c.packets_leave_once.ensures.none g.C.Controller
