use Rattle.qc_laws.proofs.Recovers.{run_recovers, run_settles_once}
use Rattle.qc_laws.proofs.laws.recovery_is_folded.Goals as goal

pub returns-clause-folded : goal.returns-clause-folded
returns-clause-folded g c s last k is xs run ends = run_recovers _ k s is xs last run ends

pub returns-clause-settled : goal.returns-clause-settled
returns-clause-settled g c s last k is xs run ends = run_settles_once _ k s is xs last run ends
