use Rattle.qc_laws.proofs.Reasons.{run_causes}
use Rattle.qc_laws.proofs.laws.update_errors_are_caused.Goals as goal

pub returns : goal.returns
returns g c s last k is xs run = run_causes _ k s is xs last run
