use Rattle.qc_laws.proofs.IdsFold.{run_folds_ids}
use Rattle.qc_laws.proofs.laws.folds_ids.Goals as goal

pub returns : goal.returns
returns g c s last k is xs run = run_folds_ids _ k s is xs last run
