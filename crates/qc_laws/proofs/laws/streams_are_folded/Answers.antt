use Rattle.qc_laws.proofs.StreamsFold.{run_folds}
use Rattle.qc_laws.proofs.laws.streams_are_folded.Goals as goal

pub returns : goal.returns
returns g c s last k is xs run = run_folds _ k s is xs last run
