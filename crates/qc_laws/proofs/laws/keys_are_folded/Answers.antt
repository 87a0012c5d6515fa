use Rattle.qc_laws.proofs.KeysFold.{run_folds_keys, run_keeps_epochs, run_last}
use Rattle.qc_laws.proofs.laws.keys_are_folded.Goals as goal

pub returns-clause-folded : goal.returns-clause-folded
returns-clause-folded g c s last k is xs run before = run_folds_keys _ k s is xs last run before

pub returns-clause-epochs : goal.returns-clause-epochs
returns-clause-epochs g c s last k is xs run before = run_keeps_epochs _ k s is xs last run before

pub returns-clause-last : goal.returns-clause-last
returns-clause-last g c s last k is xs run before = run_last _ k s is xs last run before
