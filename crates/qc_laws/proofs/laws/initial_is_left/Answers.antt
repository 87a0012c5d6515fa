use Rattle.qc_laws.proofs.InitialLeft.{run_leaves}
use Rattle.qc_laws.proofs.laws.initial_is_left.Goals as goal

pub returns : goal.returns
returns g c s last k is xs run = run_leaves _ k s is xs last run
