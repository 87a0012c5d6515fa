use Rattle.qc_laws.proofs.PathsHold.{path_run}
use Rattle.qc_laws.proofs.laws.paths_hold.Goals as goal

pub returns : goal.returns
returns g c s last k is xs run = path_run _ k s is xs last run
