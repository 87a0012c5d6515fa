use Rattle.qc_laws.proofs.PostsTaken.{run_takes}
use Rattle.qc_laws.proofs.laws.taken_datagrams_came.Goals as goal

pub returns : goal.returns
returns g c s last k is xs run new = run_takes _ k s is xs last run new
