use Rattle.qc_laws.proofs.IdsHold.{run_ids}
use Rattle.qc_laws.proofs.laws.ids_hold.Goals as goal

pub returns : goal.returns
returns g c s last k is xs run = run_ids _ k s is xs last run
