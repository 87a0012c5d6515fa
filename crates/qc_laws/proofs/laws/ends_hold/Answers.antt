use Rattle.qc_laws.proofs.EndsHold.{run_ends}
use Rattle.qc_laws.proofs.laws.ends_hold.Goals as goal

pub returns : goal.returns
returns g c s last k is xs run ends = run_ends _ k s is xs last run ends
