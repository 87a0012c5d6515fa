use Rattle.qc_laws.proofs.KeysCount.{run_counts}
use Rattle.qc_laws.proofs.laws.keys_count.Goals as goal

pub returns : goal.returns
returns g c s last k is xs run = run_counts _ k s is xs last run
