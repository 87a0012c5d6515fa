use Rattle.qc_laws.proofs.KeysHold.{run_keys_hold}
use Rattle.qc_laws.proofs.laws.keys_hold.Goals as goal

pub returns : goal.returns
returns g c s last k is xs run kept = run_keys_hold _ k s is xs last run kept
