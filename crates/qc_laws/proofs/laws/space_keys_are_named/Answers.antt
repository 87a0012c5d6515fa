use Rattle.qc_laws.proofs.SpaceKeysHold.{run_space_keys}
use Rattle.qc_laws.proofs.laws.space_keys_are_named.Goals as goal

pub returns : goal.returns
returns g c s last k is xs run = run_space_keys _ k s is xs last run
