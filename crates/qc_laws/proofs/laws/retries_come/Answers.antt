use Rattle.qc_laws.proofs.RetriesCome.{run_of_inputs}
use Rattle.qc_laws.proofs.laws.retries_come.Goals as goal

pub returns : goal.returns
returns g c s last k is xs run = run_of_inputs _ k s is xs last run
