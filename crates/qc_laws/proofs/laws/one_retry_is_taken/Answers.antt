use Rattle.qc_laws.proofs.RetriesHold.{run_renews}
use Rattle.qc_laws.proofs.laws.one_retry_is_taken.Goals as goal

pub returns : goal.returns
returns g c s last k is xs run = run_renews _ k s is xs last run
