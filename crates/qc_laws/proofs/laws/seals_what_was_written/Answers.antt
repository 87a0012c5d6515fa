use Rattle.qc_laws.proofs.WritesHold.{run_writes}
use Rattle.qc_laws.proofs.laws.seals_what_was_written.Goals as goal

pub returns : goal.returns
returns g c s last k is xs run new = run_writes _ k s is xs last run new
