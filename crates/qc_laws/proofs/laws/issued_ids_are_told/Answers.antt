use Rattle.qc_laws.proofs.CidRuns.{run_tells_issued}
use Rattle.qc_laws.proofs.laws.issued_ids_are_told.Goals as goal

pub returns : goal.returns
returns g c s last k is xs run new = run_tells_issued _ k s is xs last run new
