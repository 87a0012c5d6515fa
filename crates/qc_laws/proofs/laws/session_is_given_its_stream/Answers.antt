use Rattle.qc_laws.proofs.StreamHolds.{run_gives}
use Rattle.qc_laws.proofs.laws.session_is_given_its_stream.Goals as goal

pub returns : goal.returns
returns g c id s last k is xs run = run_gives id _ k s is xs last run
