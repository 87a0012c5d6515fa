use Rattle.qc_laws.proofs.Mismatches.{run_mismatches}
use Rattle.qc_laws.proofs.laws.mismatches_are_listed.Goals as goal

pub returns : goal.returns
returns g c s last k is xs run = run_mismatches _ k s is xs last run
