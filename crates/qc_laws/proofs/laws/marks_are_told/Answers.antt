use Rattle.qc_laws.proofs.MarksTold.{run_each_told}
use Rattle.qc_laws.proofs.laws.marks_are_told.Goals as goal

pub returns : goal.returns
returns g c s last k is xs run = run_each_told _ k s is xs last run
