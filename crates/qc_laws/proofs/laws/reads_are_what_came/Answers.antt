use Rattle.qc_laws.proofs.ReadsHold.{run_reads}
use Rattle.qc_laws.proofs.laws.reads_are_what_came.Goals as goal

pub returns : goal.returns
returns g c s last k is xs run new = run_reads _ k s is xs last run new
