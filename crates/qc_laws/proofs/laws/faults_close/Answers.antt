use Rattle.qc_laws.proofs.FaultsClose.{run_faults_close}
use Rattle.qc_laws.proofs.laws.faults_close.Goals as goal

pub returns : goal.returns
returns g c s last k is xs run = run_faults_close _ k s is xs last run
