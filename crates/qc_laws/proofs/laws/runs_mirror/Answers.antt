use Rattle.qc_laws.proofs.Mirrors.{run_mirrors}
use Rattle.qc_laws.proofs.laws.runs_mirror.Goals as goal

pub returns : goal.returns
returns g c s last k is xs run before = run_mirrors _ k s is xs last run before
