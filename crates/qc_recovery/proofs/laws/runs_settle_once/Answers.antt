use Rattle.qc_recovery.proofs.RunsSettle.{run_settles}
use Rattle.qc_recovery.proofs.laws.runs_settle_once.Goals as goal

pub returns : goal.returns
returns g c = run_settles g.C.Controller
