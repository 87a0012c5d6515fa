use Rattle.qc_laws.proofs.WindowHolds.{run_window}
use Rattle.qc_laws.proofs.laws.window_is_kept.Goals as goal

pub returns : goal.returns
returns g c s last k is xs run = run_window _ k s is xs last run
