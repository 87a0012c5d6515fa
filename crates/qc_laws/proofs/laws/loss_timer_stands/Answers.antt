use Rattle.qc_laws.proofs.TimerHolds.{run_keeps_timer}
use Rattle.qc_laws.proofs.laws.loss_timer_stands.Goals as goal

pub returns : goal.returns
returns g c s last k is xs run ends = run_keeps_timer _ k s is xs last run ends
