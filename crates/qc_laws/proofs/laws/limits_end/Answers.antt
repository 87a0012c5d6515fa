use Rattle.qc_laws.proofs.LimitsEnd.{run_limits, run_spares, transmits_limits}
use Rattle.qc_laws.proofs.laws.limits_end.Goals as goal

pub returns-clause-spared : goal.returns-clause-spared
returns-clause-spared g c s last k is xs run spares = run_spares _ k s is xs last run spares

pub returns-clause-ended : goal.returns-clause-ended
returns-clause-ended g c s last k is xs run spares = run_limits _ k s is xs last run spares

pub returns-clause-transmit : goal.returns-clause-transmit
returns-clause-transmit g c time asked s b sent bytes transmits spares = transmits_limits _ time asked s b sent bytes transmits spares
