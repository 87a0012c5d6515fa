use Rattle.qc_laws.proofs.ReadsHold.{run_within}
use Rattle.qc_laws.proofs.laws.streams_stay_within.Goals as goal

pub returns : goal.returns
returns g c side transport s last k is xs run new window stream_window = run_within side transport _ k s is xs last run new window stream_window
