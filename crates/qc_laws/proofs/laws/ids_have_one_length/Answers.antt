use Rattle.qc_laws.proofs.LengthsHold.{run_keeps_length}
use Rattle.qc_laws.proofs.laws.ids_have_one_length.Goals as goal

pub returns : goal.returns
returns g c s last k is xs run new = run_keeps_length _ k s is xs last run new
