use Rattle.qc_laws.proofs.FailuresEnd.{piece_fails}
use Rattle.qc_laws.proofs.laws.failures_end.Goals as goal

pub returns : goal.returns
returns g c a coming p space lively form unopened = piece_fails _ coming p space a lively form unopened
