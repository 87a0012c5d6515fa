use Rattle.qc_laws.proofs.AcksBefore.{acks_before}
use Rattle.qc_laws.proofs.laws.acks_were_accepted.Goals as goal

pub returns : goal.returns
returns g c s xs id ds es number epoch early fs h is = acks_before s xs id ds es number epoch early fs h is
