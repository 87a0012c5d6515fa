use Rattle.qc_laws.proofs.PostsSealed.{run_seals}
use Rattle.qc_laws.proofs.laws.sealed_datagrams_were_sent.Goals as goal

pub returns : goal.returns
returns g c s last k is xs run new = run_seals _ k s is xs last run new
