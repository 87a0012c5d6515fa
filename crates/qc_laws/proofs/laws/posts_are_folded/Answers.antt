use Rattle.qc_laws.proofs.PostsFold.{run_posts}
use Rattle.qc_laws.proofs.laws.posts_are_folded.Goals as goal

pub returns : goal.returns
returns g c s last k is xs run = run_posts _ k s is xs last run
