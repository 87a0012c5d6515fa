use Rattle.qc_path.proofs.Arrivals.{one_more}
use Rattle.qc_path.proofs.dedup.window_remembers.Goals as goal

pub returns-clause-more : goal.returns-clause-more
returns-clause-more c = one_more
