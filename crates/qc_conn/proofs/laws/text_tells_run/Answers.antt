use Rattle.qc_conn.proofs.RunsPlain.{runs_differ}
use Rattle.qc_conn.proofs.laws.text_tells_run.Goals as goal

pub returns : goal.returns
returns g c xs ys p q e = runs_differ _ _ xs ys p q e
