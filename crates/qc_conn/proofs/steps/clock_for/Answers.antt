use Rattle.qc_conn.proofs.Firsts.{right_still}
use Rattle.qc_conn.proofs.steps.clock_for.Goals as goal

-- the ids of both ends stay
pub returns-clause-given : goal.returns-clause-given
returns-clause-given g c = right_still g.U.Random.Rng.stream c.args.core.now c.clock.new.self c.args.now _ c.clock.ensures c.requires.few c.requires.right
