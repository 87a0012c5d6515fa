use Rattle.qc_core.proofs.Skips.{skipped_by}
use Rattle.qc_core.proofs.state.Core.do_skip.Goals as goal

-- the number and the word
pub returns : goal.returns
returns g c = skipped_by g.U.Random.Rng.stream c.args.self.now _ _ _ c.self.view_is c.skip.ensures.value c.skip.ensures.drawn
