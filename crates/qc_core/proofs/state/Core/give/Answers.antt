use Rattle.qc_core.proofs.GivenReasons.{core_gives}
use Rattle.qc_core.proofs.state.Core.give.Goals as goal

-- a reason that is given unless one was given before
pub returns : goal.returns
returns g c = core_gives g.U.Random.Rng.stream c.give_first.result c.args.self.now _ c.give_first.new.life c.args.did.now c.give_first.new.did c.args.why c.self.view_is c.give_first.ensures.given c.give_first.ensures.told
