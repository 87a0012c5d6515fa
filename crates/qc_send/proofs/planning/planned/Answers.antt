use Rattle.qc_state.specs.View.{ideal}
use Rattle.qc_send.proofs.Planned.{planned_is}
use Rattle.qc_send.proofs.planning.planned.Goals as goal

pub returns : goal.returns
returns g c =
    planned_is (ideal g.U.Random.Rng.stream c.args.core.now) c.args.form c.args.nearly _ c.args.frames.now c.args.batch.now _ _ _ _ c.needed_size-needed.ensures c.space-space.ensures c.next_number-number.ensures c.fills_up-fills.ensures
    c.grow.ensures
