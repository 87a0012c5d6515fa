use Rattle.qc_state.specs.View.{ideal}
use Rattle.qc_send.proofs.Joins.{joins_by, not_later, not_owing}
use Rattle.qc_send.proofs.joining.joins.Goals as goal

-- its space is no later one
pub returns-then-not-later : goal.returns-then-not-later
returns-then-not-later g c = not_later c.args.now (ideal g.U.Random.Rng.stream c.args.core.now) c.args.batch.now c.args.space _ c.is_later-later.ensures c.if-not-later.true

-- or owes nothing
pub returns-then-not-owes : goal.returns-then-not-owes
returns-then-not-owes g c = not_owing c.args.now (ideal g.U.Random.Rng.stream c.args.core.now) c.args.batch.now c.args.space _ c.owes_in-owes.ensures c.if-not-owes.true

-- or owes something that has room, or none
pub returns : goal.returns
returns g c =
    joins_by c.args.now c.left-left.result (ideal g.U.Random.Rng.stream c.args.core.now) c.args.batch.now c.args.space _ _ c.in_ok-some.some c.is_later-later.ensures c.if-not-later.false c.owes_in-owes.ensures c.if-not-owes.false
    c.left-left.ensures c.in_ok-some.ensures.lacks c.in_ok-some.ensures.has
