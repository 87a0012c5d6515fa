use Rattle.qc_base.specs.declared.side.SpaceId.TheVariants.{Handshake, «Data»}
use Rattle.qc_state.specs.View.{ideal}
use Rattle.qc_send.proofs.Joins.{all_stay, none_more, one_joins}
use Rattle.qc_send.proofs.joining.joining.Goals as goal

-- the datagram takes no other one
pub returns-then-not-more : goal.returns-then-not-more
returns-then-not-more g c = none_more c.args.now (ideal g.U.Random.Rng.stream c.args.core.now) c.args.batch.now _ c.joins_more-more.ensures c.if-not-more.true

-- one joins
pub returns-then-handshake : goal.returns-then-handshake
returns-then-handshake g c =
    one_joins c.args.now (ideal g.U.Random.Rng.stream c.args.core.now) c.args.batch.now Handshake _ c.in_ok-handshake.handshake c.joins_more-more.ensures c.if-not-more.false c.in_ok-handshake.ensures c.if-handshake.true

pub returns-then-application : goal.returns-then-application
returns-then-application g c =
    one_joins c.args.now (ideal g.U.Random.Rng.stream c.args.core.now) c.args.batch.now «Data» _ c.in_ok-application.application c.joins_more-more.ensures c.if-not-more.false c.in_ok-application.ensures c.if-application.true

-- none does
pub returns : goal.returns
returns g c =
    all_stay c.args.now (ideal g.U.Random.Rng.stream c.args.core.now) c.args.batch.now c.in_ok-handshake.handshake c.in_ok-application.application c.in_ok-handshake.ensures c.if-handshake.false
    c.in_ok-application.ensures c.if-application.false
