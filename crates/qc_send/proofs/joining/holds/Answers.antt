use Rattle.qc_state.specs.View.{ideal}
use Rattle.qc_send.specs.Joining.{HasIn}
use Rattle.qc_send.proofs.Joins.{has_ack, has_datagram, has_waits, lacks_ack, lacks_all}
use Rattle.qc_send.proofs.joining.holds.Goals as goal

-- it closes
pub returns-then-closing-clause-has : goal.returns-then-closing-clause-has
returns-then-closing-clause-has g c = λ e. HasIn.closes c.if-closing.true

-- something waits that has room anywhere
pub returns-then-wants-clause-has : goal.returns-then-wants-clause-has
returns-then-wants-clause-has g c = λ e. has_waits c.args.closing c.args.now c.args.left (ideal g.U.Random.Rng.stream c.args.core.now) c.args.space _ c.wants_any-wants.ensures c.if-wants.true

-- a datagram has room
pub returns-then-first-clause-has : goal.returns-then-first-clause-has
returns-then-first-clause-has g c =
    λ e. has_datagram c.args.closing c.args.now c.args.left _ (ideal g.U.Random.Rng.stream c.args.core.now) c.args.space _ c.room_for-room.ensures c.datagram_fits-first.ensures c.if-first.true

-- no ACK is owed
pub returns-then-not-owes-clause-lacks : goal.returns-then-not-owes-clause-lacks
returns-then-not-owes-clause-lacks g c =
    λ e. lacks_all c.args.now c.args.left _ (ideal g.U.Random.Rng.stream c.args.core.now) c.args.space _ _ _ c.wants_any-wants.ensures c.if-wants.false c.room_for-room.ensures c.datagram_fits-first.ensures c.if-first.false
    c.owes_ack-owes.ensures c.if-not-owes.true

-- or one that has no room
pub returns-clause-lacks : goal.returns-clause-lacks
returns-clause-lacks g c =
    λ e. lacks_ack c.args.now c.args.left _ (ideal g.U.Random.Rng.stream c.args.core.now) c.args.space _ _ _ c.wants_any-wants.ensures c.if-wants.false c.room_for-room.ensures c.datagram_fits-first.ensures c.if-first.false
    c.in_ok-fits.ensures.long e

-- or one that has it
pub returns-clause-has : goal.returns-clause-has
returns-clause-has g c =
    λ e. has_ack c.args.closing c.args.now c.args.left _ (ideal g.U.Random.Rng.stream c.args.core.now) c.args.space _ _ c.room_for-room.ensures c.owes_ack-owes.ensures c.if-not-owes.false c.in_ok-fits.ensures.short e
