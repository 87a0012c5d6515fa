use Rattle.std.proofs.Common.{refl, ap}
use Rattle.qc_path.specs.Acks.{PendingValues}
use Rattle.qc_frame.specs.Frame.{ack_map}
use Rattle.qc_state.proofs.Taken.{takes_left_out, takes_none, takes_one}
use Rattle.qc_state.proofs.taking.take_ack.Goals as goal

-- none is due
pub returns-then-not-due : goal.returns-then-not-due
returns-then-not-due c = takes_none c.args.now c.args.room c.args.due _ _ _ _ 0 c.if-not-due.true refl refl refl

-- one is due that has no room
pub returns-then-room-len : goal.returns-then-room-len
returns-then-room-len c = takes_left_out c.args.now c.args.room c.args.due c.args.space.now _ c.in_ok-len.len (ack_map (λ b. b) c.in_ok-ack.ack) c.if-not-due.false c.in_ok-ack.ensures c.in_ok-len.ensures c.if-room-len.true

-- one is due
pub returns : goal.returns
returns c =
    takes_one c.args.now c.args.room c.args.due c.args.space.now _ _ _ _ (ack_map (λ b. b) c.in_ok-ack.ack) c.if-not-due.false c.in_ok-ack.ensures c.if-room-len.false c.in_ok-push.ensures.ok
    (ap (λ (p : PendingValues). record c.args.space.now { acks = p }) c.sent.ensures) c.in_ok-len.ensures
