use Rattle.std.proofs.Common.{ℕ, ◌-◌, sym, subst, arith}
use Rattle.qc_frame.specs.Frame.{owned}
use Rattle.qc_state.proofs.DatagramsTaken.{datagram_taken, size_is, takes_no_datagram}
use Rattle.qc_state.proofs.datagrams.take_datagrams.Goals as goal
use Rattle.qc_state.specs.Taking.{TakesDatagrams}

pub loop-datagram-init : goal.loop-datagram-init
loop-datagram-init c = takes_no_datagram c.args.room c.args.datagrams.now c.args.frames.now

-- the frame is short
pub frame_size-left-requires : goal.frame_size-left-requires
frame_size-left-requires c = omega (arith, c.in-Some.ensures.fits, c.min.ensures, size_is c.in-Some.datagram)

-- it fits
pub overflow_sub-left : goal.overflow_sub-left
overflow_sub-left c = omega (arith, c.in-Some.ensures.fits, c.min.ensures, c.frame_size-left.ensures)

-- and has a byte at least
pub loop-datagram-smaller : goal.loop-datagram-smaller
loop-datagram-smaller c = omega (arith, c.in-Some.ensures.fits, c.min.ensures, c.frame_size-left.ensures, size_is c.in-Some.datagram)

-- one frame more was taken
pub loop-datagram-preserved : goal.loop-datagram-preserved
loop-datagram-preserved c =
    subst (λ (n : ℕ). TakesDatagrams c.args.room c.args.datagrams.now c.draw_datagram.new.datagrams c.args.frames.now c.push.new.self (c.loop-datagram.left - n)) (sym c.frame_size-left.ensures)
    (datagram_taken c.args.room c.loop-datagram.left c.min.result c.args.datagrams.now c.loop-datagram.datagrams c.draw_datagram.new.datagrams c.args.frames.now c.loop-datagram.frames c.push.new.self c.in-Some.datagram (owned c.frame_of-frame.result)
    c.loop-datagram.invariant (omega (arith, c.min.ensures)) (omega (arith, c.min.ensures)) c.in-Some.ensures.given c.in-Some.ensures.fits c.in-Some.ensures.sealed c.frame_of-frame.ensures c.in_ok-push.ensures.ok)
