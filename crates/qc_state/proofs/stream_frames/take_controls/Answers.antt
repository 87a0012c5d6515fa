use Rattle.std.proofs.Common.{ℕ, ◌-◌, ◌≤◌, ◌∙◌, ap, true, sym, subst, arith}
use Rattle.qc_frame.specs.Frame.{owned}
use Rattle.qc_state.proofs.Controls.{next_less}
use Rattle.qc_state.proofs.StreamsTaken.{control_some, control_taken, next_fits, takes_nothing}
use Rattle.qc_state.proofs.stream_frames.take_controls.Goals as goal
use Rattle.qc_state.specs.Taking.{TakesStreams}
use Rattle.qc_streams.specs.Control.{control_len, next_control}
use Rattle.qc_streams.specs.declared.state.StreamsState.{StreamsState}

pub loop-control-init : goal.loop-control-init
loop-control-init c = takes_nothing true c.args.room c.args.streams.now c.args.frames.now

-- the frame fits
pub overflow_sub-left : goal.overflow_sub-left
overflow_sub-left c =
    let fits : control_len c.in-Some.control ≤ c.loop-control.left = next_fits c.loop-control.left c.loop-control.streams c.in-Some.control (sym c.in-Some.ensures.next) in
    omega (arith, fits, c.len-left.ensures.len)

-- and has a byte at least
pub loop-control-smaller : goal.loop-control-smaller
loop-control-smaller c =
    let fits : control_len c.in-Some.control ≤ c.loop-control.left = next_fits c.loop-control.left c.loop-control.streams c.in-Some.control (sym c.in-Some.ensures.next) in
    omega (arith, fits, c.len-left.ensures.len, control_some c.in-Some.control)

-- one frame more was taken
pub loop-control-preserved : goal.loop-control-preserved
loop-control-preserved c =
    subst (λ (n : ℕ). TakesStreams true c.args.room c.args.streams.now c.draw_control.new.self c.args.frames.now c.push.new.self (c.loop-control.left - n)) (sym c.len-left.ensures.len)
    (control_taken c.args.room c.loop-control.left c.args.streams.now c.loop-control.streams c.draw_control.new.self c.args.frames.now c.loop-control.frames c.push.new.self (owned c.in_ok-frame.frame) c.in-Some.control
    c.loop-control.invariant (sym c.in-Some.ensures.next) c.in-Some.ensures.drawn c.in_ok-frame.ensures.frame c.in_ok-frame.ensures.fits c.in_ok-push.ensures.ok)

-- there is none that has room
pub returns-in_default-clause-full : goal.returns-in_default-clause-full
returns-in_default-clause-full c = λ enough.
    ap (λ (s : StreamsState). next_control 64 s) c.in_default.ensures.drawn ∙ next_less c.loop-control.streams 64 c.loop-control.left enough (sym c.in_default.ensures.next)
