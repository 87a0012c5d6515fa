use Rattle.std.proofs.Common.{◌≡◌, ◌+◌, ◌≤◌, ◌∙◌, ap, length, true, false, refl, sym, subst, arith}
use Rattle.qc_frame.specs.Frame.{owned}
use Rattle.qc_state.proofs.Controls.{sealed_rests}
use Rattle.qc_state.proofs.StreamsTaken.{drawn_none, drawn_within, part_taken, takes_nothing}
use Rattle.qc_state.proofs.stream_frames.take_parts.Goals as goal
use Rattle.qc_state.specs.Offers.{turn_waits}
use Rattle.qc_streams.specs.Control.{next_control}
use Rattle.qc_streams.specs.declared.state.StreamsState.{StreamsState}
use Rattle.qc_turns.specs.Ready.{next_turn}

pub loop-drawn-init : goal.loop-drawn-init
loop-drawn-init c = record { takes = takes_nothing true c.args.room c.args.streams.now c.args.frames.now; rest = refl }

-- the part is short enough
pub part_len-left-requires : goal.part_len-left-requires
part_len-left-requires c =
    let fits : 19 + length c.in-Some.drawn.part.bytes ≤ c.min.result = drawn_within c.min.result c.loop-drawn.streams c.in-Some.drawn (rw c.in-Some.is at c.in_ok-drawn.ensures.next) in
    omega (arith, fits, c.min.ensures)

-- and fits with the head of its frame
pub overflow_sub-left : goal.overflow_sub-left
overflow_sub-left c =
    let fits : 19 + length c.in-Some.drawn.part.bytes ≤ c.min.result = drawn_within c.min.result c.loop-drawn.streams c.in-Some.drawn (rw c.in-Some.is at c.in_ok-drawn.ensures.next) in
    omega (arith, fits, c.part_len-left.ensures.most, c.min.ensures)

pub loop-drawn-smaller : goal.loop-drawn-smaller
loop-drawn-smaller c =
    let fits : 19 + length c.in-Some.drawn.part.bytes ≤ c.min.result = drawn_within c.min.result c.loop-drawn.streams c.in-Some.drawn (rw c.in-Some.is at c.in_ok-drawn.ensures.next) in
    omega (arith, fits, c.part_len-left.ensures.most, c.part_len-left.ensures.some, c.min.ensures)

-- one frame more was taken
pub loop-drawn-preserved : goal.loop-drawn-preserved
loop-drawn-preserved c = record {
  takes = part_taken c.args.room c.loop-drawn.left c.min.result c.part_len-left.result c.args.streams.now c.loop-drawn.streams c.draw_part.new.self c.args.frames.now c.loop-drawn.frames c.push.new.self (owned c.in_ok-frame.frame) c.in-Some.drawn
      c.loop-drawn.invariant.takes (omega (arith, c.min.ensures)) (omega (arith, c.min.ensures)) (rw c.in-Some.is at c.in_ok-drawn.ensures.next) (rw c.in-Some.is at c.in_ok-drawn.ensures.drawn) c.in_ok-frame.ensures.frame
      c.in_ok-frame.ensures.fits c.in_ok-push.ensures.ok c.part_len-left.ensures.value;
  rest = ap (λ (s : StreamsState). next_control 64 s) (rw c.in-Some.is at c.in_ok-drawn.ensures.drawn) ∙ sealed_rests c.in-Some.drawn c.loop-drawn.streams 64 ∙ c.loop-drawn.invariant.rest;
}

-- the part is short enough
pub part_frame-requires : goal.part_frame-requires
part_frame-requires c =
    let fits : 19 + length c.in-Some.drawn.part.bytes ≤ c.min.result = drawn_within c.min.result c.loop-drawn.streams c.in-Some.drawn (rw c.in-Some.is at c.in_ok-drawn.ensures.next) in
    omega (arith, fits, c.min.ensures)

-- nothing is left of the stream whose turn it is
pub returns-in_default-clause-full : goal.returns-in_default-clause-full
returns-in_default-clause-full c = λ large.
    let same : c.draw_part.new.self ≡ c.loop-drawn.streams = rw c.in_default.is at c.in_ok-drawn.ensures.drawn in
    let none : turn_waits (next_turn c.loop-drawn.streams.waiting.ready) c.loop-drawn.streams ≡ false = drawn_none c.min.result c.loop-drawn.streams (rw c.in_default.is at c.in_ok-drawn.ensures.next) (omega (arith, large, c.min.ensures)) in
    subst (λ (s : StreamsState). turn_waits (next_turn s.waiting.ready) s ≡ false) (sym same) none
