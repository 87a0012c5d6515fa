use Rattle.qc_streams.proofs.Draws.{drawn_so}
use Rattle.qc_streams.proofs.state.StreamsState.draw_part.Goals as goal

pub returns-clause-drawn : goal.returns-clause-drawn
returns-clause-drawn c =
    drawn_so c.in-Some-2.drawn c.in-Some.id c.args.self.now c.draw.new.self c.pass_turn.new.self
    (rw c.in-Some-2.is at c.in_ok-drawn.ensures.turn) (rw c.in-Some-2.is at c.in_ok-drawn.ensures.drawn) c.in_ok-pass_turn.ensures
