use Rattle.std.proofs.Common.{◌∙◌, sym, arith}
use Rattle.qc_send_stream.proofs.Ranges.{next_bounds, stood_step, stood_none, changed_apart}
use Rattle.qc_send_stream.proofs.segments.mark.Goals as goal

pub loop-at-smaller : goal.loop-at-smaller
loop-at-smaller c = omega (arith, next_bounds c.loop-at.start c.args.end c.in-Some.at c.loop-at.segments.entries (sym c.in-Some.ensures))

pub loop-at-preserved : goal.loop-at-preserved
loop-at-preserved c = record {
  same = rw c.set_lost.ensures (stood_step c.args.lost c.loop-at.start c.args.end c.in-Some.at 0 c.loop-at.segments.entries c.loop-at.invariant.apart (sym c.in-Some.ensures) ∙ c.loop-at.invariant.same);
  apart = rw c.set_lost.ensures (changed_apart c.args.lost c.in-Some.at 0 c.loop-at.segments.entries c.loop-at.invariant.apart);
}

pub returns : goal.returns
returns c =
    sym (stood_none c.args.lost c.loop-at.start c.args.end 0 c.loop-at.segments.entries c.loop-at.invariant.apart (sym c.in_default.ensures)) ∙ c.loop-at.invariant.same
