use Rattle.std.proofs.Common.{◌∙◌, sym, arith}
use Rattle.qc_send_stream.proofs.Ranges.{next_bounds, out_step, out_none, removed_apart}
use Rattle.qc_send_stream.proofs.segments.remove.Goals as goal

pub loop-at-smaller : goal.loop-at-smaller
loop-at-smaller c = omega (arith, next_bounds c.loop-at.start c.args.end c.in-Some.at c.loop-at.segments.entries (sym c.in-Some.ensures))

pub loop-at-preserved : goal.loop-at-preserved
loop-at-preserved c = record {
  same = rw c.take_out-count.ensures.removed (out_step c.loop-at.start c.args.end c.in-Some.at 0 c.loop-at.segments.entries c.loop-at.invariant.apart (sym c.in-Some.ensures) ∙ c.loop-at.invariant.same);
  apart = rw c.take_out-count.ensures.removed (removed_apart c.in-Some.at 0 c.loop-at.segments.entries c.loop-at.invariant.apart);
  counted = omega (arith, c.take_out-count.ensures.count, c.loop-at.invariant.counted);
}

pub returns-clause-removed : goal.returns-clause-removed
returns-clause-removed c =
    sym (out_none c.loop-at.start c.args.end 0 c.loop-at.segments.entries c.loop-at.invariant.apart (sym c.in_default.ensures)) ∙ c.loop-at.invariant.same
