use Rattle.std.proofs.Common.{◌≡◌, ◌<◌, length, get_or, ap, arith, true, false}
use Rattle.std.proofs.lemmas.Grind.{common_steps}
use Rattle.qc_base.specs.declared.range_set.NumberRange.{NumberRange}
use Rattle.qc_base.specs.RangeSet.{EndsBelow}
use Rattle.qc_base.proofs.AddedRanges.{nowhere}
use Rattle.qc_base.proofs.RangeLaws.{tail_normal, tail_kept, tail_had, keeps_none, keeps_all, keeps_cut}
use Rattle.qc_base.proofs.range_set.take_below.Goals as goal

pub loop-ranges-preserved : goal.loop-ranges-preserved
loop-ranges-preserved c =
    let below = c.ends_below.ensures.0 c.loop-ranges-test.true in
    record {
      normal = rw c.remove.ensures.items (tail_normal c.loop-ranges.ranges.items c.loop-ranges.invariant.normal);
      kept = λ k from member. rw c.remove.ensures.items (tail_kept c.args.n k c.loop-ranges.ranges.items below from (c.loop-ranges.invariant.kept k from member));
      had = λ k member. c.loop-ranges.invariant.had k (tail_had k c.loop-ranges.ranges.items (rw c.remove.ensures.items at member));
    }

pub returns-then-is_empty : goal.returns-then-is_empty
returns-then-is_empty c =
    let none : length c.loop-ranges.ranges.items ≡ 0 = grind (arith, common_steps) in
    keeps_none c.args.n c.args.ranges.now.items c.loop-ranges.ranges.items c.loop-ranges.invariant.normal c.loop-ranges.invariant.kept c.loop-ranges.invariant.had none

pub returns-then-n-first : goal.returns-then-n-first
returns-then-n-first c =
    let some : 0 < length c.loop-ranges.ranges.items = grind (arith, common_steps) in
    let first : c.range_at-first.result.first ≡ (get_or c.loop-ranges.ranges.items 0 nowhere).first = ap (λ (r : NumberRange). r.first) c.range_at-first.ensures in
    keeps_all c.args.n c.args.ranges.now.items c.loop-ranges.ranges.items c.loop-ranges.invariant.normal c.loop-ranges.invariant.kept c.loop-ranges.invariant.had some (omega arith)

pub returns : goal.returns
returns c =
    let not_below : EndsBelow c.args.n c.loop-ranges.ranges.items → ⊥ =
    λ below. let wrong : true ≡ false = cc (c.ends_below.ensures.1 below, c.loop-ranges-test.false) in cc in
    let first : c.range_at-first.result.first ≡ (get_or c.loop-ranges.ranges.items 0 nowhere).first = ap (λ (r : NumberRange). r.first) c.range_at-first.ensures in
    rw (c.set_at.ensures, c.range_at-first.ensures)
    (keeps_cut c.args.n c.args.ranges.now.items c.loop-ranges.ranges.items c.loop-ranges.invariant.normal c.loop-ranges.invariant.kept c.loop-ranges.invariant.had not_below (omega arith))
