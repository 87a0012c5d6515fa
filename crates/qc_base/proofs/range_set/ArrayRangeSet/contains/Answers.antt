use Rattle.std.proofs.Common.{◌∙◌, refl, sym}
use Rattle.qc_base.proofs.RangeLaws.{member_at}
use Rattle.qc_base.proofs.range_set.ArrayRangeSet.contains.Goals as goal

pub returns-then-contains : goal.returns-then-contains
returns-then-contains c =
    let same = c.as_slice-range-items.ensures.value ∙ c.self.view_is in
    let here = c.contains.ensures.0 c.if-contains.true in
    ((λ _. rw (sym same) (member_at c.args.n c.as_slice-range-items.result.now c.loop-range.range-index c.loop-range-test.true here.0 here.1)), (λ _. refl))
