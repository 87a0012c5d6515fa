use Rattle.std.proofs.Common.{◌∙◌, ◌-◌, length, ap, arith}
use Rattle.qc_base.proofs.RangeLaws.{last_member, last_greatest}
use Rattle.qc_base.proofs.range_set.ArrayRangeSet.max.Goals as goal

pub returns-in-len1-up-clause-member : goal.returns-in-len1-up-clause-member
returns-in-len1-up-clause-member c =
    let same = c.as_slice.ensures.value ∙ c.self.view_is in
    let normal = rw c.self.view_is at c.self.invariant in
    rw same (last_member c.args.self.now (length c.args.self.now - 1) (omega (arith, ap length same)) normal)

pub returns-in-len1-up-clause-greatest : goal.returns-in-len1-up-clause-greatest
returns-in-len1-up-clause-greatest c = λ k member.
    let same = c.as_slice.ensures.value ∙ c.self.view_is in
    let normal = rw c.self.view_is at c.self.invariant in
    rw same (last_greatest c.args.self.now (length c.args.self.now - 1) k (omega (arith, ap length same)) normal member)
