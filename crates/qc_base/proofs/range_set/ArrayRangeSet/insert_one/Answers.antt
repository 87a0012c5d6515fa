use Rattle.std.proofs.Common.{◌-◌, length}
use Rattle.qc_base.proofs.RangeLaws.{normal_drop}
use Rattle.qc_base.proofs.range_set.ArrayRangeSet.insert_one.Goals as goal

pub invariant_of-self : goal.invariant_of-self
invariant_of-self c =
    let added = c.add.ensures.numbers in
    rw added.2 (normal_drop (length added.0 - 64) added.0 added.1.normal)
