use Rattle.std.proofs.Common.{drop}
use Rattle.qc_base.specs.RangeSet.{Member}
use Rattle.qc_base.proofs.range_set.ArrayRangeSet.contains.Given as goal

abbrev pub invariant-loop-range : goal.invariant-loop-range
invariant-loop-range l = Member l.n l.range-items → Member l.n (drop l.range-index l.range-items)
