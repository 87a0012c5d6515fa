use Rattle.std.proofs.Common.{ℕ, ◌≤◌, length}
use Rattle.qc_base.specs.RangeSet.{Member, Normal}
use Rattle.qc_base.proofs.range_set.take_below.Given as goal

abbrev pub invariant-loop-ranges : goal.invariant-loop-ranges
invariant-loop-ranges l = record {
  normal : Normal l.ranges.items;
  kept : (k : ℕ) → l.n ≤ k → Member k l.initial.ranges.items → Member k l.ranges.items;
  had : (k : ℕ) → Member k l.ranges.items → Member k l.initial.ranges.items;
}

abbrev pub decreases-loop-ranges : goal.decreases-loop-ranges
decreases-loop-ranges l = length l.ranges.items
