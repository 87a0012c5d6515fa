use Rattle.std.proofs.Common.{◌≡◌, ◌-◌, ◌++◌, length, drop}
use Rattle.std.specs.List.{flat_map}
use Rattle.qc_base.specs.Varint.{varint}
use Rattle.qc_frame.specs.AckRanges.{numbers_up}
use Rattle.qc_frame.proofs.ack_ranges.put_ranges.Given as goal

abbrev pub invariant-loop-i : goal.invariant-loop-i
invariant-loop-i l = l.out.items ≡ l.fn.out.items ++ flat_map varint (numbers_up (drop (length l.ranges - l.i) l.ranges))
