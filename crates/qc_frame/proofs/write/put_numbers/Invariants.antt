use Rattle.std.proofs.Common.{◌≡◌, ◌-◌, ◌++◌, length, take}
use Rattle.std.specs.List.{flat_map}
use Rattle.qc_base.specs.Varint.{varint}
use Rattle.qc_frame.specs.FrameSpelling.{numbers_within}
use Rattle.qc_frame.proofs.write.put_numbers.Given as goal

abbrev pub invariant-loop-i : goal.invariant-loop-i
invariant-loop-i l = record {
  written : l.out.items ++ flat_map varint (numbers_within (length l.bytes - l.i) l.rest) ≡ l.fn.out.items ++ flat_map varint (numbers_within (length l.bytes) l.bytes);
  kept : take (length l.fn.out.items) l.out.items ≡ l.fn.out.items;
}
