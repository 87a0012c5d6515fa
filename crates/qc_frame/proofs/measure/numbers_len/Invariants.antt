use Rattle.std.proofs.Common.{◌≡◌, ◌+◌, ◌-◌, ◌≤◌, length}
use Rattle.std.specs.List.{flat_map}
use Rattle.qc_base.specs.Varint.{varint}
use Rattle.qc_frame.specs.FrameSpelling.{numbers_within}
use Rattle.qc_frame.proofs.measure.numbers_len.Given as goal

abbrev pub invariant-loop-i : goal.invariant-loop-i
invariant-loop-i l = record {
  measured : l.len + length (flat_map varint (numbers_within (length l.bytes - l.i) l.rest)) ≡ length (flat_map varint (numbers_within (length l.bytes) l.bytes));
  within : l.len + length l.rest ≤ length l.bytes;
}
