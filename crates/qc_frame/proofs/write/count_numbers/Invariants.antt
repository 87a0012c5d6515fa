use Rattle.std.proofs.Common.{◌≡◌, ◌+◌, ◌-◌, ◌≤◌, length}
use Rattle.qc_frame.specs.FrameSpelling.{numbers_within}
use Rattle.qc_frame.proofs.write.count_numbers.Given as goal

abbrev pub invariant-loop-i : goal.invariant-loop-i
invariant-loop-i l = record {
  counted : l.count + length (numbers_within (length l.bytes - l.i) l.rest) ≡ length (numbers_within (length l.bytes) l.bytes);
  at_most : l.count ≤ l.i;
}
