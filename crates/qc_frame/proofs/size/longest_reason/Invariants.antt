use Rattle.std.proofs.Common.{ℕ, ◌+◌, ◌<◌, ◌≤◌, length}
use Rattle.qc_base.specs.Varint.{varint}
use Rattle.qc_frame.proofs.size.longest_reason.Given as goal

abbrev pub invariant-loop-len : goal.invariant-loop-len
invariant-loop-len l = record {
  within : l.len ≤ length l.reason;
  longer : (n : ℕ) → l.len < n → n ≤ length l.reason → l.room < l.head + length (varint n) + n;
}

abbrev pub decreases-loop-len : goal.decreases-loop-len
decreases-loop-len l = l.len
