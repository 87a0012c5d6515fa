use Rattle.std.proofs.Common.{◌≡◌, length, ◌++◌}
use Rattle.qc_assembler.specs.Assembly.{advanced}
use Rattle.qc_state.specs.Lower.{ready_bytes}
use Rattle.qc_state.proofs.lower.take_ready.Given as goal

-- what was read and what can be read still is all that could be read; so many bytes were read
abbrev pub invariant-loop-bytes : goal.invariant-loop-bytes
invariant-loop-bytes l = (l.bytes.items ++ ready_bytes l.stream ≡ ready_bytes l.fn.stream) × (l.stream ≡ advanced (length l.bytes.items) l.fn.stream)

-- what came and wasn't read gets less
abbrev pub decreases-loop-bytes : goal.decreases-loop-bytes
decreases-loop-bytes l = length l.stream.came
