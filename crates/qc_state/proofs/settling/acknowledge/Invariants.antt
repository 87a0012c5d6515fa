use Rattle.std.proofs.Common.{◌≡◌, length}
use Rattle.qc_state.specs.Waiting.{acked_in}
use Rattle.qc_state.proofs.settling.acknowledge.Given as goal

-- the packets that are left lead to where all do
abbrev pub invariant-loop-packet : goal.invariant-loop-packet
invariant-loop-packet l = acked_in l.space l.acked ≡ acked_in l.fn.space l.fn.acked

abbrev pub decreases-loop-packet : goal.decreases-loop-packet
decreases-loop-packet l = length l.acked
