use Rattle.std.proofs.Common.{◌≡◌, length}
use Rattle.qc_state.specs.Waiting.{lost_in}
use Rattle.qc_state.proofs.settling.lose.Given as goal

-- the packets that are left lead to where all do
abbrev pub invariant-loop-packet : goal.invariant-loop-packet
invariant-loop-packet l = lost_in l.space l.lost ≡ lost_in l.fn.space l.fn.lost

abbrev pub decreases-loop-packet : goal.decreases-loop-packet
decreases-loop-packet l = length l.lost
