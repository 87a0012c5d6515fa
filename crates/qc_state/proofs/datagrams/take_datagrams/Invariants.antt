use Rattle.qc_state.specs.Taking.{TakesDatagrams}
use Rattle.qc_state.proofs.datagrams.take_datagrams.Given as goal

-- what was taken so far leaves so much of the room
abbrev pub invariant-loop-datagram : goal.invariant-loop-datagram
invariant-loop-datagram l = TakesDatagrams l.room l.fn.datagrams l.datagrams l.fn.frames l.frames l.left

abbrev pub decreases-loop-datagram : goal.decreases-loop-datagram
decreases-loop-datagram l = l.left
