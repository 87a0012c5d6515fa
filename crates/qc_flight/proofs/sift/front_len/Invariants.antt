use Rattle.std.proofs.Common.{◌≡◌, ◌+◌, ◌-◌, ◌≤◌, drop}
use Rattle.std.specs.VecDeque.{deque_len}
use Rattle.qc_flight.specs.Packets.{up_to}
use Rattle.qc_flight.proofs.sift.front_len.Given as goal

abbrev pub invariant-loop-count : goal.invariant-loop-count
invariant-loop-count l = (l.count ≤ deque_len l.row) × (l.count + up_to l.limit (drop l.count l.row.items) ≡ up_to l.limit l.row.items)

abbrev pub decreases-loop-count : goal.decreases-loop-count
decreases-loop-count l = deque_len l.row - l.count
