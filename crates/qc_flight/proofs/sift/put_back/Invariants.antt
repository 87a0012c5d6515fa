use Rattle.std.proofs.Common.{◌≡◌, ◌+◌, ◌≤◌, take, drop}
use Rattle.qc_flight.specs.Packets.{onto}
use Rattle.qc_flight.proofs.sift.put_back.Given as goal

abbrev pub invariant-loop-left : goal.invariant-loop-left
invariant-loop-left l = (l.left ≤ l.buffer.len) × (l.row.len + l.left ≤ l.row.cap) × (onto (take l.left l.buffer.items) l.row.items ≡ onto (take l.fn.kept l.fn.buffer.items) l.fn.row.items) × (drop l.left l.buffer.items ≡ drop l.fn.kept l.fn.buffer.items)

abbrev pub decreases-loop-left : goal.decreases-loop-left
decreases-loop-left l = l.left
