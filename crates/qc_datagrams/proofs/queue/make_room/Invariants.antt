use Rattle.std.proofs.Common.{◌≡◌, ◌≤◌, length}
use Rattle.std.specs.VecDeque.{deque_len, deque_capacity}
use Rattle.qc_datagrams.specs.Queue.{total, with_room}
use Rattle.qc_datagrams.proofs.queue.make_room.Given as goal

abbrev pub invariant-loop-items : goal.invariant-loop-items
invariant-loop-items l = record {
  room : with_room l.limit l.datagram l.items.items ≡ with_room l.limit l.datagram l.fn.items.items;
  bytes : l.bytes ≡ total l.items.items;
  capacity : deque_capacity l.items ≡ deque_capacity l.fn.items;
  len : deque_len l.items ≤ deque_len l.fn.items;
}

abbrev pub decreases-loop-items : goal.decreases-loop-items
decreases-loop-items l = length l.items.items
