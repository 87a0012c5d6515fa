use Rattle.std.proofs.Common.{arith}
use Rattle.qc_datagrams.proofs.Room.{total_push}
use Rattle.qc_datagrams.proofs.queue.DatagramQueue.push.Goals as goal

pub invariant_of-self-2 : goal.invariant_of-self-2
invariant_of-self-2 c =
    rw c.push_back_reserved.ensures.items
    (omega (arith, total_push c.make_room.new.items.items c.args.datagram, c.make_room.ensures.bytes, c.weight.ensures.value))
