use Rattle.std.proofs.Common.{arith}
use Rattle.qc_datagrams.proofs.Room.{total_first}
use Rattle.qc_datagrams.proofs.queue.pop_front.Goals as goal

pub overflow_sub-bytes : goal.overflow_sub-bytes
overflow_sub-bytes c = omega (arith, total_first c.in_ok-datagram.datagram c.pop_front.new.self.items c.args.items.now.items c.in_ok-datagram.ensures.items, c.weight.ensures)

pub returns-clause-bytes : goal.returns-clause-bytes
returns-clause-bytes c = omega (arith, total_first c.in_ok-datagram.datagram c.pop_front.new.self.items c.args.items.now.items c.in_ok-datagram.ensures.items, c.weight.ensures)
