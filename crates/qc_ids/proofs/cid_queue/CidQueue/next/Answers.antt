use Rattle.std.proofs.Common.{length, ap, arith}
use Rattle.qc_ids.proofs.Queues.{tail_queue}
use Rattle.qc_ids.proofs.cid_queue.CidQueue.next.Goals as goal

pub invariant_of-self : goal.invariant_of-self
invariant_of-self c = rw c.remove.ensures.items (tail_queue c.self.inside.ids.items (omega (arith, ap length c.as_slice.ensures.value)) c.self.invariant)
