use Rattle.std.proofs.Common.{◌≡◌, IsSome, arith}
use Rattle.qc_ids.specs.CidQueue.{IsQueue, IsTaken, active_seq_of, inserted, renewal_of}
use Rattle.qc_ids.proofs.Queues.{renews}
use Rattle.qc_ids.proofs.cid_queue.CidQueue.insert.Goals as goal

pub returns-clause-renews : goal.returns-clause-renews
returns-clause-renews c =
    let queue : IsQueue c.args.self.now = rw c.self.view_is at c.self.invariant in
    let taken : IsTaken c.args.cid c.args.self.now = record { order = c.requires.order; from_active = omega arith; within = omega arith; queue = queue } in
    let renewed : IsSome (renewal_of (active_seq_of c.args.self.now) (inserted c.args.cid c.args.self.now)) = renews c.args.cid c.args.self.now taken (omega arith) in
    let same : c.renewal.result ≡ renewal_of (active_seq_of c.args.self.now) (inserted c.args.cid c.args.self.now) = grind arith in
    ((λ _. omega arith), (λ _. rw same renewed))
