use Rattle.std.proofs.Common.{arith}
use Rattle.std.proofs.lemmas.List.{length-append}
use Rattle.qc_ids.specs.CidQueue.{kept_between}
use Rattle.qc_ids.proofs.Queues.{between_room, between_end}
use Rattle.qc_ids.proofs.cid_queue.push_between.Goals as goal

pub push-requires : goal.push-requires
push-requires c =
    let room = between_room c.args.low c.args.high _ c.loop-id.out.items c.args.ids.now c.loop-id.id-index c.id-item.result (omega arith) c.id-item.is (cc) c.loop-id.invariant in
    (omega arith, omega (arith, room, c.requires, length-append c.args.out.now.items (kept_between c.args.low c.args.high c.args.ids.now)))

pub returns : goal.returns
returns c = between_end c.args.low c.args.high _ c.loop-id.out.items c.args.ids.now c.loop-id.id-index (omega arith) c.loop-id.invariant
