use Rattle.std.proofs.Common.{arith}
use Rattle.std.proofs.lemmas.List.{length-append}
use Rattle.std.proofs.lemmas.Bool.Decides.{nat_tests}
use Rattle.qc_ids.specs.CidQueue.{kept_above}
use Rattle.qc_ids.proofs.Queues.{above_room, above_end}
use Rattle.qc_ids.proofs.cid_queue.push_above.Goals as goal

pub push-requires : goal.push-requires
push-requires c =
    let room = above_room c.args.sequence _ c.loop-id.out.items c.args.ids.now c.loop-id.id-index c.id-item.result (omega arith) c.id-item.is (grind (arith, nat_tests)) c.loop-id.invariant in
    (omega arith, omega (arith, room, c.requires, length-append c.args.out.now.items (kept_above c.args.sequence c.args.ids.now)))

pub returns : goal.returns
returns c = above_end c.args.sequence _ c.loop-id.out.items c.args.ids.now c.loop-id.id-index (omega arith) c.loop-id.invariant
