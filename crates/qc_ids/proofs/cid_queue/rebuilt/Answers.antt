use Rattle.std.proofs.Common.{◌≡◌, arith}
use Rattle.std.proofs.lemmas.Grind.{common_steps}
use Rattle.qc_ids.specs.CidQueue.{inserted}
use Rattle.qc_ids.proofs.Queues.{inserted_queue}
use Rattle.qc_ids.proofs.cid_queue.rebuilt.Goals as goal

pub returns-clause-queue : goal.returns-clause-queue
unfolding inserted
returns-clause-queue c =
    let same : c.push_above.new.out.items ≡ inserted c.args.new.now c.args.ids.now = grind (arith, common_steps) in
    inserted_queue c.args.new.now c.args.ids.now c.push_above.new.out.items c.requires same
