use Rattle.std.proofs.Common.{◌≡◌, ◌++◌, drop}
use Rattle.qc_ids.specs.CidQueue.{kept_above}
use Rattle.qc_ids.proofs.cid_queue.push_above.Given as goal

abbrev pub invariant-loop-id : goal.invariant-loop-id
invariant-loop-id l = l.out.items ++ kept_above l.sequence (drop l.id-index l.ids) ≡ l.fn.out.items ++ kept_above l.sequence l.ids
