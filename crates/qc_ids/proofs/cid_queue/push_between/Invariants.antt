use Rattle.std.proofs.Common.{◌≡◌, ◌++◌, drop}
use Rattle.qc_ids.specs.CidQueue.{kept_between}
use Rattle.qc_ids.proofs.cid_queue.push_between.Given as goal

abbrev pub invariant-loop-id : goal.invariant-loop-id
invariant-loop-id l = l.out.items ++ kept_between l.low l.high (drop l.id-index l.ids) ≡ l.fn.out.items ++ kept_between l.low l.high l.ids
