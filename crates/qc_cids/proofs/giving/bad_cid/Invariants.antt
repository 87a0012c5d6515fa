use Rattle.std.proofs.Common.{◌≡◌, drop}
use Rattle.qc_cids.specs.Cids.{bad_cid}
use Rattle.qc_cids.proofs.giving.bad_cid.Given as goal

abbrev pub invariant-loop-id : goal.invariant-loop-id
invariant-loop-id l = bad_cid l.cid_len l.wanted (drop l.id-index l.ids) ≡ bad_cid l.cid_len l.issued l.ids
