use Rattle.std.proofs.Common.{refl}
use Rattle.qc_cids.specs.Cids.{preferred_cid}
use Rattle.qc_cids.specs.Steps.{after_step}
use Rattle.qc_cids.proofs.Leaving.{after_insert}
use Rattle.qc_cids.proofs.connection_ids.ConnectionIds.prefer.Goals as goal

pub returns : goal.returns
unfolding after_step
returns c =
    let left = after_insert (preferred_cid c.args.id c.args.reset_token) c.args.self.now.remote c.insert.new.self c.insert.result
    c.insert.ensures.retired c.insert.ensures.exceeds c.insert.ensures.kept c.insert.ensures.err in
    rw left refl
