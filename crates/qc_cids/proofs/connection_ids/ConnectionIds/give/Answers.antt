use Rattle.qc_cids.proofs.NextIds.{given_few}
use Rattle.qc_cids.proofs.connection_ids.ConnectionIds.give.Goals as goal

pub overflow_sub-self : goal.overflow_sub-self
overflow_sub-self c = given_few c.args.ids.now c.args.self.now c.requires
