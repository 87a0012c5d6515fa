use Rattle.std.proofs.Common.{length, refl}
use Rattle.qc_streams.proofs.Views.{copy_count, copy_wants, copy_wrote}
use Rattle.qc_streams.proofs.state.StreamsState.write_copy.Goals as goal

pub returns-in_default-clause-refused : goal.returns-in_default-clause-refused
returns-in_default-clause-refused c =
    copy_wants _ (length c.args.body.now) c.unrefused-count.result c.args.self.now c.unrefused-count.ensures.count c.in_default.ensures.some

pub returns-clause-count : goal.returns-clause-count
returns-clause-count c =
    copy_count c.args.id (length c.args.body.now) c.in_ok-taken.taken c.unrefused-count.result c.args.self.now c.in-Ok.chunk c.args.body.now
    c.in-Ok.ensures.front c.unrefused-count.ensures.within refl c.in_ok-taken.ensures.fits c.unrefused-count.ensures.count c.in_ok-taken.ensures.count

pub returns-clause-written : goal.returns-clause-written
returns-clause-written c =
    copy_wrote c.args.id (length c.args.body.now) c.in_ok-taken.taken c.unrefused-count.result c.args.self.now c.write.new.self c.in-Ok.chunk c.args.body.now
    c.in-Ok.ensures.front c.unrefused-count.ensures.within c.in_ok-taken.ensures.fits c.unrefused-count.ensures.count c.in_ok-taken.ensures.count
    c.in_ok-taken.ensures.written
