use Rattle.qc_streams.proofs.Refused.{unplaced_ok}
use Rattle.qc_streams.proofs.sides.write.Goals as goal

pub returns-clause-unplaced : goal.returns-clause-unplaced
returns-clause-unplaced c =
    unplaced_ok c.write.result c.args.most c.args.sending.now c.args.events.now c.put_by.new.events c.requires c.in_ok-put_by.ensures.added c.write.ensures.fits
