use Rattle.qc_send_stream.proofs.LostEnds.{popped}
use Rattle.qc_send_stream.proofs.ends.drop_lowest.Goals as goal

pub returns : goal.returns
returns c =
    popped c.pop_first-lowest.result c.args.lost.now.keys c.pop_first-lowest.new.self.keys c.pop_first-lowest.ensures.removal c.pop_first-lowest.ensures.unchanged
    (λ h. c.pop_first-lowest.ensures.variant.1 h)
