use Rattle.std.proofs.Common.{sym}
use Rattle.std.proofs.lemmas.Bool.{false≢true}
use Rattle.qc_send_stream.proofs.LostEnds.{lowest_at, lowest_absent, none_below}
use Rattle.qc_send_stream.proofs.ends.lowest.Goals as goal

pub returns-in-Some-clause-value : goal.returns-in-Some-clause-value
returns-in-Some-clause-value c = sym (lowest_at c.args.lost.now.keys c.in-Some.end.now c.in-Some.ensures.first)

pub returns-in-Some-clause-least : goal.returns-in-Some-clause-least
returns-in-Some-clause-least c = none_below c.in-Some.end.now c.args.lost.now.keys c.in-Some.ensures.all_from

pub returns-in-None-clause-value : goal.returns-in-None-clause-value
returns-in-None-clause-value c = sym (lowest_absent c.args.lost.now.keys (λ h. false≢true (c.in-None.ensures.variant.1 h)))
