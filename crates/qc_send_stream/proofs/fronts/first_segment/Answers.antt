use Rattle.std.proofs.Common.{sym}
use Rattle.std.proofs.lemmas.Bool.{false≢true}
use Rattle.qc_send_stream.proofs.FrontTaken.{first_absent, first_at}
use Rattle.qc_send_stream.proofs.fronts.first_segment.Goals as goal

pub returns-in-Some : goal.returns-in-Some
returns-in-Some c = rw c.len.ensures.value (sym (first_at c.args.segments.now.entries (c.in-Some.at.now, c.in-Some.segment.now) c.in-Some.ensures.first))

pub returns-in-None : goal.returns-in-None
returns-in-None c = sym (first_absent c.args.segments.now.entries (λ h. false≢true (c.in-None.ensures.variant.1 h)))
