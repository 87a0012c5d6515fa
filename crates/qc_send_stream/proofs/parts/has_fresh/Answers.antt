use Rattle.std.proofs.lemmas.Bool.{false≢true}
use Rattle.qc_send_stream.proofs.Lasts.{last_behind, nothing_behind}
use Rattle.qc_send_stream.proofs.parts.has_fresh.Goals as goal

pub returns-in-Some : goal.returns-in-Some
returns-in-Some c = last_behind c.args.sent c.in-Some.end.now _ c.args.segments.now.entries c.in-Some.ensures.value c.in-Some.ensures.all_up_to

pub returns-in-None : goal.returns-in-None
returns-in-None c = nothing_behind c.args.sent c.args.segments.now.entries (λ h. false≢true (c.in-None.ensures.variant.1 h))
