use Rattle.std.proofs.Common.{◌∙◌}
use Rattle.qc_send_stream.proofs.Buffering.{same_bytes, sealed_bytes}
use Rattle.qc_send_stream.proofs.Outcomes.{on_err}
use Rattle.qc_send_stream.proofs.buffer.SendBuffer.seal.Goals as goal

pub returns-in_err-unmark-clause-err : goal.returns-in_err-unmark-clause-err
returns-in_err-unmark-clause-err c =
    on_err c.from_residual.result _
    (same_bytes c.self.inside.written c.self.inside.sent c.self.inside.segments.entries c.unmark.new.segments.entries c.in_err-unmark.ensures.err ∙ c.self.view_is)

pub returns-clause-sealed : goal.returns-clause-sealed
returns-clause-sealed c =
    rw (← c.self.view_is)
    (sealed_bytes c.self.inside.written c.self.inside.sent c.sent_with-self-inside.result c.args.start c.args.end c.self.inside.segments.entries c.unmark.new.segments.entries c.sent_with-self-inside.ensures
    c.in_ok-unmark.ensures.marked)
