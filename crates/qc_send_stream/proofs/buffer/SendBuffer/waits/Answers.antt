use Rattle.std.proofs.Common.{◌∙◌, sym, ap}
use Rattle.qc_send_stream.specs.Buffer.{Buffer, has_bytes, waiting}
use Rattle.qc_send_stream.proofs.Next.{lost_waits, fresh_waits}
use Rattle.qc_send_stream.proofs.buffer.SendBuffer.waits.Goals as goal
use Rattle.qc_send_stream.proofs.buffer.SendBuffer.waits.Goals.{in-Some, in-None}

pub returns-clause-waits : goal.returns-clause-waits
returns-clause-waits c =
    elim c.match-first_lost.branch [
      | in-Some w ↦
          w.result-is
          ∙ lost_waits c.self.inside.written c.self.inside.sent w.in-Some.field-0 c.self.inside.segments.entries c.self.invariant.apart (sym w.in-Some.ensures.value)
          ∙ ap (λ (b : Buffer). has_bytes (waiting b)) c.self.view_is
      | in-None w ↦
          w.result-is ∙ w.has_fresh.ensures
          ∙ fresh_waits c.self.inside.written c.self.inside.sent c.self.inside.segments.entries c.self.invariant.apart (sym w.in-None.ensures.value)
          ∙ ap (λ (b : Buffer). has_bytes (waiting b)) c.self.view_is
    ]
