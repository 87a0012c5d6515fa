use Rattle.std.proofs.Common.{◌∙◌, true, false, sym, ap, refl}
use Rattle.qc_send_stream.specs.Buffer.{Buffer, has_bytes, waiting}
use Rattle.qc_send_stream.specs.Segments.{first_lost}
use Rattle.qc_send_stream.proofs.Next.{some_waits}
use Rattle.qc_send_stream.proofs.buffer.SendBuffer.has_waiting.Goals as goal

pub returns-then-has_fresh : goal.returns-then-has_fresh
returns-then-has_fresh c =
    c.if-has_fresh.true
    ∙ some_waits c.self.inside.written c.self.inside.sent c.self.inside.segments.entries (first_lost c.self.inside.segments.entries) true c.self.invariant.apart refl
    (sym c.has_fresh.ensures ∙ c.if-has_fresh.true)
    ∙ ap (λ (b : Buffer). has_bytes (waiting b)) c.self.view_is

pub returns-else-has_fresh : goal.returns-else-has_fresh
returns-else-has_fresh c =
    c.any_lost.ensures
    ∙ some_waits c.self.inside.written c.self.inside.sent c.self.inside.segments.entries (first_lost c.self.inside.segments.entries) false c.self.invariant.apart refl
    (sym c.has_fresh.ensures ∙ c.if-has_fresh.false)
    ∙ ap (λ (b : Buffer). has_bytes (waiting b)) c.self.view_is
