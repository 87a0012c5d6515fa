use Rattle.std.proofs.Common.{◌∙◌, ap, not}
use Rattle.qc_send_stream.specs.Buffer.{Buffer, has_bytes}
use Rattle.qc_send_stream.specs.Segments.{buffered}
use Rattle.qc_send_stream.proofs.Buffering.{empty_is}
use Rattle.qc_send_stream.proofs.buffer.SendBuffer.is_empty.Goals as goal

pub returns : goal.returns
unfolding buffered
returns c =
    empty_is c.is_empty.result c.self.inside.segments.entries c.self.invariant.apart c.is_empty.ensures.0 c.is_empty.ensures.1
    ∙ ap (λ (b : Buffer). not (has_bytes b.kept)) c.self.view_is
