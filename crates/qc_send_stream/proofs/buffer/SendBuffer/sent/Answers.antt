use Rattle.std.proofs.Common.{ap}
use Rattle.qc_send_stream.specs.Buffer.{Buffer}
use Rattle.qc_send_stream.specs.Segments.{buffered}
use Rattle.qc_send_stream.proofs.buffer.SendBuffer.sent.Goals as goal

pub returns : goal.returns
unfolding buffered
returns c = ap (λ (b : Buffer). b.sent) c.self.view_is
