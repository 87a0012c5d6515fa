use Rattle.std.proofs.Common.{ap, length, arith}
use Rattle.qc_send_stream.specs.Buffer.{Buffer}
use Rattle.qc_send_stream.specs.Segments.{buffered}
use Rattle.qc_send_stream.proofs.buffer.SendBuffer.kept.Goals as goal

pub returns : goal.returns
unfolding buffered
returns c = omega (arith, c.self.invariant.counted, ap (λ (b : Buffer). length b.kept) c.self.view_is)
