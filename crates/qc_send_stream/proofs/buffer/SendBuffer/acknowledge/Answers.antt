use Rattle.std.proofs.Common.{◌∙◌, ℕ, List, ap, length, arith}
use Rattle.qc_send_stream.specs.Buffer.{Kept, Buffer}
use Rattle.qc_send_stream.specs.Segments.{flat, buffered}
use Rattle.qc_send_stream.proofs.Buffering.{same_bytes, acked_bytes}
use Rattle.qc_send_stream.proofs.Outcomes.{on_err}
use Rattle.qc_send_stream.proofs.buffer.SendBuffer.acknowledge.Goals as goal

pub returns-in_err-count-clause-err : goal.returns-in_err-count-clause-err
returns-in_err-count-clause-err c =
    on_err c.from_residual.result _
    (same_bytes c.self.inside.written c.self.inside.sent c.self.inside.segments.entries c.take_range.new.segments.entries c.in_err-count.ensures.err ∙ c.self.view_is)

pub invariant_of-self-2 : goal.invariant_of-self-2
invariant_of-self-2 c = record {
  apart = c.take_range.ensures.apart;
  below = c.take_range.ensures.below c.self.inside.written c.self.invariant.below;
  listed = c.take_range.ensures.listed;
  counted = omega (arith, c.in_ok-count.ensures.count, c.self.invariant.counted);
}

pub returns-clause-acked : goal.returns-clause-acked
returns-clause-acked c =
    rw (← c.self.view_is)
    (acked_bytes c.self.inside.written c.self.inside.sent c.args.start c.min-end.result c.self.inside.segments.entries c.take_range.new.segments.entries c.args.end c.min-end.ensures
    c.in_ok-count.ensures.gone)

pub returns-clause-count : goal.returns-clause-count
unfolding buffered
returns-clause-count c = omega (arith, c.in_ok-count.ensures.count, ap (λ (b : Buffer). length b.kept) c.self.view_is)
