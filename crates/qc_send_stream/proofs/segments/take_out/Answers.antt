use Rattle.std.proofs.Common.{ap, sym, List, length, arith, ℕ}
use Rattle.qc_send_stream.specs.declared.segments.Segment.{Segment}
use Rattle.qc_send_stream.specs.Segments.{flat}
use Rattle.qc_send_stream.proofs.Counting.{taken_out}
use Rattle.qc_send_stream.proofs.segments.take_out.Goals as goal

pub returns-in-Some-clause-count : goal.returns-in-Some-clause-count
returns-in-Some-clause-count c =
    omega (
      arith,
      c.len.ensures.value,
      ap (λ (v : List (ℕ × Segment)). length (flat v)) c.remove.ensures.entries,
      taken_out c.args.end c.in-Some.segment c.args.segments.now.entries (sym c.in-Some.ensures.value),
    )
