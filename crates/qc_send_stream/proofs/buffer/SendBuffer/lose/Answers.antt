use Rattle.std.proofs.Common.{◌∙◌, ℕ, List, ap, length, arith, subst, true}
use Rattle.qc_send_stream.specs.Buffer.{Kept}
use Rattle.qc_send_stream.specs.Segments.{CutAt}
use Rattle.qc_send_stream.proofs.Ranges.{stood_apart, stood_end, stood_noted}
use Rattle.qc_send_stream.proofs.Buffering.{same_bytes, lost_bytes}
use Rattle.qc_send_stream.proofs.Counting.{stood_size}
use Rattle.qc_send_stream.proofs.Outcomes.{on_err}
use Rattle.qc_send_stream.proofs.buffer.SendBuffer.lose.Goals as goal

pub returns-in_err-cut_range-clause-err : goal.returns-in_err-cut_range-clause-err
returns-in_err-cut_range-clause-err c =
    on_err c.from_residual.result _
    (same_bytes c.self.inside.written c.self.inside.sent c.self.inside.segments.entries c.cut_range.new.segments.entries c.cut_range.ensures.same ∙ c.self.view_is)

pub returns-in_err-note_range-clause-err : goal.returns-in_err-note_range-clause-err
returns-in_err-note_range-clause-err c =
    on_err c.from_residual-in_err-note_range.result _
    (same_bytes c.self.inside.written c.self.inside.sent c.self.inside.segments.entries c.cut_range.new.segments.entries c.cut_range.ensures.same ∙ c.self.view_is)

pub invariant_of-self-2 : goal.invariant_of-self-2
invariant_of-self-2 c =
    rw c.mark.ensures
    (record {
      apart = stood_apart true c.args.start c.min-end.result 0 c.cut_range.new.segments.entries c.cut_range.ensures.apart;
      below = stood_end c.self.inside.written true c.args.start c.min-end.result c.cut_range.new.segments.entries (c.cut_range.ensures.below c.self.inside.written c.self.invariant.below);
      listed = stood_noted c.args.start c.min-end.result c.cut_range.new.segments.entries c.note_range.new.lost.keys c.note_range.ensures.listed c.in_ok-note_range.ensures.noted;
      counted = omega (arith, c.self.invariant.counted, ap (λ (v : List Kept). length v) c.cut_range.ensures.same, stood_size true c.args.start c.min-end.result c.cut_range.new.segments.entries c.cut_range.ensures.apart c.in_ok-cut_range.ensures.first c.in_ok-cut_range.ensures.last);
    })

pub returns-clause-lost : goal.returns-clause-lost
returns-clause-lost c =
    let first = c.in_ok-cut_range.ensures.first in
    let last = subst (λ (i : ℕ). CutAt i c.cut_range.new.segments.entries) c.min-end.ensures c.in_ok-cut_range.ensures.last in
    rw (c.mark.ensures, c.min-end.ensures, ← c.self.view_is)
    (lost_bytes c.self.inside.written c.self.inside.sent c.args.start c.self.inside.segments.entries c.cut_range.new.segments.entries c.args.end c.cut_range.ensures.apart first last
    c.cut_range.ensures.same)
