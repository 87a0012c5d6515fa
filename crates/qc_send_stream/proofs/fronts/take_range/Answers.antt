use Rattle.std.proofs.Common.{◌∙◌, ap, List, ℕ, length, arith}
use Rattle.qc_send_stream.specs.declared.segments.Segment.{Segment}
use Rattle.qc_send_stream.specs.Buffer.{Kept, without}
use Rattle.qc_send_stream.specs.Segments.{flat}
use Rattle.qc_send_stream.proofs.Ranges.{out_apart, out_end, out_flat, out_listed}
use Rattle.qc_send_stream.proofs.fronts.take_range.Goals as goal

pub returns-in_ok-cut_range-in-None-clause-gone : goal.returns-in_ok-cut_range-in-None-clause-gone
returns-in_ok-cut_range-in-None-clause-gone c =
    rw c.remove.ensures.removed
    (out_flat c.args.start c.args.end 0 c.cut_range.new.segments.entries c.cut_range.ensures.apart c.in_ok-cut_range-in-None.ensures.first c.in_ok-cut_range-in-None.ensures.last
    ∙ ap (λ (v : List Kept). without c.args.start c.args.end v) c.cut_range.ensures.same)

pub returns-in_ok-cut_range-in-None-clause-apart : goal.returns-in_ok-cut_range-in-None-clause-apart
returns-in_ok-cut_range-in-None-clause-apart c = rw c.remove.ensures.removed (out_apart c.args.start c.args.end 0 c.cut_range.new.segments.entries c.cut_range.ensures.apart)

pub returns-in_ok-cut_range-in-None-clause-below : goal.returns-in_ok-cut_range-in-None-clause-below
returns-in_ok-cut_range-in-None-clause-below c = λ n by.
    rw c.remove.ensures.removed (out_end n c.args.start c.args.end c.cut_range.new.segments.entries (c.cut_range.ensures.below n by))

pub returns-in_ok-cut_range-in-None-clause-listed : goal.returns-in_ok-cut_range-in-None-clause-listed
returns-in_ok-cut_range-in-None-clause-listed c =
    rw c.remove.ensures.removed (out_listed c.args.start c.args.end c.cut_range.new.segments.entries c.cut_range.new.lost.keys c.cut_range.ensures.listed)
