use Rattle.std.proofs.Common.{◌∙◌, ap, length, List}
use Rattle.std.specs.Prelude.{false}
use Rattle.qc_send_stream.specs.Buffer.{Kept, marked}
use Rattle.qc_send_stream.proofs.Ranges.{stood_flat, stood_apart, stood_end, stood_listed}
use Rattle.qc_send_stream.proofs.Buffering.{unmark_none}
use Rattle.qc_send_stream.proofs.Counting.{stood_size}
use Rattle.qc_send_stream.proofs.segments.unmark.Goals as goal

pub returns-then-is_empty-clause-marked : goal.returns-then-is_empty-clause-marked
returns-then-is_empty-clause-marked c =
    unmark_none c.args.start c.args.end c.args.segments.now.entries c.args.lost.now.keys c.requires.listed (c.is_empty.ensures.0 c.if-is_empty.true)

pub returns-clause-marked : goal.returns-clause-marked
returns-clause-marked c =
    rw c.mark.ensures
    (stood_flat false c.args.start c.args.end 0 c.cut_range.new.segments.entries c.cut_range.ensures.apart c.in_ok-cut_range.ensures.first c.in_ok-cut_range.ensures.last
    ∙ ap (λ (v : List Kept). marked false c.args.start c.args.end v) c.cut_range.ensures.same)

pub returns-clause-apart : goal.returns-clause-apart
returns-clause-apart c = rw c.mark.ensures (stood_apart false c.args.start c.args.end 0 c.cut_range.new.segments.entries c.cut_range.ensures.apart)

pub returns-clause-below : goal.returns-clause-below
returns-clause-below c = λ n by.
    rw c.mark.ensures (stood_end n false c.args.start c.args.end c.cut_range.new.segments.entries (c.cut_range.ensures.below n by))

pub returns-clause-listed : goal.returns-clause-listed
returns-clause-listed c = rw c.mark.ensures (stood_listed c.args.start c.args.end c.cut_range.new.segments.entries c.cut_range.new.lost.keys c.cut_range.ensures.listed)

pub returns-clause-count : goal.returns-clause-count
returns-clause-count c =
    rw c.mark.ensures
    (stood_size false c.args.start c.args.end c.cut_range.new.segments.entries c.cut_range.ensures.apart c.in_ok-cut_range.ensures.first c.in_ok-cut_range.ensures.last
    ∙ ap (λ (v : List Kept). length v) c.cut_range.ensures.same)
