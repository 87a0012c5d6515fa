use Rattle.std.proofs.Common.{◌∙◌, ap, List, ℕ, length, arith}
use Rattle.qc_send_stream.specs.declared.segments.Segment.{Segment}
use Rattle.qc_send_stream.specs.Segments.{flat}
use Rattle.qc_send_stream.proofs.FrontTaken.{front_apart, front_end, front_gone, front_holds, front_listed, front_size, front_some}
use Rattle.qc_send_stream.proofs.fronts.take_front.Goals as goal

pub overflow_sub-count : goal.overflow_sub-count
overflow_sub-count c =
    let some = front_some c.args.start c.args.end c.args.at c.args.segments.now.entries c.requires.front in
    omega (arith, some)

pub shorten-requires : goal.shorten-requires
shorten-requires c = front_holds c.args.start c.args.end c.args.at c.args.segments.now.entries c.requires.front

pub returns-clause-gone : goal.returns-clause-gone
returns-clause-gone c = rw c.shorten.ensures (front_gone c.args.start c.args.end c.args.at c.args.segments.now.entries c.requires.apart c.requires.front)

pub returns-clause-count : goal.returns-clause-count
returns-clause-count c = rw c.shorten.ensures (front_size c.args.start c.args.end c.args.at c.args.segments.now.entries c.requires.front)

pub returns-clause-apart : goal.returns-clause-apart
returns-clause-apart c = rw c.shorten.ensures (front_apart c.args.start c.args.end c.args.at 0 c.args.segments.now.entries c.requires.apart c.requires.front)

pub returns-clause-below : goal.returns-clause-below
returns-clause-below c = λ n by. rw c.shorten.ensures (front_end n c.args.start c.args.end c.args.at c.args.segments.now.entries by c.requires.front)

pub returns-clause-listed : goal.returns-clause-listed
returns-clause-listed c = λ ends listed. rw c.shorten.ensures (front_listed c.args.start c.args.end c.args.at c.args.segments.now.entries ends listed c.requires.front)
