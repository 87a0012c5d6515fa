use Rattle.std.proofs.Common.{◌≡◌, ap, length, ◌<◌, arith}
use Rattle.qc_send_stream.specs.Buffer.{Buffer}
use Rattle.qc_send_stream.specs.Segments.{buffered}
use Rattle.qc_send_stream.proofs.Buffering.{written_none, written_bytes}
use Rattle.qc_send_stream.proofs.Counting.{written_sound}
use Rattle.qc_send_stream.proofs.buffer.SendBuffer.write.Goals as goal

pub returns-then-count-eq0-clause-written : goal.returns-then-count-eq0-clause-written
returns-then-count-eq0-clause-written c =
    let none : length c.args.bytes ≡ 0 = omega arith in
    written_none c.args.bytes c.args.self.now none

pub overflow_add-end : goal.overflow_add-end
unfolding buffered
overflow_add-end c =
    let same : c.self.inside.written ≡ c.args.self.now.written = ap (λ (b : Buffer). b.written) c.self.view_is in
    omega (arith, same, c.requires)

pub invariant_of-self-2 : goal.invariant_of-self-2
invariant_of-self-2 c =
    let some : 0 < length c.args.bytes = omega arith in
    rw (c.in_ok-keep.ensures.kept, c.len-count.ensures.value)
    (written_sound c.self.inside.written c.self.inside.sent c.self.inside.let_go c.args.bytes c.self.inside.segments.entries c.self.inside.lost.keys c.self.invariant some)

pub returns-clause-written : goal.returns-clause-written
returns-clause-written c =
    let some : 0 < length c.args.bytes = omega arith in
    rw (c.in_ok-keep.ensures.kept, c.len-count.ensures.value, ← c.self.view_is)
    (written_bytes c.self.inside.written c.self.inside.sent c.args.bytes c.self.inside.segments.entries c.self.invariant.below some)
