use Rattle.std.proofs.Common.{arith, lit<}
use Rattle.qc_frame.proofs.Lengths.{length_type}
use Rattle.qc_frame.proofs.size.longest_reason.Goals as goal

pub returns-clause-nothing : goal.returns-clause-nothing
returns-clause-nothing c more =
    let one = length_type 0 (lit< tt) in
    omega (arith, more, one, c.loop-len-test.false, c.varint_size.ensures.least)
