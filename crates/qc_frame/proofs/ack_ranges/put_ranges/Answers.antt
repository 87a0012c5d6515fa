use Rattle.std.proofs.Common.{ℕ, ◌+◌, ◌-◌, ◌<◌, length, arith}
use Rattle.qc_base.proofs.AddedRanges.{nowhere}
use Rattle.qc_frame.proofs.RangesUp.{normal_from}
use Rattle.qc_frame.proofs.ack_ranges.put_ranges.Goals as goal

pub put_range-requires : goal.put_range-requires
put_range-requires c =
    let more : c.loop-i.i < length c.args.ranges.now = c.loop-i-test.true in
    let place : ℕ = length c.args.ranges.now - 1 - c.loop-i.i in
    rw c.split_at.ensures.back (normal_from c.args.ranges.now place (place + 1) nowhere c.requires (omega arith) (omega arith))
