use Rattle.std.proofs.Common.{◌<◌, length, arith}
use Rattle.qc_frame.proofs.Shortest.{measured_next}
use Rattle.qc_frame.proofs.measure.numbers_len.Goals as goal

pub loop-i-preserved : goal.loop-i-preserved
loop-i-preserved c = record {
  measured = let h : c.loop-i.i < length c.args.bytes.now = c.loop-i-test.true in
      measured_next _ _ _ _ _ _ _ _ h c.in-Ok.ensures.exact c.varint_size-len.ensures.size c.loop-i.invariant.measured;
  within = omega (arith, c.varint_size-len.ensures.size, c.in-Ok.ensures.within, c.loop-i.invariant.within);
}
