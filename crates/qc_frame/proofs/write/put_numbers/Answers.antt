use Rattle.std.proofs.Common.{◌<◌, length, arith}
use Rattle.std.proofs.lemmas.Grind.{common_steps}
use Rattle.qc_frame.specs.FrameSpelling.{numbers_of}
use Rattle.qc_frame.proofs.Numbers.{written_next, written_none}
use Rattle.qc_frame.proofs.write.put_numbers.Goals as goal

pub returns-in-Err-clause-ok : goal.returns-in-Err-clause-ok
unfolding numbers_of
returns-in-Err-clause-ok c = written_none _ _ _ _ c.in-Err.ensures.exact c.loop-i.invariant.written

pub loop-i-preserved : goal.loop-i-preserved
loop-i-preserved c = record {
  written = let h : c.loop-i.i < length c.args.bytes.now = c.loop-i-test.true in rw c.in_ok-put_varint-in-Ok.ensures.ok (written_next _ _ _ _ _ _ _ h c.in-Ok.ensures.exact c.loop-i.invariant.written);
  kept = grind (arith, common_steps);
}
