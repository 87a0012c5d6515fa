use Rattle.std.proofs.Common.{◌-◌, arith}
use Rattle.qc_cids.specs.Cids.{numbers_placed}
use Rattle.qc_ids.specs.Numbers.{numbers_on}
use Rattle.qc_cids.proofs.Places.{placed_more}
use Rattle.qc_cids.proofs.numbers.place_all.Goals as goal

pub loop-n-preserved : goal.loop-n-preserved
loop-n-preserved c = record {
  room = omega (arith, c.place.ensures.len, c.place.ensures.capacity, c.loop-n.invariant.room);
  placed = placed_more c.loop-n.n c.args.end c.loop-n.numbers.items c.place.new.numbers.items
      (numbers_placed (numbers_on c.args.start (c.args.end - c.args.start)) c.args.numbers.now.items)
      c.loop-n-test.true c.place.ensures.items c.loop-n.invariant.placed;
}
