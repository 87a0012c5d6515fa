use Rattle.qc_receive.proofs.Behind.{none_left, fault_left, one_left, fewer_left, cut_some, cut_none}
use Rattle.qc_receive.proofs.receiving.others.Goals as goal

-- what is left begins with no packet
pub returns-in-None : goal.returns-in-None
returns-in-None g c = fault_left _ _ c.args.cutting c.loop-rest.rest c.in-Some.bytes _ _ c.in-Some.is c.loop-rest.invariant.some (cut_none c.args.cutting c.in-Some.bytes _ c.in-None.is c.in_ok-cut.ensures.none) c.loop-rest.invariant.same

-- a packet more
pub loop-rest-smaller : goal.loop-rest-smaller
loop-rest-smaller g c = fewer_left c.args.cutting c.loop-rest.rest c.in-Some.bytes c.in-Some-2.others c.in-Some-2.piece c.in-Some.is (cut_some c.args.cutting c.in-Some.bytes _ _ _ c.in-Some-2.is c.in_ok-cut.ensures.some).0

pub loop-rest-preserved : goal.loop-rest-preserved
loop-rest-preserved g c =
    let cut = cut_some c.args.cutting c.in-Some.bytes _ _ _ c.in-Some-2.is c.in_ok-cut.ensures.some in
    record {
      same = one_left _ _ c.args.cutting c.loop-rest.rest c.in-Some.bytes c.in-Some-2.others c.in-Some-2.piece _ _ _ c.in-Some.is cut.0 c.in_ok-one_piece-in-Some-2.ensures c.loop-rest.invariant.same;
      some = cut.1;
    }

-- nothing is left
pub returns : goal.returns
returns g c = none_left _ _ c.args.cutting c.loop-rest.rest _ _ c.in_default.is c.loop-rest.invariant.same
