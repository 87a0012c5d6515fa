use Rattle.std.proofs.Common.{arith}
use Rattle.qc_state.proofs.AckLemmas.{made, says_some}
use Rattle.qc_state.proofs.taking.ack_of.Goals as goal

-- there are numbers, and they are those of packets
pub unreachable-requires : goal.unreachable-requires
unreachable-requires c = made c.in_ok-ack.field-0 c.args.space.now.acks.ranges c.ranges-2.result.now c.ranges-2.ensures c.requires c.in_ok-ack.ensures.none c.in-None.is

-- the ACK that was made
pub returns : goal.returns
returns c =
    says_some c.args.now c.delay-delay.result c.args.space.now c.ranges-2.result.now c.told_counts-counts.result c.in_ok-ack.field-0 c.in-Some.ack c.in-Some.is c.ranges-2.ensures c.told_counts-counts.ensures (omega arith) c.delay-delay.ensures c.in_ok-ack.ensures.ranges c.in_ok-ack.ensures.others c.in_ok-ack.ensures.fits c.in_ok-ack.ensures.shortest
