use Rattle.std.proofs.Common.{arith}
use Rattle.qc_state.specs.View.{held, ideal}
use Rattle.qc_send.proofs.Choosing.{begins_take, begun_none, quiet_cause}
use Rattle.qc_send.proofs.Transmits.{begun_empty, transmits_so}
use Rattle.qc_send.proofs.sending.seal_due.Goals as goal

-- nothing of what waits is sealed, for a cause
pub seal_none-requires-clause-none : goal.seal_none-requires-clause-none
seal_none-requires-clause-none g c = begun_none c.args.asked (ideal g.U.Random.Rng.stream c.args.core.now) _ c.new_batch-batch.ensures

pub seal_none-requires-clause-cause : goal.seal_none-requires-clause-cause
seal_none-requires-clause-cause g c =
    quiet_cause _ c.args.now c.args.asked (ideal g.U.Random.Rng.stream c.args.core.now) _ c.turn_now.result c.in-Holds.quiet c.new_batch-batch.ensures c.turn_now.ensures c.in-Holds.is

pub returns-in-Holds : goal.returns-in-Holds
returns-in-Holds g c = transmits_so _ c.args.now c.args.asked (held g.U.Random.Rng.stream c.args.core.now c.args.did.now) _ _ _ _ _ c.new_batch-batch.ensures c.requires.empty c.in_ok-sent-in-Holds.ensures

-- a packet may be taken
pub seal_all-requires-clause-takes : goal.seal_all-requires-clause-takes
seal_all-requires-clause-takes g c =
    begins_take _ c.args.now c.args.asked (ideal g.U.Random.Rng.stream c.args.core.now) _ c.turn_now.result c.in-Begins.space c.new_batch-batch.ensures c.turn_now.ensures c.in-Begins.is c.requires.some (omega arith)

pub seal_all-requires-clause-full : goal.seal_all-requires-clause-full
seal_all-requires-clause-full g c = begun_empty (ideal g.U.Random.Rng.stream c.args.core.now) c.args.asked _ _ c.new_batch-batch.ensures c.requires.empty

-- what was sealed from there on
pub returns : goal.returns
returns g c = transmits_so _ c.args.now c.args.asked (held g.U.Random.Rng.stream c.args.core.now c.args.did.now) _ _ _ _ _ c.new_batch-batch.ensures c.requires.empty c.in_ok-sent.ensures
