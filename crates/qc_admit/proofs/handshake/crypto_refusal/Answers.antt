use Rattle.qc_admit.proofs.Refusals.{late_stops, ahead_stops, neither_stops}
use Rattle.qc_admit.proofs.handshake.crypto_refusal.Goals as goal

-- new bytes of a space that is over
pub returns-then-is_late-clause-refused : goal.returns-then-is_late-clause-refused
returns-then-is_late-clause-refused g c = late_stops g.U.Random.Rng.stream c.args.core.now c.args.space c.args.offset c.args.body.now c.is_late.result c.error_at.result c.is_late.ensures c.if-is_late.true c.error_at.ensures.code c.error_at.ensures.frame

-- bytes too far ahead
pub returns-then-is_ahead-clause-refused : goal.returns-then-is_ahead-clause-refused
returns-then-is_ahead-clause-refused g c =
    ahead_stops g.U.Random.Rng.stream c.args.core.now c.args.space c.args.offset c.args.body.now c.is_late.result c.is_ahead.result c.error_at-then-is_ahead.result c.is_late.ensures c.if-is_late.false
    c.is_ahead.ensures c.if-is_ahead.true c.error_at-then-is_ahead.ensures.code c.error_at-then-is_ahead.ensures.frame

-- bytes that are neither
pub returns-clause-kept : goal.returns-clause-kept
returns-clause-kept g c = neither_stops g.U.Random.Rng.stream c.args.core.now c.args.space c.args.offset c.args.body.now c.is_late.result c.is_ahead.result c.is_late.ensures c.if-is_late.false c.is_ahead.ensures c.if-is_ahead.false
