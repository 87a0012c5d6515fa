use Rattle.std.proofs.Common.{arith}
use Rattle.qc_flight.proofs.Ranges.{skips_one}
use Rattle.qc_flight.proofs.loss_rules.skip.Goals as goal

pub loop-at-preserved : goal.loop-at-preserved
loop-at-preserved c = (omega arith, skips_one _ _ _ _ _ c.loop-at.invariant.1 c.loop-at-test.true c.if-number-range.false)
