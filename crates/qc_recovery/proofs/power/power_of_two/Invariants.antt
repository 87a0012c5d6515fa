use Rattle.std.proofs.Common.{◌≡◌, ◌^◌}
use Rattle.qc_recovery.proofs.power.power_of_two.Given as goal

abbrev pub invariant-loop-step : goal.invariant-loop-step
invariant-loop-step l = l.result ≡ 2 ^ l.step
