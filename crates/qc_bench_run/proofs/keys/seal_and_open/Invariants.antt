use Rattle.std.proofs.Common.{◌≡◌}
use Rattle.qc_bench_run.proofs.keys.seal_and_open.Given as goal

abbrev pub invariant-loop-number : goal.invariant-loop-number
invariant-loop-number g l = l.packets ≡ l.number
