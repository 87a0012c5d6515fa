use Rattle.std.proofs.Common.{◌≡◌, []}
use Rattle.qc_bench_run.proofs.packets.pass_packets.Given as goal

abbrev pub invariant-loop-number : goal.invariant-loop-number
invariant-loop-number g l = (l.packets ≡ l.number) × (l.buf.items ≡ [])
