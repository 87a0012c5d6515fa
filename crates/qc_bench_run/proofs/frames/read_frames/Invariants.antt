use Rattle.std.proofs.Common.{◌≡◌, ◌*◌}
use Rattle.qc_bench_run.proofs.frames.read_frames.Given as goal

abbrev pub invariant-loop-i : goal.invariant-loop-i
invariant-loop-i l = l.frames ≡ l.i * l.fn.count
