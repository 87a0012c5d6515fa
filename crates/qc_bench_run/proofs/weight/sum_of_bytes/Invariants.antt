use Rattle.std.proofs.Common.{◌≡◌, ◌%◌, ◌^◌, take}
use Rattle.std.specs.List.{sum}
use Rattle.qc_bench_run.proofs.weight.sum_of_bytes.Given as goal

abbrev pub invariant-loop-i : goal.invariant-loop-i
invariant-loop-i l = l.total ≡ sum (take l.i l.bytes) % 2 ^ 64
