use Rattle.qc_bench_run.specs.Mixed.{SpellsFrames}
use Rattle.qc_bench_run.proofs.frames.mixed_payload.Given as goal

abbrev pub invariant-loop-i : goal.invariant-loop-i
invariant-loop-i l = SpellsFrames l.i l.payload.items
