use Rattle.std.proofs.Common.{◌≡◌, ◌+◌}
use Rattle.qc_frame.specs.Payload.{items_of}
use Rattle.qc_bench_run.specs.Mixed.{frames_among}
use Rattle.qc_bench_run.proofs.frames.read_once.Given as goal

abbrev pub invariant-loop-item : goal.invariant-loop-item
invariant-loop-item l = l.frames + frames_among (items_of l.item-iterator) ≡ frames_among (items_of l.payload)
