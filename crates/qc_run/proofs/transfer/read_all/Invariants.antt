use Rattle.std.proofs.Common.{◌<◌, ◌≤◌, ◌-◌, vec_len}
use Rattle.qc_run.specs.Outside.{Gives}
use Rattle.qc_run.proofs.transfer.read_all.Given as goal

abbrev pub invariant-loop-bytes : goal.invariant-loop-bytes
invariant-loop-bytes g l = record {
  piece : 0 < vec_len l.piece;
  short : vec_len l.bytes ≤ 67108865;
  given : Gives (g.So.Source.left l.fn.source) (g.So.Source.left l.source) l.bytes.items;
  never_falls : g.So.Source.faults l.fn.source ≤ g.So.Source.faults l.source;
}

abbrev pub decreases-loop-bytes : goal.decreases-loop-bytes
decreases-loop-bytes g l = 67108865 - vec_len l.bytes
