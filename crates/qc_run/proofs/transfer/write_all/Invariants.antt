use Rattle.std.proofs.Common.{◌≤◌, length}
use Rattle.qc_run.proofs.OutsideLemmas.{Writing}
use Rattle.qc_run.proofs.transfer.write_all.Given as goal

abbrev pub invariant-loop-rest : goal.invariant-loop-rest
invariant-loop-rest g l = record {
  taken : Writing (g.Si.Sink.held l.fn.sink) (g.Si.Sink.held l.sink) l.bytes l.rest;
  never_falls : g.Si.Sink.faults l.fn.sink ≤ g.Si.Sink.faults l.sink;
}

abbrev pub decreases-loop-rest : goal.decreases-loop-rest
decreases-loop-rest g l = length l.rest
