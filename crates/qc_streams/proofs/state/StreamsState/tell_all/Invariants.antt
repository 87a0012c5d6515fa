use Rattle.std.proofs.Common.{◌≡◌, length}
use Rattle.qc_streams.specs.Writable.{all_told}
use Rattle.qc_streams.proofs.state.StreamsState.tell_all.Given as goal

abbrev pub invariant-loop-first : goal.invariant-loop-first
invariant-loop-first l = all_told l.below l.self.blocked l.self ≡ all_told l.fn.below l.fn.self.blocked l.fn.self

abbrev pub decreases-loop-first : goal.decreases-loop-first
decreases-loop-first l = length l.self.blocked
