use Rattle.std.proofs.Common.{◌≡◌, length}
use Rattle.qc_state.specs.Verdicts.{lists_version}
use Rattle.qc_receive.proofs.unnumbered.lists_version.Given as goal

-- no version so far is this one
abbrev pub invariant-loop-rest : goal.invariant-loop-rest
invariant-loop-rest l = lists_version l.version l.rest ≡ lists_version l.version l.payload

abbrev pub decreases-loop-rest : goal.decreases-loop-rest
decreases-loop-rest l = length l.rest
