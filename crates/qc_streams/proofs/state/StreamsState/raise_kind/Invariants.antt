use Rattle.std.proofs.Common.{◌≡◌}
use Rattle.qc_streams.specs.Raised.{kind_raised}
use Rattle.qc_streams.proofs.state.StreamsState.raise_kind.Given as goal

-- the streams below were raised
abbrev pub invariant-loop-index : goal.invariant-loop-index
invariant-loop-index l = l.self ≡ kind_raised l.initiator l.dir l.limit l.index l.fn.self
