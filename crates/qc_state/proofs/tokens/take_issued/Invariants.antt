use Rattle.std.specs.Prelude.{Some}
use Rattle.qc_state.specs.Taking.{TakesTokens}
use Rattle.qc_state.specs.Tokens.{token_with}
use Rattle.qc_state.proofs.tokens.take_issued.Given as goal

-- what was taken so far leaves so much of the room
abbrev pub invariant-loop-left : goal.invariant-loop-left
invariant-loop-left g l = TakesTokens (Some (token_with g.K.Aead.AeadKey.sealed g.K.HandshakeTokenKey.derived g.T.TimeSource.time_of l.issuer.key l.issuer.time)) l.ip l.room l.fn.space l.space (g.R.Rng.stream l.fn.random) (g.R.Rng.stream l.random) l.fn.frames l.frames l.left

abbrev pub decreases-loop-left : goal.decreases-loop-left
decreases-loop-left g l = l.left
