use Rattle.qc_admit.proofs.Writes.{Leads}
use Rattle.qc_state.specs.Tokens.{token_with}
use Rattle.qc_state.specs.Types.{meaning}
use Rattle.qc_state.specs.View.{held}
use Rattle.qc_admit.proofs.handshake.written.Given as goal

-- what is left to write leads where all that was due at first does
abbrev pub invariant-loop : goal.invariant-loop
invariant-loop g l = Leads (meaning g.U.Session.Session g.U.Session.HeaderKey.HeaderMask g.U.Session.PacketKey.PacketKey g.U.Control.Controller.Controller (token_with g.U.TokenKey.Aead.AeadKey.sealed g.U.TokenKey.HandshakeTokenKey.derived g.U.Time.TimeSource.time_of)) (held g.U.Random.Rng.stream l.core l.did) (held g.U.Random.Rng.stream l.fn.core l.fn.did)

-- ever less is left to write
abbrev pub decreases-loop : goal.decreases-loop
decreases-loop g l = g.U.Session.Session.left l.core.lower.session
