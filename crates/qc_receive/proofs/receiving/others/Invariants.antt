use Rattle.std.proofs.Common.{◌≡◌, ◌<◌, length, IfSome}
use Rattle.qc_receive.specs.Cutting.{rest_of, others_of}
use Rattle.qc_state.specs.Receiving.{pieces_after}
use Rattle.qc_state.specs.Tokens.{token_with}
use Rattle.qc_state.specs.Types.{meaning}
use Rattle.qc_state.specs.View.{held}
use Rattle.qc_receive.proofs.receiving.others.Given as goal

-- what the packets that are left make of what stands now is what all of them make of what stood first
abbrev pub invariant-loop-rest : goal.invariant-loop-rest
invariant-loop-rest g l = record {
  same : pieces_after (meaning g.U.Session.Session g.U.Session.HeaderKey.HeaderMask g.U.Session.PacketKey.PacketKey g.U.Control.Controller.Controller (token_with g.U.TokenKey.Aead.AeadKey.sealed g.U.TokenKey.HandshakeTokenKey.derived g.U.Time.TimeSource.time_of)) l.coming (others_of l.cutting l.rest) (held g.U.Random.Rng.stream l.core l.did)
      ≡ pieces_after (meaning g.U.Session.Session g.U.Session.HeaderKey.HeaderMask g.U.Session.PacketKey.PacketKey g.U.Control.Controller.Controller (token_with g.U.TokenKey.Aead.AeadKey.sealed g.U.TokenKey.HandshakeTokenKey.derived g.U.Time.TimeSource.time_of)) l.coming (others_of l.cutting l.fn.behind) (held g.U.Random.Rng.stream l.fn.core l.fn.did);
  some : IfSome l.rest (λ b. 0 < length b.items);
}

-- the bytes that are left are ever fewer
abbrev pub decreases-loop-rest : goal.decreases-loop-rest
decreases-loop-rest g l = length (rest_of l.rest)
