use Rattle.qc_state.specs.Tokens.{token_with}
use Rattle.qc_state.specs.Types.{meaning}
use Rattle.qc_core.proofs.Unseals.{unsealed_parts}
use Rattle.qc_core.proofs.state.Core.do_unseal.Goals as goal

-- the session is asked, the timer set, and the ring steps
pub returns : goal.returns
returns g c =
    unsealed_parts (meaning g.U.Session.Session g.U.Session.HeaderKey.HeaderMask g.U.Session.PacketKey.PacketKey g.U.Control.Controller.Controller (token_with g.U.TokenKey.Aead.AeadKey.sealed g.U.TokenKey.HandshakeTokenKey.derived g.U.Time.TimeSource.time_of)) g.U.Random.Rng.stream c.args.self.now _ _ _ c.args.now c.args.number c.args.which _ _
    c.take_along-fresh.ensures.fresh c.take_along-fresh.ensures.left c.keep_old.ensures c.self.view_is c.opened.ensures
