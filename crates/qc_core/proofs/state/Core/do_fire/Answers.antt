use Rattle.std.proofs.Common.{refl}
use Rattle.qc_core.proofs.Acknowledges.{fired_held, fired_parts}
use Rattle.qc_state.specs.Tokens.{token_with}
use Rattle.qc_state.specs.Types.{meaning}
use Rattle.qc_core.proofs.state.Core.do_fire.Goals as goal

-- packets are lost, or probes are due
pub returns : goal.returns
returns g c =
    let fired = fired_held (meaning g.U.Session.Session g.U.Session.HeaderKey.HeaderMask g.U.Session.PacketKey.PacketKey g.U.Control.Controller.Controller (token_with g.U.TokenKey.Aead.AeadKey.sealed g.U.TokenKey.HandshakeTokenKey.derived g.U.Time.TimeSource.time_of)) g.U.Random.Rng.stream c.args.self.now _ c.args.now _ _ _ c.self.view_is c.is_blocked-blocked.ensures c.around-around.ensures c.in_ok-fired.ensures.after in
    fired_parts (meaning g.U.Session.Session g.U.Session.HeaderKey.HeaderMask g.U.Session.PacketKey.PacketKey g.U.Control.Controller.Controller (token_with g.U.TokenKey.Aead.AeadKey.sealed g.U.TokenKey.HandshakeTokenKey.derived g.U.Time.TimeSource.time_of)) g.U.Random.Rng.stream c.fire-4.result c.args.self.now _ c.args.now _ _ _ _ _ _ _ _ c.self.view_is fired refl c.in_ok-fired.ensures.lower c.in_ok-fire.ensures c.in_ok-fire-2.ensures c.current_mtu-before.ensures c.shrink.ensures c.fire-4.ensures
