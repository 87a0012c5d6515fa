use Rattle.qc_admit.proofs.Sessions.{nothing_written, something_written}
use Rattle.qc_state.specs.Tokens.{token_with}
use Rattle.qc_state.specs.Types.{meaning}
use Rattle.qc_admit.proofs.handshake.write_once.Goals as goal

-- the session wrote nothing
pub returns-then-is_nothing : goal.returns-then-is_nothing
returns-then-is_nothing g c =
    nothing_written (meaning g.U.Session.Session g.U.Session.HeaderKey.HeaderMask g.U.Session.PacketKey.PacketKey g.U.Control.Controller.Controller (token_with g.U.TokenKey.Aead.AeadKey.sealed g.U.TokenKey.HandshakeTokenKey.derived g.U.Time.TimeSource.time_of)) g.U.Random.Rng.stream _ _ c.write.new.buf.items c.new-bytes.result.items c.as_slice.result.now c.in_ok-keys.keys c.write.new.self c.args.did.now c.is_nothing.result
    c.core.view_is c.in_ok-keys.ensures.keys c.new-bytes.ensures.items c.in_ok-keys.ensures.bytes c.as_slice.ensures.value c.is_nothing.ensures c.if-is_nothing.true c.in_ok-keys.ensures.idle

-- the session wrote something, or gave keys
pub returns : goal.returns
returns g c =
    something_written (meaning g.U.Session.Session g.U.Session.HeaderKey.HeaderMask g.U.Session.PacketKey.PacketKey g.U.Control.Controller.Controller (token_with g.U.TokenKey.Aead.AeadKey.sealed g.U.TokenKey.HandshakeTokenKey.derived g.U.Time.TimeSource.time_of)) g.U.Random.Rng.stream _ _ c.take_keys.new.core c.write.new.buf.items c.new-bytes.result.items c.as_slice.result.now c.in_ok-bytes.bytes c.in_ok-keys.keys c.write.new.self c.write-2.new.self c.args.did.now c.is_nothing.result
    c.core.view_is c.in_ok-keys.ensures.keys c.new-bytes.ensures.items c.in_ok-keys.ensures.bytes c.as_slice.ensures.value c.is_nothing.ensures c.if-is_nothing.false c.in_ok-keys.ensures.falls c.in_ok-keys.ensures.after c.in_ok-bytes.ensures.ok
    c.in_ok-write.ensures c.take_keys.ensures.leads c.take_keys.ensures.left
