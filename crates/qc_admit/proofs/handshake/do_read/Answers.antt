use Rattle.qc_admit.proofs.Sessions.{nothing_read, something_read}
use Rattle.qc_state.specs.Tokens.{token_with}
use Rattle.qc_state.specs.Types.{meaning}
use Rattle.qc_admit.proofs.handshake.do_read.Goals as goal

-- there was nothing to read
pub returns-then-is_empty : goal.returns-then-is_empty
returns-then-is_empty g c =
    nothing_read (meaning g.U.Session.Session g.U.Session.HeaderKey.HeaderMask g.U.Session.PacketKey.PacketKey g.U.Control.Controller.Controller (token_with g.U.TokenKey.Aead.AeadKey.sealed g.U.TokenKey.HandshakeTokenKey.derived g.U.Time.TimeSource.time_of)) g.U.Random.Rng.stream _ _ c.args.space c.in_ok-bytes.bytes.items c.as_slice.result.now _ c.args.did.now c.is_empty.result
    c.core.view_is c.in_ok-bytes.ensures.bytes c.in_ok-bytes.ensures.rest c.as_slice.ensures.value c.is_empty.ensures c.if-is_empty.true

-- the session read
pub returns : goal.returns
returns g c =
    something_read (meaning g.U.Session.Session g.U.Session.HeaderKey.HeaderMask g.U.Session.PacketKey.PacketKey g.U.Control.Controller.Controller (token_with g.U.TokenKey.Aead.AeadKey.sealed g.U.TokenKey.HandshakeTokenKey.derived g.U.Time.TimeSource.time_of)) g.U.Random.Rng.stream _ _ c.args.space c.in_ok-bytes.bytes.items c.as_slice.result.now c.as_slice-2.result.now c.of_bytes.result c.take_ready.new.self _ _ _ _ c.is_empty.result
    c.core.view_is c.in_ok-bytes.ensures.bytes c.in_ok-bytes.ensures.rest c.as_slice.ensures.value c.is_empty.ensures c.if-is_empty.false c.as_slice-2.ensures.value c.in_ok-answer.ensures.answer c.in_ok-answer.ensures.after c.of_bytes.ensures c.in_ok-push_gave.ensures.ok
