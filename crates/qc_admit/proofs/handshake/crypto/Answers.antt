use Rattle.qc_admit.proofs.Taken.{leaves_by, kept_by}
use Rattle.qc_state.specs.Tokens.{token_with}
use Rattle.qc_state.specs.Types.{meaning}
use Rattle.qc_admit.proofs.handshake.crypto.Goals as goal

-- the bytes were kept, and the session was given what can be read
pub returns-in-Ok : goal.returns-in-Ok
returns-in-Ok g c =
    leaves_by _ _ _ _
    (kept_by (meaning g.U.Session.Session g.U.Session.HeaderKey.HeaderMask g.U.Session.PacketKey.PacketKey g.U.Control.Controller.Controller (token_with g.U.TokenKey.Aead.AeadKey.sealed g.U.TokenKey.HandshakeTokenKey.derived g.U.Time.TimeSource.time_of)) c.args.coming.now c.args.space c.args.offset c.args.body.now c.in_ok-bytes.bytes _ _ c.args.did.now c.in_ok-bytes.ensures c.in_default.ensures.kept c.in-Ok.ensures.few c.in-Ok.ensures.came)
    c.given.ensures
