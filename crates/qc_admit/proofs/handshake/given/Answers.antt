use Rattle.qc_admit.proofs.Taken.{leaves_by, given_by}
use Rattle.qc_state.specs.Tokens.{token_with}
use Rattle.qc_state.specs.Types.{meaning}
use Rattle.qc_admit.proofs.handshake.given.Goals as goal

-- the session answered bytes
pub returns-in-Some : goal.returns-in-Some
returns-in-Some g c =
    leaves_by _ _ _ _ (given_by (meaning g.U.Session.Session g.U.Session.HeaderKey.HeaderMask g.U.Session.PacketKey.PacketKey g.U.Control.Controller.Controller (token_with g.U.TokenKey.Aead.AeadKey.sealed g.U.TokenKey.HandshakeTokenKey.derived g.U.Time.TimeSource.time_of)) c.args.coming.now c.args.space _ c.in_ok-do_read.field-0 c.in-Some.answer _ _ c.in-Some.is c.in_ok-do_read.ensures) c.answered.ensures
