use Rattle.qc_state.specs.Tokens.{token_with}
use Rattle.qc_state.specs.Types.{meaning}
use Rattle.qc_laws.proofs.Joins.{runs_join}
use Rattle.qc_laws.proofs.laws.runs_join.Goals as goal

-- the second run goes on where the first ended
pub returns : goal.returns
returns g c s mid last is js xs ys a b = runs_join (meaning g.U.Session.Session g.U.Session.HeaderKey.HeaderMask g.U.Session.PacketKey.PacketKey g.U.Control.Controller.Controller (token_with g.U.TokenKey.Aead.AeadKey.sealed g.U.TokenKey.HandshakeTokenKey.derived g.U.Time.TimeSource.time_of)) s mid last is js xs ys a b
