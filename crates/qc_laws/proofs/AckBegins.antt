-- In a connection that was just made nothing came that is to be acknowledged, and no ACK is held back.
use Rattle.std.proofs.Common.{ℕ, List, arith, Option}
use Rattle.rand_core.specs.Stream.{Stream}
use Rattle.qc_path.specs.Acks.{no_marks}
use Rattle.qc_recovery.specs.TransportValues.{TransportValues}
use Rattle.qc_state.specs.declared.keys.SpaceKeys.{SpaceKeys}
use Rattle.qc_state.specs.declared.paths.Paths.{Paths}
use Rattle.qc_state.specs.declared.setup.Fixed.{Fixed}
use Rattle.qc_laws.specs.AckLaws.{AckHolds}
use Rattle.qc_state.specs.First.{just_made}
use Rattle.qc_state.specs.declared.tokens.Issuer.{Issuer}
use Rattle.qc_state.specs.Types.{Types}

pub made_acks : (t : Types) (keys : SpaceKeys t.H t.P) (session : t.S) (hello token : List ℕ) (words : Stream) (fixed : Fixed) (paths : Paths t.C) (issuer : Option (Issuer t.K t.T)) (tokens : ℕ) (transport : TransportValues) (time : ℕ) → AckHolds (just_made {t = t} keys session hello token words fixed paths issuer tokens transport time)
unfolding no_marks
made_acks t keys session hello token words fixed paths issuer tokens transport time = record { asked = λ some. absurd (omega (arith, some)); timed = λ e. absurd cc }
