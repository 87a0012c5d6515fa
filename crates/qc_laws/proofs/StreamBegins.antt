-- In a connection that was just made nothing came of any CRYPTO stream.
use Rattle.std.proofs.Common.{◌≡◌, ℕ, List, refl, Option}
use Rattle.rand_core.specs.Stream.{Stream}
use Rattle.qc_assembler.specs.Assembly.{nothing}
use Rattle.qc_base.specs.declared.side.SpaceId.{SpaceId}
use Rattle.qc_base.specs.declared.side.SpaceId.TheVariants.{Initial, Handshake, «Data»}
use Rattle.qc_recovery.specs.TransportValues.{TransportValues}
use Rattle.qc_state.specs.declared.keys.SpaceKeys.{SpaceKeys}
use Rattle.qc_state.specs.declared.paths.Paths.{Paths}
use Rattle.qc_state.specs.declared.setup.Fixed.{Fixed}
use Rattle.qc_state.specs.First.{just_made}
use Rattle.qc_state.specs.Lower.{stream_of}
use Rattle.qc_laws.specs.StreamLaws.{IsUnread}
use Rattle.qc_state.specs.declared.tokens.Issuer.{Issuer}
use Rattle.qc_state.specs.Types.{Types}

pub made_streams : (t : Types) (keys : SpaceKeys t.H t.P) (session : t.S) (hello token : List ℕ) (words : Stream) (fixed : Fixed) (paths : Paths t.C) (issuer : Option (Issuer t.K t.T)) (tokens : ℕ) (transport : TransportValues) (time : ℕ) → IsUnread (just_made {t = t} keys session hello token words fixed paths issuer tokens transport time)
unfolding stream_of
made_streams t keys session hello token words fixed paths issuer tokens transport time = by_space
  where
    by_space : (id : SpaceId) → stream_of (just_made {t = t} keys session hello token words fixed paths issuer tokens transport time).lower id ≡ nothing
    by_space Initial = refl
    by_space Handshake = refl
    by_space Data = refl
