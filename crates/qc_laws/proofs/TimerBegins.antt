-- In a connection that was just made nothing is in flight, so the loss timer needn't stand.
use Rattle.std.proofs.Common.{◌≡◌, ℕ, List, refl, Bool, true, false, Option}
use Rattle.std.specs.Prelude.{◌&&◌, not}
use Rattle.rand_core.specs.Stream.{Stream}
use Rattle.qc_base.specs.declared.side.SpaceId.{SpaceId}
use Rattle.qc_base.specs.declared.side.SpaceId.TheVariants.{Initial, Handshake, «Data»}
use Rattle.qc_recovery.specs.Calls.{begun_recovery}
use Rattle.qc_recovery.specs.Steps.{no_space}
use Rattle.qc_recovery.specs.Steps as recovery
use Rattle.qc_recovery.specs.TransportValues.{TransportValues}
use Rattle.qc_state.specs.declared.keys.SpaceKeys.{SpaceKeys}
use Rattle.qc_state.specs.declared.paths.Paths.{Paths}
use Rattle.qc_state.specs.declared.setup.Fixed.{Fixed}
use Rattle.qc_state.specs.First.{just_made}
use Rattle.qc_state.specs.Keys.{form_in, has_keys, has_keys_for}
use Rattle.qc_laws.specs.TimerLaws.{FlightHolds, SpaceHolds, TimerHolds, awaits_ack, elicits_in, has_asked, must_probe}
use Rattle.qc_state.specs.declared.tokens.Issuer.{Issuer}
use Rattle.qc_state.specs.Types.{Types}

-- nothing is in flight in any space
begun_flights : (transport : TransportValues) (id : SpaceId) → FlightHolds (recovery.space_of id (begun_recovery transport))
unfolding begun_recovery no_space
begun_flights transport Initial = record { counts = refl; asked = λ e. absurd cc }
begun_flights transport Handshake = record { counts = refl; asked = λ e. absurd cc }
begun_flights transport Data = record { counts = refl; asked = λ e. absurd cc }

pub made_timer : (t : Types) (keys : SpaceKeys t.H t.P) (session : t.S) (hello token : List ℕ) (words : Stream) (fixed : Fixed) (paths : Paths t.C) (issuer : Option (Issuer t.K t.T)) (tokens : ℕ) (transport : TransportValues) (time : ℕ) →
    TimerHolds false (just_made {t = t} keys session hello token words fixed paths issuer tokens transport time)
unfolding begun_recovery no_space awaits_ack elicits_in must_probe has_asked has_keys has_keys_for form_in
made_timer t keys session hello token words fixed paths issuer tokens transport time = record { stands = λ o u w. absurd (none_asked _ _ w); spaces = begun_spaces }
  where
    none_asked : (v k : Bool) → (not v && (k && false)) ≡ true → ⊥
    none_asked true k h = cc
    none_asked false true h = cc
    none_asked false false h = cc

    begun_spaces : (id : SpaceId) → SpaceHolds (just_made {t = t} keys session hello token words fixed paths issuer tokens transport time) id
    begun_spaces Initial = record { flight = begun_flights transport Initial; keyed = λ e. absurd cc; below = λ e. refl }
    begun_spaces Handshake = record { flight = begun_flights transport Handshake; keyed = λ e. absurd cc; below = λ e. absurd cc }
    begun_spaces Data = record { flight = begun_flights transport «Data»; keyed = λ e. absurd cc; below = λ e. absurd cc }
