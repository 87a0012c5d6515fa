-- In a connection that was just made each byte that the session wrote waits to be sealed.
use Rattle.std.proofs.Common.{◌≡◌, ℕ, List, [], refl, ap, Bool, true, arith, Option}
use Rattle.std.specs.Prelude.{length}
use Rattle.rand_core.specs.Stream.{Stream}
use Rattle.qc_base.specs.declared.side.SpaceId.{SpaceId}
use Rattle.qc_base.specs.declared.side.SpaceId.TheVariants.{Initial, Handshake, «Data»}
use Rattle.qc_recovery.specs.Calls.{begun_recovery}
use Rattle.qc_recovery.specs.Steps.{no_space}
use Rattle.qc_recovery.specs.TransportValues.{TransportValues}
use Rattle.qc_send_stream.specs.Buffer.{bytes_written, nothing}
use Rattle.qc_state.specs.declared.keys.SpaceKeys.{SpaceKeys}
use Rattle.qc_state.specs.declared.paths.Paths.{Paths}
use Rattle.qc_state.specs.declared.setup.Fixed.{Fixed}
use Rattle.qc_laws.specs.CryptoLaws.{BytesHold, CryptoHolds, CryptoKept}
use Rattle.qc_state.specs.First.{just_made}
use Rattle.qc_state.specs.Receiving.{is_below}
use Rattle.qc_state.specs.declared.tokens.Issuer.{Issuer}
use Rattle.qc_state.specs.Types.{Types}
use Rattle.qc_laws.proofs.CryptoBuffers.{written_holds}

-- nothing was written
none_held : BytesHold [] nothing []
unfolding nothing
none_held = record { kept = λ o less. absurd (omega (arith, less)); bytes = λ o less. absurd (omega (arith, less)) }

-- bytes were written, and none of them was sealed
just_held : (id : SpaceId) (bs : List ℕ) (opened keyed : Bool) → (is_below Initial id ≡ true → bs ≡ []) → CryptoHolds id [] Initial opened keyed (bytes_written bs nothing) []
unfolding bytes_written nothing
just_held id bs opened keyed above =
    record { sent = omega arith; above = λ e. let none : length bs ≡ 0 = ap (λ (l : List ℕ). length l) (above e) in omega (arith, none); holds = λ o k. written_holds nothing bs [] [] (omega arith) none_held }

pub made_kept : (t : Types) (id : SpaceId) (keys : SpaceKeys t.H t.P) (session : t.S) (hello token : List ℕ) (words : Stream) (fixed : Fixed) (paths : Paths t.C) (issuer : Option (Issuer t.K t.T)) (tokens : ℕ) (transport : TransportValues) (time : ℕ) →
    CryptoKept id [] (just_made {t = t} keys session hello token words fixed paths issuer tokens transport time)
unfolding begun_recovery no_space
made_kept t Initial keys session hello token words fixed paths issuer tokens transport time = just_held Initial hello true _ (λ e. absurd cc)
made_kept t Handshake keys session hello token words fixed paths issuer tokens transport time = just_held Handshake [] true _ (λ e. refl)
made_kept t Data keys session hello token words fixed paths issuer tokens transport time = just_held «Data» [] true _ (λ e. refl)
