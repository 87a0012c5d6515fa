-- What a transmit gives is datagrams of packets that are told as sealed.
use Rattle.std.proofs.Common.{◌≡◌, ℕ, ◌+◌, List, length, Option, subst}
use Rattle.qc_state.specs.declared.transmit.Transmit.{Transmit}
use Rattle.qc_state.specs.Run.{began}
use Rattle.qc_state.specs.Types.{Types, Meaning}
use Rattle.qc_state.specs.View.{View, at}
use Rattle.qc_laws.specs.SealLaws.{SealsBetween}
use Rattle.qc_laws.proofs.SealRuns.{polled_seals}
use Rattle.qc_conn.specs.Seen.{Sends, SendsSealed}

module _ {t : Types} where
  pub sends_sealed : (m : Meaning t) → ((key : t.P) (number : ℕ) (header plain : List ℕ) → length (m.seal key number header plain) ≡ length plain + 16) → (time asked : ℕ) (s s' : View t) (sent : Option Transmit) (buffer : List ℕ) →
      Sends m time asked s s' sent buffer → SendsSealed m s sent buffer
  sends_sealed m size time asked s s' sent buffer h =
      let between : SealsBetween m s (began s time) (at s' h.deeds) sent buffer = polled_seals m size time asked s (at s' h.deeds) sent buffer h.transmits in
      record { deeds = between.since; seals = between.seals }

  -- so by the view of what equals it
  pub sealed_of : {A : Type 0} (v w : A) → v ≡ w → (shown : A → View t) (m : Meaning t) (sent : Option Transmit) (buffer : List ℕ) → SendsSealed m (shown v) sent buffer → SendsSealed m (shown w) sent buffer
  sealed_of {A} v w same shown m sent buffer h = subst (λ (x : A). SendsSealed m (shown x) sent buffer) same h
