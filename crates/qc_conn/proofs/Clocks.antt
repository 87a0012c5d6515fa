-- Behind each call that takes a time, the greatest time is the greater of that one and of the one before.
use Rattle.std.proofs.Common.{◌≡◌, ℕ, List, [], ap, ◌∙◌, Option}
use Rattle.std.specs.Prelude.{max}
use Rattle.qc_receive.specs.Cutting.{rest_of}
use Rattle.qc_receive.specs.Events.{GivesRight, handed_after, time_of_event}
use Rattle.qc_receive.specs.declared.events.ConnectionEvent.{ConnectionEvent}
use Rattle.qc_receive.specs.declared.events.ConnectionEvent.TheVariants.{Datagram, NewIdentifiers}
use Rattle.qc_state.specs.declared.transmit.Transmit.{Transmit}
use Rattle.qc_state.specs.Moves.{Clock, state_move}
use Rattle.qc_state.specs.Run.{began, close_after}
use Rattle.qc_state.specs.Types.{Types, Meaning}
use Rattle.qc_state.specs.View.{View, at}
use Rattle.qc_laws.proofs.Clocks.{close_clock, event_clock, issue_clock, transmit_clock}
use Rattle.qc_conn.specs.Seen.{Sends}

module _ {t : Types} where
  -- an endpoint hands over what came
  pub handed_clock : (m : Meaning t) (event : ConnectionEvent) (s s' : View t) → GivesRight event s.lower.ids → s' ≡ (handed_after m event (began s (time_of_event event))).state → s'.timers.greatest ≡ max s.timers.greatest (time_of_event event)
  handed_clock m (NewIdentifiers ids now) s s' may is = issue_clock now ids s s' may is
  handed_clock m (Datagram now remote ecn first_decode remaining) s s' may is = event_clock m (record { time = now; remote = remote; mark = ecn }) first_decode (rest_of remaining) s s' is

  -- a transmit
  pub sent_clock : (m : Meaning t) (time asked : ℕ) (s s' : View t) (sent : Option Transmit) (buffer : List ℕ) → Sends m time asked s s' sent buffer → s'.timers.greatest ≡ max s.timers.greatest time
  sent_clock m time asked s s' sent buffer h = transmit_clock m time asked s (at s' h.deeds) sent buffer h.transmits

  -- a close is told the time first
  pub close_leads : (s mid s' : View t) (time code : ℕ) (reason : List ℕ) → mid ≡ state_move (Clock time) s → s' ≡ (close_after time code reason (at mid [])).state → s' ≡ (close_after time code reason (began s time)).state
  unfolding began
  close_leads s mid s' time code reason is_mid is = is ∙ ap (λ (v : View t). (close_after time code reason (at v [])).state) is_mid

  pub closed_clock : (s mid s' : View t) (time code : ℕ) (reason : List ℕ) → mid ≡ state_move (Clock time) s → s' ≡ (close_after time code reason (at mid [])).state → s'.timers.greatest ≡ max s.timers.greatest time
  closed_clock s mid s' time code reason is_mid is = close_clock time code reason s s' (close_leads s mid s' time code reason is_mid is)
