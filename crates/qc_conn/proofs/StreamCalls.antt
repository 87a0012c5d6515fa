-- Calls on the streams, as inputs.
use Rattle.std.proofs.Common.{◌≡◌, ℕ, List, [], refl, ap, ◌∙◌, true}
use Rattle.qc_core.specs.StreamCalls.{CallsStreams}
use Rattle.qc_state.specs.declared.deeds.Did.{Did}
use Rattle.qc_state.specs.declared.input.Input.{Input}
use Rattle.qc_state.specs.declared.input.Input.TheVariants.{Datagram, Timeout, Transmit, Open, Accept, Write, Finish, ResetSend, StopRecv, Read, Close, Ping, Update, SendDatagram, RecvDatagram, MaxStreams, SendWindow, ReceiveWindow, Identifiers}
use Rattle.qc_state.specs.declared.trace.Answer.{Answer}
use Rattle.qc_state.specs.Moves.{Clock, state_move}
use Rattle.qc_state.specs.Run.{Calls, IsAllowed, answer_of, input_after, time_of}
use Rattle.qc_state.specs.Types.{Types, Meaning}
use Rattle.qc_state.specs.View.{View, at}
use Rattle.qc_laws.proofs.Steps.{IsForStreams, calls_streams}
use Rattle.qc_laws.specs.StreamsLaws.{is_streams_call}

module _ {t : Types} where
  -- each of these inputs is a call on the streams, and nothing else
  for_streams : (m : Meaning t) (i : Input) → is_streams_call i ≡ true → IsForStreams m i
  unfolding input_after IsAllowed answer_of
  for_streams m (Open time dir) is = record { leads = λ choice a. refl; allowed = λ choice a may. may; answers = λ choice a. refl }
  for_streams m (Accept time dir) is = record { leads = λ choice a. refl; allowed = λ choice a may. may; answers = λ choice a. refl }
  for_streams m (Write time id body) is = record { leads = λ choice a. refl; allowed = λ choice a may. may; answers = λ choice a. refl }
  for_streams m (Finish time id) is = record { leads = λ choice a. refl; allowed = λ choice a may. may; answers = λ choice a. refl }
  for_streams m (ResetSend time id code) is = record { leads = λ choice a. refl; allowed = λ choice a may. may; answers = λ choice a. refl }
  for_streams m (StopRecv time id code) is = record { leads = λ choice a. refl; allowed = λ choice a may. may; answers = λ choice a. refl }
  for_streams m (Read time id max) is = record { leads = λ choice a. refl; allowed = λ choice a may. may; answers = λ choice a. refl }
  for_streams m (MaxStreams time dir count) is = record { leads = λ choice a. refl; allowed = λ choice a may. may; answers = λ choice a. refl }
  for_streams m (SendWindow time size) is = record { leads = λ choice a. refl; allowed = λ choice a may. may; answers = λ choice a. refl }
  for_streams m (ReceiveWindow time size) is = record { leads = λ choice a. refl; allowed = λ choice a may. may; answers = λ choice a. refl }
  for_streams m (Datagram time remote ecn bytes) is = cc
  for_streams m (Timeout time) is = cc
  for_streams m (Transmit time max) is = cc
  for_streams m (Close time code reason) is = cc
  for_streams m (Ping time) is = cc
  for_streams m (Update time) is = cc
  for_streams m (SendDatagram time body) is = cc
  for_streams m (RecvDatagram time) is = cc
  for_streams m (Identifiers time ids) is = cc

  -- the time is told, and then the call is made
  pub stream_called : (m : Meaning t) (s mid b : View t) (i : Input) (time : ℕ) (ds : List Did) (answer : Answer) → is_streams_call i ≡ true → mid ≡ state_move (Clock time) s → time ≡ time_of i → ds ≡ [] → CallsStreams i mid b answer →
      Calls m s i (at b ds) answer
  stream_called m s mid b i time ds answer is is_mid is_time is_ds h =
      calls_streams m s mid i h.read b ds answer (for_streams m i is) (is_mid ∙ ap (λ (n : ℕ). state_move (Clock n) s) is_time) is_ds h.may h.leads h.answers
