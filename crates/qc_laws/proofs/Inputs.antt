-- What holds of each move that an input makes holds of the input.
use Rattle.std.proofs.Common.{◌≡◌, ◌⊎◌, inl, inr, ℕ, List, refl, Bool, true, false, if◌then◌else◌}
use Rattle.qc_frame.specs.Frame.{FrameValue}
use Rattle.qc_state.specs.declared.form.Form.{Form}
use Rattle.qc_state.specs.declared.input.Input.{Input}
use Rattle.qc_state.specs.declared.input.Input.TheVariants as input
use Rattle.qc_state.specs.declared.life.Close.{Close}
use Rattle.qc_state.specs.declared.life.ConnectionError.TheVariants.{TimedOut}
use Rattle.qc_state.specs.declared.life.State.TheVariants.{Drained}
use Rattle.qc_state.specs.Forms.{number_space}
use Rattle.qc_state.specs.Headline.{is_datagram}
use Rattle.qc_state.specs.Life.{is_open}
use Rattle.qc_state.specs.Moves.{Probe, Move, MayMove, Arm, Ask, Begin, Clock, Finish, Fire, Forget, Give, Pace, Raise, Release, ReportConnected, ReportDrained, ReportLost, ReportReady, ReportNotice, ReportNotices, Say, Seal, Shut, Skip, Take, keys_move, life_move, move_to, numbers_move, state_move, Call, ReportStream, ReportStreams, Post, ReportHeard, ReportAllHeard, Issue, Outlive, Want, Hold, Spend, Update, Discard}
use Rattle.qc_state.specs.Numbers.{next_number}
use Rattle.qc_state.specs.Run.{IsAllowed, close_after, input_after, datagram_limit}
use Rattle.qc_state.specs.Sending.{Choice, packet_size}
use Rattle.qc_state.specs.Types.{Types, Meaning}
use Rattle.qc_state.specs.View.{At}
use Rattle.qc_state.specs.Updating.{fresh_now}
use Rattle.qc_state.proofs.Updates.{holds_updated}
use Rattle.qc_state.proofs.Expired.{IsTimed, holds_timeout}
use Rattle.qc_state.proofs.ReceivedMoves.{IsReceived}
use Rattle.qc_laws.proofs.Receives.{holds_datagram}
use Rattle.qc_state.proofs.Telling.{open_rank}
use Rattle.qc_state.proofs.Transmitted.{IsSealable, IsSending, IsSendingReason, holds_transmit}
use Rattle.qc_laws.proofs.StreamCalls.{called_input}
use Rattle.qc_datagrams.specs.Steps as datagrams

-- the moves that an input makes once the connection was told the time: no reports; and a life that rises by itself rises to its end
abbrev pub IsMade : {t : Types} → Move t → Type 0
IsMade (Clock time) = ⊥
IsMade (Raise to) = to ≡ Drained
IsMade ReportReady = ⊥
IsMade ReportConnected = ⊥
IsMade ReportHeard = ⊥
IsMade ReportAllHeard = ⊥
IsMade ReportStream = ⊥
IsMade ReportStreams = ⊥
IsMade ReportLost = ⊥
IsMade ReportNotice = ⊥
IsMade ReportNotices = ⊥
IsMade ReportDrained = ⊥
IsMade _ = Unit {0}

-- the moves that an input makes which is no datagram: none of them tells of a packet that came, or of what is given to a layer; and a reason that is
-- given is that the peer gave no sign, or one of a transmit's
abbrev pub IsOwn : {t : Types} → Move t → Type 0
IsOwn (Ask id) = Unit {0}
IsOwn (Update fresh session) = Unit {0}
IsOwn (Take id fs) = Unit {0}
IsOwn (Seal time form n size fs) = Unit {0}
IsOwn (Forget id) = Unit {0}
IsOwn (Fire after) = Unit {0}
IsOwn (Arm at) = Unit {0}
IsOwn Pace = Unit {0}
IsOwn Discard = Unit {0}
IsOwn Release = Unit {0}
IsOwn (Begin id opens) = Unit {0}
IsOwn Skip = Unit {0}
IsOwn (Want time count) = Unit {0}
IsOwn (Issue time given) = Unit {0}
IsOwn Outlive = Unit {0}
IsOwn (Shut time close) = Unit {0}
IsOwn (Raise to) = to ≡ Drained
IsOwn (Give why) = (why ≡ TimedOut) ⊎ IsSendingReason why
IsOwn (Spend tokens) = Unit {0}
IsOwn (Hold until) = Unit {0}
IsOwn (Finish bytes control) = Unit {0}
IsOwn (Probe time n bytes q) = Unit {0}
IsOwn (Say q) = Unit {0}
IsOwn (Call x) = Unit {0}
IsOwn (Post x) = Unit {0}
IsOwn _ = ⊥

-- those of timers, and those of a transmit, are among them
timed_own : {t : Types} (x : Move t) → IsTimed x → IsOwn x
timed_own (Fire after) r = tt
timed_own (Arm at) r = tt
timed_own Pace r = tt
timed_own Discard r = tt
timed_own Release r = tt
timed_own Outlive r = tt
timed_own (Want time count) r = tt
timed_own (Raise to) r = r
timed_own (Give why) r = inl r
timed_own _ r = absurd r

sending_own : {t : Types} (x : Move t) → IsSending x → IsOwn x
sending_own (Ask id) r = tt
sending_own (Update fresh session) r = tt
sending_own (Forget id) r = tt
sending_own (Arm at) r = tt
sending_own (Begin id opens) r = tt
sending_own Skip r = tt
sending_own (Shut time close) r = tt
sending_own (Raise to) r = r
sending_own (Give why) r = inr r
sending_own (Spend tokens) r = tt
sending_own (Hold until) r = tt
sending_own (Finish bytes control) r = tt
sending_own (Probe time n bytes q) r = tt
sending_own (Say q) r = tt
sending_own _ r = absurd r

-- an input makes those of receiving, and these
received_made : {t : Types} (x : Move t) → IsReceived x → IsMade x
received_made (Raise to) r = r
received_made (Clock time) r = absurd r
received_made ReportReady r = absurd r
received_made ReportConnected r = absurd r
received_made ReportHeard r = absurd r
received_made ReportAllHeard r = absurd r
received_made ReportStream r = absurd r
received_made ReportStreams r = absurd r
received_made ReportLost r = absurd r
received_made ReportNotice r = absurd r
received_made ReportNotices r = absurd r
received_made ReportDrained r = absurd r
received_made _ r = tt

own_made : {t : Types} (x : Move t) → IsOwn x → IsMade x
own_made (Raise to) r = r
own_made (Clock time) r = absurd r
own_made ReportReady r = absurd r
own_made ReportConnected r = absurd r
own_made ReportHeard r = absurd r
own_made ReportAllHeard r = absurd r
own_made ReportStream r = absurd r
own_made ReportStreams r = absurd r
own_made ReportLost r = absurd r
own_made ReportNotice r = absurd r
own_made ReportNotices r = absurd r
own_made ReportDrained r = absurd r
own_made _ r = tt

-- what holds of no move, of two moves one after the other, and of each move that an input makes which is no datagram, where it may be
-- made, holds of such an input
module _ {t : Types} (R : At t → At t → Type 0) (here : (a : At t) → R a a) (next : (a b c : At t) → R a b → R b c → R a c)
    (move : (x : Move t) → IsOwn x → (a : At t) → MayMove x a.state → R a (move_to x a)) where
  -- a packet is taken and sealed
  sealed : (time : ℕ) (form : Form) (fs : List FrameValue) (a : At t) → IsSealable time a.state form fs → R a (move_to (Seal time form (next_number a.state.numbers (number_space form)) (packet_size a.state form fs) fs) (move_to (Take (number_space form) fs) a))
  unfolding MayMove move_to state_move numbers_move keys_move life_move
  sealed time form fs a may =
      let b : At t = move_to (Take (number_space form) fs) a in
      let seal : Move t = Seal time form (next_number a.state.numbers (number_space form)) (packet_size a.state form fs) fs in
      next a b _ (move (Take (number_space form) fs) tt a may.takes) (move seal tt b (refl, may.closes, may.alive, may.keyed))

  -- the application closes, or has closed before
  closed_by : (time : ℕ) (close : Close) (a : At t) (b : Bool) → is_open a.state.life.state ≡ b → R a (if b then move_to (Shut time close) a else a)
  unfolding MayMove
  closed_by time close a true h = move (Shut time close) tt a (open_rank a.state.life.state h)
  closed_by time close a false h = here a

  pub holds_own : (m : Meaning t) (i : Input) (choice : Choice) (a : At t) → is_datagram i ≡ false → IsAllowed m i choice a → R a (input_after m i choice a)
  unfolding IsAllowed input_after close_after MayMove
  holds_own m (input.Datagram time remote ecn bytes) choice a none h = cc
  holds_own m (input.Timeout time) choice a none h = holds_timeout R here next (λ x r. move x (timed_own x r)) m time a
  holds_own m (input.Transmit time max) choice a none h = holds_transmit R here next (λ x r. move x (sending_own x r)) sealed m time max choice a h
  holds_own m (input.Close time code reason) choice a none h = closed_by time _ a _ refl
  holds_own m (input.Ping time) choice a none h = move (Ask a.state.keys.highest) tt a tt
  holds_own m (input.Update time) choice a none h = holds_updated m R here (λ b may_be. move (Update (fresh_now m b.state) (m.after_next b.state.lower.session)) tt b may_be) a
  holds_own m (input.SendDatagram time body) choice a none h = move (Post (datagrams.Sent (datagram_limit a.state) true body)) tt a refl
  holds_own m (input.RecvDatagram time) choice a none h = move (Post datagrams.Taken) tt a refl
  holds_own m (input.Identifiers time given) choice a none h = move (Issue time given) tt a h
  holds_own m i choice a none h = called_input R here next (λ x. move (Call x) tt) i choice.read a h

-- what holds of no move, of two moves one after the other, and of each move that an input makes, where it may be made, holds of an
-- input
module _ {t : Types} (R : At t → At t → Type 0) (here : (a : At t) → R a a) (next : (a b c : At t) → R a b → R b c → R a c)
    (move : (x : Move t) → IsMade x → (a : At t) → MayMove x a.state → R a (move_to x a)) where
  own : (x : Move t) → IsOwn x → (a : At t) → MayMove x a.state → R a (move_to x a)
  own x r = move x (own_made x r)

  pub holds_input : (m : Meaning t) (i : Input) (choice : Choice) (a : At t) → IsAllowed m i choice a → R a (input_after m i choice a)
  unfolding input_after
  holds_input m (input.Datagram time remote ecn bytes) choice a h = holds_datagram R here next (λ x r. move x (received_made x r)) m (record { time = time; remote = remote; mark = ecn }) bytes a
  holds_input m i choice a h = holds_own R here next own m i choice a refl h
