-- What is known of each move that an input makes, and what holds of each such move holds of the input.
use Rattle.std.proofs.Common.{◌≡◌, ℕ, List, refl, ap, sym, ◌∙◌, Bool, true, false, Some, if◌then◌else◌}
use Rattle.std.specs.Prelude.{Ok}
use Rattle.qc_base.specs.declared.side.SpaceId.{SpaceId}
use Rattle.qc_base.specs.declared.side.SpaceId.TheVariants.{Initial, Handshake, «Data»}
use Rattle.qc_frame.specs.Frame.{AckValue, FrameValue}
use Rattle.qc_path.specs.Pacing.{Bucket, packet_paced}
use Rattle.qc_recovery.specs.Steps.{After, FiredAfter}
use Rattle.qc_state.specs.declared.form.Form.{Form}
use Rattle.qc_state.specs.declared.coming.Coming.{Coming}
use Rattle.qc_state.specs.declared.input.Input.{Input}
use Rattle.qc_state.specs.declared.input.Input.TheVariants as input
use Rattle.qc_state.specs.declared.life.Close.{Close}
use Rattle.qc_state.specs.declared.life.State.TheVariants.{Drained}
use Rattle.qc_state.specs.Forms.{number_space}
use Rattle.qc_state.specs.Life.{is_open, is_over}
use Rattle.qc_state.specs.Moves.{Ack, Ask, Clock, Finish, Fire, Forget, MayMove, Move, Raise, ReportConnected, ReportDrained, ReportLost, ReportReady, ReportNotice, ReportNotices, Seal, Shut, Spend, Take, move_to, Call, ReportStream, ReportStreams, Tell, Post, ReportHeard, ReportAllHeard, Issue, Learn, Update}
use Rattle.qc_state.specs.Numbers.{next_number}
use Rattle.qc_state.specs.Receiving.{datagram_after}
use Rattle.qc_state.specs.Recovering.{fired_by, settled_by}
use Rattle.qc_state.specs.Run.{IsAllowed, close_after, input_after, datagram_limit}
use Rattle.qc_state.specs.Sending.{Choice, packet_size, rate_of, spent_after, told_sent}
use Rattle.qc_state.specs.Spaces.{is_space}
use Rattle.qc_state.specs.Types.{Types, Meaning}
use Rattle.qc_state.specs.View.{View, At}
use Rattle.qc_state.proofs.Expired.{IsExpiry, holds_expired}
use Rattle.qc_state.proofs.OpenPackets.{IsUnacked, holds_packet, packet_received}
use Rattle.qc_state.proofs.PacketMoves.{IsInPacket, IsSettledOf, OpenPacket, IsGivenTo, IsToldOf}
use Rattle.qc_state.proofs.ReceivedMoves.{IsOutside, IsUnread}
use Rattle.qc_laws.proofs.Receives.{datagram_holds}
use Rattle.qc_state.proofs.Telling.{open_rank}
use Rattle.qc_state.proofs.Transmitted.{IsSealable, IsUntold, transmit_told}
use Rattle.qc_laws.proofs.StreamCalls.{called_input}
use Rattle.qc_state.specs.declared.deeds.Did.{Did}
use Rattle.qc_state.specs.declared.deeds.Did.TheVariants as did
use Rattle.qc_state.specs.declared.deeds.Layer.TheVariants as layer
use Rattle.qc_state.specs.Updating.{fresh_now}
use Rattle.qc_state.proofs.Tried.{holds_tried}
use Rattle.qc_state.proofs.Updates.{holds_updated}
use Rattle.qc_frame.specs.declared.frames.FrameOf.TheVariants as frames
use Rattle.qc_laws.specs.StreamsLaws.{is_streams_call}
use Rattle.qc_datagrams.specs.Steps as datagrams

-- a deed that tells of no gift to the streams or to the ids: these are told of with the move that hands them a frame
abbrev pub IsElsewhere : Did → Type 0
IsElsewhere (did.Gave layer.Streams body) = ⊥
IsElsewhere (did.Gave layer.Ids body) = ⊥
IsElsewhere _ = Unit {0}

unread_elsewhere : (d : Did) → IsUnread d → IsElsewhere d
unread_elsewhere (did.Gave to body) h = absurd h
unread_elsewhere _ h = tt

none_to_streams : (f : FrameValue) → IsGivenTo layer.Streams f → ⊥
none_to_streams (frames.Ack ack) h = h
none_to_streams _ h = h

none_to_ids : (f : FrameValue) → IsGivenTo layer.Ids f → ⊥
none_to_ids (frames.Ack ack) h = h
none_to_ids _ h = h

module _ {t : Types} where
  told_elsewhere : (o : OpenPacket) (d : Did) (s : View t) → IsToldOf o d s → IsElsewhere d
  told_elsewhere o (did.Gave layer.Streams body) s h = none_to_streams h.0 h.2
  told_elsewhere o (did.Gave layer.Ids body) s h = none_to_ids h.0 h.2
  told_elsewhere o _ s h = tt

  -- an acknowledgement settles what recovery makes of an ACK at a time
  pub record IsSettledBy (m : Meaning t) (id : SpaceId) (after : After t.C) (s : View t) : Type 0 where
    pub time : ℕ
    pub ack : AckValue
    pub is : after ≡ settled_by m time id ack s

  -- the loss timer leaves what recovery makes of it at a time
  pub record IsFiredBy (m : Meaning t) (after : FiredAfter t.C) (s : View t) : Type 0 where
    pub time : ℕ
    pub is : after ≡ fired_by m time s

  -- the pacer is left with what a packet leaves that it spends at a time
  pub record IsSpentBy (m : Meaning t) (tokens : Bucket) (s : View t) : Type 0 where
    pub time : ℕ
    pub size : ℕ
    pub is : tokens ≡ packet_paced time (rate_of m s) size s.paths.current.kept.pacing

  -- the controller is left as it is once it is told what was sent
  pub record IsToldBy (m : Meaning t) (control : t.C) (s : View t) : Type 0 where
    pub time : ℕ
    pub bytes : ℕ
    pub last : ℕ
    pub is : control ≡ m.control.after_sent s.paths.current.kept.congestion time bytes last

  -- what is known of a move that an input makes, beside those with which a packet is taken and sealed: it is no report, the keys that are
  -- dropped are none of 1-RTT packets, a life that rises by itself rises to its end, parameters are those that the session gives, what acknowledgements and the loss timer leave is what recovery
  -- makes of them, what the pacer and the controller are left with is what they make of a packet and of what was sent, and what is told by
  -- itself is no gift to the streams or to the ids
  abbrev pub IsKnownMove : Meaning t → Move t → View t → Type 0
  IsKnownMove m (Clock time) s = ⊥
  IsKnownMove m (Take id fs) s = ⊥
  IsKnownMove m (Seal time form n size fs) s = ⊥
  IsKnownMove m (Forget id) s = is_space id «Data» ≡ false
  IsKnownMove m (Ack id n after) s = IsSettledBy m id after s
  IsKnownMove m (Fire after) s = IsFiredBy m after s
  IsKnownMove m (Raise to) s = to ≡ Drained
  IsKnownMove m (Spend tokens) s = IsSpentBy m tokens s
  IsKnownMove m (Finish bytes control) s = IsToldBy m control s
  IsKnownMove m (Learn parameters) s = m.parameters s.lower.session ≡ Ok (Some parameters)
  IsKnownMove m (Tell d) s = IsElsewhere d
  IsKnownMove m ReportReady s = ⊥
  IsKnownMove m ReportConnected s = ⊥
  IsKnownMove m ReportHeard s = ⊥
  IsKnownMove m ReportAllHeard s = ⊥
  IsKnownMove m ReportStream s = ⊥
  IsKnownMove m ReportStreams s = ⊥
  IsKnownMove m ReportLost s = ⊥
  IsKnownMove m ReportNotice s = ⊥
  IsKnownMove m ReportNotices s = ⊥
  IsKnownMove m ReportDrained s = ⊥
  IsKnownMove m _ s = Unit {0}

  -- the same, whatever space's keys are dropped
  abbrev pub IsKnownAbout : Meaning t → Move t → View t → Type 0
  IsKnownAbout m (Forget id) s = Unit {0}
  IsKnownAbout m x s = IsKnownMove m x s

  pub known_about : (m : Meaning t) (x : Move t) (s : View t) → IsKnownMove m x s → IsKnownAbout m x s
  known_about m (Forget id) s h = tt
  known_about m x s h = h

  -- so of the moves of a packet that opened
  settled_known : (m : Meaning t) (o : OpenPacket) (id : SpaceId) (n : ℕ) (after : After t.C) (s : View t) → IsSettledOf m o id n after s → IsSettledBy m id after s
  settled_known m o id n after s h = record { time = o.coming.time; ack = h.ack; is = h.settled ∙ ap (λ (space : SpaceId). settled_by m o.coming.time space h.ack s) (sym h.space) }

  pub packet_known : (m : Meaning t) (o : OpenPacket) (x : Move t) (s : View t) → IsInPacket m o x s → IsKnownMove m x s
  packet_known m o (Clock time) s h = absurd h
  packet_known m o (Take id fs) s h = absurd h
  packet_known m o (Seal time form n size fs) s h = absurd h
  packet_known m o (Forget Initial) s h = refl
  packet_known m o (Forget Handshake) s h = refl
  packet_known m o (Forget Data) s h = absurd h
  packet_known m o (Ack id n after) s h = settled_known m o id n after s h
  packet_known m o (Fire after) s h = absurd h
  packet_known m o (Raise to) s h = absurd h
  packet_known m o (Spend tokens) s h = absurd h
  packet_known m o (Finish bytes control) s h = absurd h
  packet_known m o (Learn parameters) s h = h
  packet_known m o (Tell d) s h = told_elsewhere o d s h
  packet_known m o ReportReady s h = absurd h
  packet_known m o ReportConnected s h = absurd h
  packet_known m o ReportHeard s h = absurd h
  packet_known m o ReportAllHeard s h = absurd h
  packet_known m o ReportStream s h = absurd h
  packet_known m o ReportStreams s h = absurd h
  packet_known m o ReportLost s h = absurd h
  packet_known m o ReportNotice s h = absurd h
  packet_known m o ReportNotices s h = absurd h
  packet_known m o ReportDrained s h = absurd h
  packet_known m o _ s h = tt

  -- of those around it
  pub outside_known : (m : Meaning t) (time : ℕ) (x : Move t) (s : View t) → IsOutside time x s → IsKnownMove m x s
  outside_known m at_time (Clock time) s h = absurd h
  outside_known m at_time (Take id fs) s h = absurd h
  outside_known m at_time (Seal time form n size fs) s h = absurd h
  outside_known m at_time (Forget id) s h = absurd h
  outside_known m at_time (Ack id n after) s h = absurd h
  outside_known m at_time (Fire after) s h = absurd h
  outside_known m at_time (Raise to) s h = h
  outside_known m at_time (Spend tokens) s h = absurd h
  outside_known m at_time (Finish bytes control) s h = absurd h
  outside_known m at_time (Learn parameters) s h = absurd h
  outside_known m at_time (Tell d) s h = unread_elsewhere d h
  outside_known m at_time ReportReady s h = absurd h
  outside_known m at_time ReportConnected s h = absurd h
  outside_known m at_time ReportHeard s h = absurd h
  outside_known m at_time ReportAllHeard s h = absurd h
  outside_known m at_time ReportStream s h = absurd h
  outside_known m at_time ReportStreams s h = absurd h
  outside_known m at_time ReportLost s h = absurd h
  outside_known m at_time ReportNotice s h = absurd h
  outside_known m at_time ReportNotices s h = absurd h
  outside_known m at_time ReportDrained s h = absurd h
  outside_known m at_time _ s h = tt

  -- of those of the other timers
  pub expiry_known : (m : Meaning t) (x : Move t) (s : View t) → IsExpiry x → IsKnownMove m x s
  expiry_known m (Clock time) s h = absurd h
  expiry_known m (Take id fs) s h = absurd h
  expiry_known m (Seal time form n size fs) s h = absurd h
  expiry_known m (Forget id) s h = absurd h
  expiry_known m (Ack id n after) s h = absurd h
  expiry_known m (Fire after) s h = absurd h
  expiry_known m (Raise to) s h = h
  expiry_known m (Spend tokens) s h = absurd h
  expiry_known m (Finish bytes control) s h = absurd h
  expiry_known m (Learn parameters) s h = absurd h
  expiry_known m (Tell d) s h = absurd h
  expiry_known m ReportReady s h = absurd h
  expiry_known m ReportConnected s h = absurd h
  expiry_known m ReportHeard s h = absurd h
  expiry_known m ReportAllHeard s h = absurd h
  expiry_known m ReportStream s h = absurd h
  expiry_known m ReportStreams s h = absurd h
  expiry_known m ReportLost s h = absurd h
  expiry_known m ReportNotice s h = absurd h
  expiry_known m ReportNotices s h = absurd h
  expiry_known m ReportDrained s h = absurd h
  expiry_known m _ s h = tt

  -- and of those of a transmit
  pub sending_known : (m : Meaning t) (x : Move t) (s : View t) → IsUntold x → IsKnownMove m x s
  sending_known m (Clock time) s h = absurd h
  sending_known m (Take id fs) s h = absurd h
  sending_known m (Seal time form n size fs) s h = absurd h
  sending_known m (Forget id) s h = ap (λ (space : SpaceId). is_space space «Data») h
  sending_known m (Ack id n after) s h = absurd h
  sending_known m (Fire after) s h = absurd h
  sending_known m (Raise to) s h = h
  sending_known m (Spend tokens) s h = absurd h
  sending_known m (Finish bytes control) s h = absurd h
  sending_known m (Learn parameters) s h = absurd h
  sending_known m (Tell d) s h = absurd h
  sending_known m ReportReady s h = absurd h
  sending_known m ReportConnected s h = absurd h
  sending_known m ReportHeard s h = absurd h
  sending_known m ReportAllHeard s h = absurd h
  sending_known m ReportStream s h = absurd h
  sending_known m ReportStreams s h = absurd h
  sending_known m ReportLost s h = absurd h
  sending_known m ReportNotice s h = absurd h
  sending_known m ReportNotices s h = absurd h
  sending_known m ReportDrained s h = absurd h
  sending_known m _ s h = tt

-- an input is a call of the application's, of streams or datagrams, or gives ids
abbrev pub is_called : Input → Bool
is_called (input.Datagram time remote ecn bytes) = false
is_called (input.Timeout time) = false
is_called (input.Transmit time max) = false
is_called (input.Close time code reason) = false
is_called (input.Ping time) = false
is_called (input.Update time) = false
is_called _ = true

-- if it is none, it is none of the streams
pub uncalled_streams : (i : Input) → is_called i ≡ false → is_streams_call i ≡ false
uncalled_streams (input.Datagram time remote ecn bytes) h = refl
uncalled_streams (input.Timeout time) h = refl
uncalled_streams (input.Transmit time max) h = refl
uncalled_streams (input.Close time code reason) h = refl
uncalled_streams (input.Ping time) h = refl
uncalled_streams (input.Update time) h = refl
uncalled_streams _ h = cc

-- a move is no such call; none is that an input makes which is none itself
abbrev pub IsUncalled : {t : Types} → Move t → Type 0
IsUncalled (Call x) = ⊥
IsUncalled (Post x) = ⊥
IsUncalled (Issue time given) = ⊥
IsUncalled _ = Unit {0}

pub packet_uncalled : {t : Types} (m : Meaning t) (o : OpenPacket) (x : Move t) (s : View t) → IsInPacket m o x s → IsUncalled x
packet_uncalled m o (Call x) s h = absurd h
packet_uncalled m o (Post x) s h = absurd h
packet_uncalled m o (Issue time given) s h = absurd h
packet_uncalled m o _ s h = tt

outside_uncalled : {t : Types} (time : ℕ) (x : Move t) (s : View t) → IsOutside time x s → IsUncalled x
outside_uncalled time (Call x) s h = absurd h
outside_uncalled time (Post x) s h = absurd h
outside_uncalled time (Issue at given) s h = absurd h
outside_uncalled time _ s h = tt

expiry_uncalled : {t : Types} (x : Move t) → IsExpiry x → IsUncalled x
expiry_uncalled (Call x) h = absurd h
expiry_uncalled (Post x) h = absurd h
expiry_uncalled (Issue time given) h = absurd h
expiry_uncalled _ h = tt

pub sending_uncalled : {t : Types} (x : Move t) → IsUntold x → IsUncalled x
sending_uncalled (Call x) h = absurd h
sending_uncalled (Post x) h = absurd h
sending_uncalled (Issue time given) h = absurd h
sending_uncalled _ h = tt

-- it is none by which recovery is given an ACK, but in a packet that opened
outside_unacked : {t : Types} (time : ℕ) (x : Move t) (s : View t) → IsOutside time x s → IsUnacked x
outside_unacked time (Ack id n after) s h = absurd h
outside_unacked time (Tell (did.Gave to body)) s h = absurd h
outside_unacked time _ s h = tt

expiry_unacked : {t : Types} (x : Move t) → IsExpiry x → IsUnacked x
expiry_unacked (Ack id n after) h = absurd h
expiry_unacked (Tell d) h = absurd h
expiry_unacked _ h = tt

sending_unacked : {t : Types} (x : Move t) → IsUntold x → IsUnacked x
sending_unacked (Ack id n after) h = absurd h
sending_unacked (Tell d) h = absurd h
sending_unacked _ h = tt

-- what holds of no move, of two moves one after the other, of each move that is known so and is neither such a call nor one by which
-- recovery is given an ACK, where it may be made, of the two with which a packet is taken and sealed, and of each packet that opened, holds
-- of an input that is no such call
module _ {t : Types} (m : Meaning t) (R : At t → At t → Type 0) (here : (a : At t) → R a a) (next : (a b c : At t) → R a b → R b c → R a c)
    (move : (x : Move t) (a : At t) → IsKnownMove m x a.state → IsUncalled x → IsUnacked x → MayMove x a.state → R a (move_to x a))
    (packet : (o : OpenPacket) (a : At t) → is_over a.state.life.state ≡ false → R a (packet_received m o a))
    (seal : (time : ℕ) (form : Form) (fs : List FrameValue) (a : At t) → IsSealable time a.state form fs → R a (move_to (Seal time form (next_number a.state.numbers (number_space form)) (packet_size a.state form fs) fs) (move_to (Take (number_space form) fs) a))) where
  -- a datagram
  known_datagram : (coming : Coming) (bytes : List ℕ) (a : At t) → R a (datagram_after m coming bytes a)
  known_datagram coming bytes a =
      datagram_holds m coming (λ p. Unit {0}) R here next (λ x b h may. move x b (outside_known m coming.time x b.state h) (outside_uncalled coming.time x b.state h) (outside_unacked coming.time x b.state h) may)
      (λ p comes o b opened. packet o b opened.lively) bytes a (λ p among. tt)

  -- the application closes, or has closed before
  closed_by : (time : ℕ) (close : Close) (a : At t) (b : Bool) → is_open a.state.life.state ≡ b → R a (if b then move_to (Shut time close) a else a)
  unfolding MayMove
  closed_by time close a true h = move (Shut time close) a tt tt tt (open_rank a.state.life.state h)
  closed_by time close a false h = here a

  -- each input
  pub known_packets : (i : Input) (choice : Choice) (a : At t) → is_called i ≡ false → IsAllowed m i choice a → R a (input_after m i choice a)
  unfolding IsAllowed input_after close_after spent_after told_sent MayMove
  known_packets (input.Datagram time remote ecn bytes) choice a none h = known_datagram (record { time = time; remote = remote; mark = ecn }) bytes a
  known_packets (input.Timeout time) choice a none h =
      holds_expired m R here next (λ at_time b. move (Fire (fired_by m at_time b.state)) b (record { time = at_time; is = refl }) tt tt tt)
      (λ x e b may. move x b (expiry_known m x b.state e) (expiry_uncalled x e) (expiry_unacked x e) may) time a
  known_packets (input.Transmit time max) choice a none h =
      transmit_told m R here next (λ x r b may. move x b (sending_known m x b.state r) (sending_uncalled x r) (sending_unacked x r) may)
      (λ f b. holds_tried m R here (λ c may_be. move (Update _ _) c tt tt tt may_be) f b)
      (λ at_time size b. move (Spend _) b (record { time = at_time; size = size; is = refl }) tt tt tt)
      (λ at_time batch b. move (Finish batch.total _) b (record { time = at_time; bytes = batch.total; last = batch.last; is = refl }) tt tt tt) seal time max choice a h
  known_packets (input.Close time code reason) choice a none h = closed_by time _ a _ refl
  known_packets (input.Ping time) choice a none h = move (Ask a.state.keys.highest) a tt tt tt tt
  known_packets (input.Update time) choice a none h = holds_updated m R here (λ b may_be. move (Update (fresh_now m b.state) (m.after_next b.state.lower.session)) b tt tt tt may_be) a
  known_packets _ choice a none h = cc

-- what holds of each move that is known so and is no such call holds of an input that is none
module _ {t : Types} (m : Meaning t) (R : At t → At t → Type 0) (here : (a : At t) → R a a) (next : (a b c : At t) → R a b → R b c → R a c)
    (move : (x : Move t) (a : At t) → IsKnownMove m x a.state → IsUncalled x → MayMove x a.state → R a (move_to x a))
    (seal : (time : ℕ) (form : Form) (fs : List FrameValue) (a : At t) → IsSealable time a.state form fs → R a (move_to (Seal time form (next_number a.state.numbers (number_space form)) (packet_size a.state form fs) fs) (move_to (Take (number_space form) fs) a))) where
  pub known_other : (i : Input) (choice : Choice) (a : At t) → is_called i ≡ false → IsAllowed m i choice a → R a (input_after m i choice a)
  known_other i choice a none h =
      known_packets m R here next (λ x b known uncalled unacked may. move x b known uncalled may)
      (λ o b lively. holds_packet m o R here next (λ x c in_packet may. move x c (packet_known m o x c.state in_packet) (packet_uncalled m o x c.state in_packet) may) b lively) seal i choice a none h

-- what holds of an input that is no such call, and of each move of the others, holds of each input
module _ {t : Types} (m : Meaning t) (R : At t → At t → Type 0) (here : (a : At t) → R a a) (next : (a b c : At t) → R a b → R b c → R a c)
    (other : (i : Input) (choice : Choice) (a : At t) → is_called i ≡ false → IsAllowed m i choice a → R a (input_after m i choice a))
    (move : (x : Move t) (a : At t) → IsKnownMove m x a.state → IsUnacked x → MayMove x a.state → R a (move_to x a)) where
  pub known_calls : (i : Input) (choice : Choice) (a : At t) → IsAllowed m i choice a → R a (input_after m i choice a)
  unfolding IsAllowed input_after MayMove
  known_calls (input.Datagram time remote ecn bytes) choice a h = other (input.Datagram time remote ecn bytes) choice a refl h
  known_calls (input.Timeout time) choice a h = other (input.Timeout time) choice a refl h
  known_calls (input.Transmit time max) choice a h = other (input.Transmit time max) choice a refl h
  known_calls (input.Close time code reason) choice a h = other (input.Close time code reason) choice a refl h
  known_calls (input.Ping time) choice a h = other (input.Ping time) choice a refl h
  known_calls (input.Update time) choice a h = other (input.Update time) choice a refl h
  known_calls (input.SendDatagram time body) choice a h = move (Post (datagrams.Sent (datagram_limit a.state) true body)) a tt tt refl
  known_calls (input.RecvDatagram time) choice a h = move (Post datagrams.Taken) a tt tt refl
  known_calls (input.Identifiers time given) choice a h = move (Issue time given) a tt tt h
  known_calls i choice a h = called_input R here next (λ x b may. move (Call x) b tt tt may) i choice.read a h

-- what holds of each move that is known so, too, holds of an input
module _ {t : Types} (m : Meaning t) (R : At t → At t → Type 0) (here : (a : At t) → R a a) (next : (a b c : At t) → R a b → R b c → R a c)
    (move : (x : Move t) (a : At t) → IsKnownMove m x a.state → MayMove x a.state → R a (move_to x a))
    (seal : (time : ℕ) (form : Form) (fs : List FrameValue) (a : At t) → IsSealable time a.state form fs → R a (move_to (Seal time form (next_number a.state.numbers (number_space form)) (packet_size a.state form fs) fs) (move_to (Take (number_space form) fs) a))) where
  pub known_input : (i : Input) (choice : Choice) (a : At t) → IsAllowed m i choice a → R a (input_after m i choice a)
  known_input i choice a h =
      known_calls m R here next (λ j c b none may. known_other m R here next (λ x d known uncalled may_be. move x d known may_be) seal j c b none may) (λ x b known unacked may. move x b known may) i choice a h
