-- What holds of each move that a packet which opened makes, holds of the packet. Each move is said to be one of this packet, so
-- that a law can learn which payload a frame that is given belongs to.
use Rattle.std.proofs.Common.{◌≡◌, ℕ, ◌<◌, ◌⊎◌, inl, inr, List, [], ◌∷◌, length, refl, ap, sym, ◌∙◌, subst, Bool, true, false, Option, Some, None, if◌then◌else◌, arith}
use Rattle.std.specs.Prelude.{not, is_none, Result, Ok, Err, IfSome}
use Rattle.std.specs.List.{list_any}
use Rattle.qc_base.specs.declared.transport_error.TransportError.{TransportError}
use Rattle.qc_base.specs.declared.side.Side.{Side}
use Rattle.qc_base.specs.declared.side.Side.TheVariants.{Client, Server}
use Rattle.qc_base.specs.declared.side.SpaceId.{SpaceId}
use Rattle.qc_base.specs.declared.side.SpaceId.TheVariants.{Initial, Handshake, «Data»}
use Rattle.qc_flight.specs.Packets.{Entry}
use Rattle.qc_frame.specs.Frame.{AckValue, FrameValue, TypedValue}
use Rattle.qc_frame.specs.FrameSpelling.{spelling}
use Rattle.qc_frame.specs.Payload.{Item, items_of}
use Rattle.qc_frame.specs.declared.fault.InvalidFrame.{InvalidFrame}
use Rattle.qc_frame.specs.declared.frames.FrameOf.TheVariants as frames
use Rattle.qc_frame.specs.declared.frames.NewConnectionId.{NewConnectionId}
use Rattle.qc_rings.specs.declared.which.Which.{Which}
use Rattle.qc_state.specs.declared.coming.Coming.{Coming}
use Rattle.qc_state.specs.declared.deeds.Did.{Did}
use Rattle.qc_state.specs.declared.deeds.Did.TheVariants as did
use Rattle.qc_state.specs.declared.deeds.Layer.TheVariants as layer
use Rattle.qc_state.specs.declared.deeds.Verdict.{Verdict}
use Rattle.qc_state.specs.declared.deeds.Verdict.TheVariants as verdict
use Rattle.qc_state.specs.declared.life.ConnectionError.{ConnectionError}
use Rattle.qc_state.specs.declared.life.ConnectionError.TheVariants as lost
use Rattle.qc_state.specs.declared.life.State.{State}
use Rattle.qc_state.specs.declared.life.State.TheVariants as state
use Rattle.qc_state.specs.declared.life.Life.{Life}
use Rattle.qc_state.specs.Life.{rank_of, is_open, is_closed, is_over, life_drained, reason_given}
use Rattle.qc_state.specs.Ids.{insert_stop, retire_stop, switches_for}
use Rattle.qc_state.specs.Lower.{handed_stop, ready_bytes, session_read, stream_of}
use Rattle.qc_state.specs.Moves.{Move, Arm, Unseal, Forget, Enter, Accept, Fix, Give, Hand, Insert, Switch, Retire, Ack, Come, Read, Ready, Shut, Tell, PeerClosesToo, PeerCloses, Owe, move_to, state_move, numbers_move, keys_move, life_move, paths_move, timers_move, waiting_move, setup_move, lower_move, MayMove, accepts, enters, armed_after, armed_with}
use Rattle.qc_state.specs.Numbers.{is_new_in, next_number}
use Rattle.qc_state.specs.Progress.{progress_after}
use Rattle.qc_state.specs.Receiving.{reason_of, signs_of, stop_in, is_close_item, is_eliciting_item, left_after, rearmed_after, settled_after, acked_after, confirmed_after, applied_after, close_given, token_given, closed_in_data, end_after, crypto_stop, items_after, payload_after, fixes_peer, fixed_after, read_for_close, admitted_after, verdict_after, received_after, accepted_after, Behind, Goes, Closes, Ends, Course, Reads, Ended, close_after, ended_by, answered_after, bytes_given, kept_after, frame_after, course_with, handed_after, inserted_after, refused_after, retired_after, switched_after}
use Rattle.qc_state.specs.Paths.{is_blocked, path_kept}
use Rattle.qc_state.specs.Recovering.{loss_time, settled_by}
use Rattle.qc_state.specs.Sending.{drops_initial, initial_left}
use Rattle.qc_state.specs.Stopping.{encoding_error_at, given_after, stopped_after}
use Rattle.qc_state.specs.Types.{Types, Meaning}
use Rattle.qc_state.specs.Updating.{fresh_by, session_by, unsealed_after}
use Rattle.qc_state.specs.Verdicts.{first_row, verdict_of}
use Rattle.qc_state.specs.View.{View, At}
use Rattle.qc_state.proofs.Ends.{given_by, stopped_by}
use Rattle.qc_state.proofs.Progresses.{holds_progress}
use Rattle.qc_state.proofs.PacketMoves.{Bytes, Empty, EndsWith, Fault, IsAmong, IsErrorFor, IsFrameOf, IsGivenTo, IsInPacket, IsProgress, IsReasonOf, IsTypedOf, Kind, OpenPacket, Handed, Inserted, Parameters, Refusal, Retired, Stops, progress_in_packet}
use Rattle.qc_state.proofs.ReceivedMoves.{close_for}

-- ---- what a verdict on a packet that opened says of the view

new_by : (new closed early other : Bool) (v : Verdict) → first_row ((not new, verdict.Seen) ∷ (closed, verdict.ReadForClose) ∷ (early, verdict.NumberOnly) ∷ (other, verdict.AckOnly) ∷ []) verdict.Admitted ≡ v → enters v ≡ true → new ≡ true
new_by true closed early other v e h = refl
new_by false closed early other v e h = cc

-- a packet is accepted only where this end hasn't closed
open_by_row : (new closed early other : Bool) (v : Verdict) → first_row ((not new, verdict.Seen) ∷ (closed, verdict.ReadForClose) ∷ (early, verdict.NumberOnly) ∷ (other, verdict.AckOnly) ∷ []) verdict.Admitted ≡ v → accepts v ≡ true → closed ≡ false
open_by_row true true early other v e h = cc
open_by_row true false early other v e h = refl
open_by_row false closed early other v e h = cc

closed_by_row : (new closed early other : Bool) → first_row ((not new, verdict.Seen) ∷ (closed, verdict.ReadForClose) ∷ (early, verdict.NumberOnly) ∷ (other, verdict.AckOnly) ∷ []) verdict.Admitted ≡ verdict.ReadForClose → closed ≡ true
closed_by_row true true early other e = refl
closed_by_row true false true other e = cc
closed_by_row true false false true e = cc
closed_by_row true false false false e = cc
closed_by_row false closed early other e = cc

-- where this end has closed, it isn't open
shut_by : (s : State) → is_closed s ≡ true → is_open s ≡ false
shut_by state.Handshake h = cc
shut_by state.Established h = cc
shut_by state.Closed h = refl
shut_by state.Draining h = cc
shut_by state.Drained h = cc

-- a life that hasn't closed and isn't over is open
still_open : (s : State) → is_over s ≡ false → is_closed s ≡ false → is_open s ≡ true
still_open state.Handshake h c = refl
still_open state.Established h c = refl
still_open state.Closed h c = cc
still_open state.Draining h c = cc
still_open state.Drained h c = cc

open_low : (s : State) → is_open s ≡ true → rank_of s < 3
open_low state.Handshake h = omega arith
open_low state.Established h = omega arith
open_low state.Closed h = cc
open_low state.Draining h = cc
open_low state.Drained h = cc

-- a frame that gives a reason for the end is given to the life
closes_life : (f : FrameValue) (why : ConnectionError) → reason_of f ≡ Some why → IsGivenTo layer.Life f
closes_life (frames.ConnectionClose code type reason) why h = tt
closes_life (frames.ApplicationClose code reason) why h = tt
closes_life _ why h = cc

-- a HANDSHAKE_DONE that stops nothing came in a 1-RTT packet to a client
done_goes : (side : Side) (id : SpaceId) (next : ℕ) (skipped : Option ℕ) (type : ℕ) → stop_in side id next skipped type frames.HandshakeDone ≡ None → (side ≡ Client) × (id ≡ «Data»)
done_goes side Initial next skipped type h = cc
done_goes side Handshake next skipped type h = cc
done_goes Client Data next skipped type h = (refl, refl)
done_goes Server Data next skipped type h = cc

-- the frames and the last bytes of some items are those of others
record Within (items others : List Item) : Type 0 where
  reads : (read : TypedValue) → IsAmong read items → IsAmong read others
  fault : (fault : InvalidFrame) → EndsWith fault items → EndsWith fault others

none_chosen : (chosen : Option (List ℕ)) → is_none chosen ≡ true → chosen ≡ None
none_chosen None h = refl
none_chosen (Some cid) h = cc h

module _ {t : Types} where
  -- behind a frame that ended the packet none does anything
  pub ended_stays : (m : Meaning t) (coming : Coming) (id : SpaceId) (items : List Item) (a : At t) → items_after m coming id items (Ended a) ≡ Ended a
  ended_stays m coming id [] a = refl
  ended_stays m coming id (Ok read ∷ items) a = ended_stays m coming id items a
  ended_stays m coming id (Err fault ∷ items) a = ended_stays m coming id items a

  -- what is told leaves what an ACK settles
  pub told_settled : (m : Meaning t) (time : ℕ) (space : SpaceId) (ack : AckValue) (d : Did) (s : View t) → settled_by m time space ack s ≡ settled_by m time space ack (state_move (Tell d) s)
  unfolding state_move numbers_move keys_move life_move paths_move timers_move waiting_move setup_move lower_move
  told_settled m time space ack d s = refl

  -- where the peer closed, the connection isn't open any more
  left_shut_by : (time : ℕ) (why : ConnectionError) (a : At t) (b c : Bool) → is_open a.state.life.state ≡ b → b ≡ true →
      let d : At t = move_to (PeerCloses time) a in is_open (if b then (if c then move_to (Give why) d else d) else a).state.life.state ≡ false
  unfolding move_to state_move life_move life_drained reason_given
  left_shut_by time why a true true is h = given_shut (is_none a.state.life.reason)
    where
      given_shut : (b : Bool) → let v : Life = record a.state.life { state = state.Draining } in is_open (if b then record v { reason = Some why; lost = Some why } else v).state ≡ false
      given_shut true = refl
      given_shut false = refl
  left_shut_by time why a true false is h = refl
  left_shut_by time why a false c is h = cc

  left_shut : (time : ℕ) (why : ConnectionError) (a : At t) → is_open a.state.life.state ≡ true → is_open (left_after time why a).state.life.state ≡ false
  unfolding left_after given_after
  left_shut time why a h = left_shut_by time why a (is_open a.state.life.state) (is_none (move_to (PeerCloses time) a).state.life.reason) refl h

  -- where a packet fixes the peer's id, it wasn't known
  unknown_peer : (id : SpaceId) (s : View t) → fixes_peer id s ≡ true → s.paths.peer_cid ≡ None
  unknown_peer Initial s h = none_chosen s.paths.peer_cid h
  unknown_peer Handshake s h = cc h
  unknown_peer Data s h = cc h

  -- what a packet does that opened: it makes its step of the ring, and then that of its verdict
  abbrev pub packet_received : Meaning t → OpenPacket → At t → At t
  packet_received m o a = received_after m o.coming o.space o.spin o.source o.token o.number o.payload (unsealed_after m o.coming.time o.which o.number a)

  -- its step of the ring leaves the life
  pub unsealed_life : (m : Meaning t) (time n : ℕ) (which : Option Which) (a : At t) → (unsealed_after m time which n a).state.life ≡ a.state.life
  unfolding move_to state_move life_move
  unsealed_life m time n None a = refl
  unsealed_life m time n (Some which) a = refl

  -- the session is given bytes: this is told, and it reads them
  abbrev pub given_read : Meaning t → OpenPacket → (first : ℕ) → (bytes : List ℕ) → At t → At t
  given_read m o x bytes a = move_to (Read o.space (length (x ∷ bytes)) (m.after_read a.state.lower.session (x ∷ bytes))) (move_to (Tell (did.Gave layer.Session (x ∷ bytes))) a)

  -- recovery is given an ACK: this is told, and recovery makes of it what it does
  abbrev pub given_ack : Meaning t → OpenPacket → AckValue → At t → At t
  given_ack m o ack a = move_to (Ack o.space ack.largest (settled_by m o.coming.time o.space ack a.state)) (move_to (Tell (did.Gave layer.Recovery (spelling (frames.Ack ack)))) a)

  -- the moves beside those two
  abbrev pub IsUnacked : Move t → Type 0
  IsUnacked (Ack id n after) = ⊥
  IsUnacked (Tell (did.Gave layer.Recovery body)) = ⊥
  IsUnacked _ = Unit {0}

  -- the moves beside these and those by which the session is given bytes
  abbrev pub IsBeside : Move t → Type 0
  IsBeside (Read id count session) = ⊥
  IsBeside (Ack id n after) = ⊥
  IsBeside (Tell (did.Gave layer.Session body)) = ⊥
  IsBeside (Tell (did.Gave layer.Recovery body)) = ⊥
  IsBeside _ = Unit {0}

  beside_unacked : (x : Move t) → IsBeside x → IsUnacked x
  beside_unacked (Ack id n after) h = absurd h
  beside_unacked (Tell (did.Gave layer.Recovery body)) h = absurd h
  beside_unacked _ h = tt

  progress_beside : (m : Meaning t) (time : ℕ) (id : SpaceId) (x : Move t) (s : View t) → IsProgress m time id x s → IsBeside x
  progress_beside m time id (Read space count session) s h = absurd h
  progress_beside m time id (Ack space n after) s h = absurd h
  progress_beside m time id (Tell d) s h = absurd h
  progress_beside m time id _ s h = tt

  -- a cause for which this end closes that isn't the session's refusal of bytes
  abbrev pub IsFound : {m : Meaning t} {o : OpenPacket} {s : View t} {error : TransportError} → Stops m o s error → Type 0
  IsFound (Refusal bytes session refused behind) = ⊥
  IsFound _ = Unit {0}

  abbrev pub Finds : Meaning t → OpenPacket → View t → TransportError → Type 0
  Finds m o s error = (stops : Stops m o s error) × IsFound stops

  -- a reason that is given is that of a close in the packet, or an error for which this end just closed for such a cause
  abbrev pub IsUnrefused : Meaning t → OpenPacket → Move t → View t → Type 0
  IsUnrefused m o (Give why) s = IsReasonOf o why ⊎ IsErrorFor (Finds m o) o.coming.time why s
  IsUnrefused m o _ s = Unit {0}

  progress_unrefused : (m : Meaning t) (o : OpenPacket) (x : Move t) (s : View t) → IsProgress m o.coming.time o.space x s → IsUnrefused m o x s
  progress_unrefused m o (Give why) s h = inr (record { error = h.error; reason = h.reason; before = h.before; closed = h.closed; cause = (Parameters h.cause, tt) })
  progress_unrefused m o _ s h = tt

-- what holds of no move, of two moves one after the other, of the two by which the session is given bytes, of these two and the end behind
-- them where it refuses them, of the two by which recovery is given an ACK, and of each other move that the packet makes, where it may be made, holds of the packet
module _ {t : Types} (m : Meaning t) (o : OpenPacket) (R : At t → At t → Type 0) (here : (a : At t) → R a a) (next : (a b c : At t) → R a b → R b c → R a c)
    (move : (x : Move t) (a : At t) → IsInPacket m o x a.state → IsBeside x → IsUnrefused m o x a.state → MayMove x a.state → R a (move_to x a))
    (gave : (x : ℕ) (bytes : List ℕ) (a : At t) → x ∷ bytes ≡ ready_bytes (stream_of a.state.lower o.space) → R a (given_read m o x bytes a))
    (refused : (x : ℕ) (bytes : List ℕ) (error : TransportError) (a : At t) → x ∷ bytes ≡ ready_bytes (stream_of a.state.lower o.space) → m.reads a.state.lower.session (x ∷ bytes) ≡ Err error →
    R a (stopped_after o.coming.time error (given_read m o x bytes a)))
    (acked : (ack : AckValue) (a : At t) → IsFrameOf o (frames.Ack ack) → R a (given_ack m o ack a)) where
  -- a frame of this type stops nothing by its kind
  abbrev GoesOn : View t → (type : ℕ) → FrameValue → Type 0
  GoesOn s type f = stop_in s.setup.fixed.side o.space (next_number s.numbers o.space) s.numbers.filter.last type f ≡ None

  -- the last close so far is one of this packet
  abbrev IsCloseSoFar : Option ConnectionError → Type 0
  IsCloseSoFar close = IfSome close (λ why. IsReasonOf o why)

  -- this end closes for an error, which the packet gives
  stopped : (error : TransportError) (a : At t) → Finds m o a.state error → R a (stopped_after o.coming.time error a)
  unfolding MayMove move_to
  stopped error a finds =
      let b : At t = move_to (Shut o.coming.time (close_for error)) a in
      stopped_by R here next o.coming.time error a (λ low. move (Shut o.coming.time (close_for error)) a (record { same = refl; error = error; closes = refl; cause = finds.0 }) tt tt low)
      (λ none. move (Give (lost.TransportError error)) b (inr (record { error = error; reason = refl; before = a.state; closed = refl; cause = finds.0 })) tt
      (inr (record { error = error; reason = refl; before = a.state; closed = refl; cause = finds })) none)

  -- the reason that a close of the peer's gives is given
  given : (why : ConnectionError) (a : At t) → IsReasonOf o why → R a (given_after why a)
  unfolding MayMove
  given why a reason = given_by R here next why a (λ none. move (Give why) a (inl reason) tt (inl reason) none)

  -- the loss timer is set anew
  armed : (a : At t) → R a (armed_after o.coming.time a)
  unfolding armed_after armed_with MayMove
  armed a = move (Arm (loss_time a.state (is_blocked a.state.paths) o.coming.time)) a refl tt tt (record { blocked = is_blocked a.state.paths; time = o.coming.time; set = refl })

  -- ---- closes, and acknowledgements

  left_by : (why : ConnectionError) (a : At t) (b : Bool) → is_open a.state.life.state ≡ b → IsReasonOf o why → R a (if b then given_after why (move_to (PeerCloses o.coming.time) a) else a)
  unfolding MayMove
  left_by why a true h reason = next a (move_to (PeerCloses o.coming.time) a) _ (move (PeerCloses o.coming.time) a (refl, (why, reason)) tt tt (open_low a.state.life.state h)) (given why (move_to (PeerCloses o.coming.time) a) reason)
  left_by why a false h reason = here a

  -- the peer closed: the connection drains, if it was open
  holds_left : (why : ConnectionError) (a : At t) → IsReasonOf o why → R a (left_after o.coming.time why a)
  unfolding left_after
  holds_left why a reason = left_by why a _ refl reason

  -- the server has confirmed the handshake
  holds_confirmed : (a : At t) → IsFrameOf o frames.HandshakeDone → a.state.setup.fixed.side ≡ Client → o.space ≡ «Data» → R a (confirmed_after o.coming.time a)
  unfolding confirmed_after MayMove move_to state_move setup_move
  holds_confirmed a h side space =
      let b : At t = move_to (Tell (did.Gave layer.Life (spelling frames.HandshakeDone))) a in
      let c : At t = move_to (Forget Handshake) b in
      next a b _ (move (Tell (did.Gave layer.Life (spelling frames.HandshakeDone))) a (frames.HandshakeDone, h, tt, refl) tt tt tt)
      (next b c _ (move (Forget Handshake) b (inl (side, space, h)) tt tt tt) (armed c))

  -- the loss timer is set anew where packets were newly acknowledged
  holds_rearmed : (acked : List Entry) (a : At t) → R a (rearmed_after o.coming.time acked a)
  holds_rearmed [] a = here a
  holds_rearmed (e ∷ es) a = armed a

  holds_acked : (ack : AckValue) (a : At t) → IsFrameOf o (frames.Ack ack) → R a (acked_after m o.coming.time o.space ack a)
  unfolding acked_after settled_after
  holds_acked ack a h =
      let b : At t = given_ack m o ack a in
      next a b _ (acked ack a h) (holds_rearmed (settled_by m o.coming.time o.space ack a.state).acked b)

  -- a close of the peer's is given to the life
  holds_given_close : (f : FrameValue) (a : At t) → IsFrameOf o f → IsGivenTo layer.Life f → R a (close_given f a)
  unfolding close_given MayMove
  holds_given_close f a h to = move (Tell (did.Gave layer.Life (spelling f))) a (f, h, to, refl) tt tt tt

  -- a token of the server's is given to the store
  holds_token : (f : FrameValue) (a : At t) → IsFrameOf o f → IsGivenTo layer.Store f → R a (token_given f a)
  unfolding token_given MayMove
  holds_token f a h to = move (Tell (did.Gave layer.Store (spelling f))) a (f, h, to, refl) tt tt tt

  -- the last close of a 1-RTT packet counts, where the connection was open
  data_by : (why : ConnectionError) (a : At t) (b : Bool) → is_open a.state.life.state ≡ b → IsReasonOf o why → R a (if b then move_to Owe (left_after o.coming.time why a) else a)
  unfolding MayMove
  data_by why a true is reason = next a (left_after o.coming.time why a) _ (holds_left why a reason) (move Owe (left_after o.coming.time why a) tt tt tt (left_shut o.coming.time why a is))
  data_by why a false is reason = here a

  -- it counts, or not
  holds_in_data : (why : ConnectionError) (a : At t) → IsReasonOf o why → R a (closed_in_data o.coming.time why a)
  unfolding closed_in_data
  holds_in_data why a reason = data_by why a (is_open a.state.life.state) refl reason

  -- ---- what a frame leaves

  -- it holds of what a frame leaves, and a close is one of this packet
  abbrev Leaves : At t → Behind t → Type 0
  Leaves a (Goes b) = R a b
  Leaves a (Closes why b) = R a b × IsReasonOf o why
  Leaves a (Ends b) = R a b

  -- so it does where it holds of what comes before
  leaves_next : (a b : At t) → R a b → (x : Behind t) → Leaves b x → Leaves a x
  leaves_next a b h (Goes c) k = next a b c h k
  leaves_next a b h (Closes why c) k = (next a b c h k.0, k.1)
  leaves_next a b h (Ends c) k = next a b c h k

  -- a close
  holds_close : (space : SpaceId) (f : FrameValue) (why : ConnectionError) (a : At t) → IsFrameOf o f → reason_of f ≡ Some why → Leaves a (close_after o.coming space f why a)
  holds_close Initial f why a among is = next a (close_given f a) _ (holds_given_close f a among (closes_life f why is)) (holds_left why (close_given f a) (f, among, is))
  holds_close Handshake f why a among is = next a (close_given f a) _ (holds_given_close f a among (closes_life f why is)) (holds_left why (close_given f a) (f, among, is))
  holds_close Data f why a among is = (holds_given_close f a among (closes_life f why is), (f, among, is))

  -- the handshake goes on behind the frames
  progress : (a : At t) → R a (progress_after m o.coming.time o.space a)
  progress a = holds_progress m o.coming.time o.space R here next (λ x b h may. move x b (progress_in_packet m o x b.state h) (progress_beside m o.coming.time o.space x b.state h) (progress_unrefused m o x b.state h) may) a

  -- ---- the frames

  -- an error ends the packet
  holds_ended : (stop : Option TransportError) (does : At t → Behind t) (a : At t) → ((error : TransportError) → stop ≡ Some error → Finds m o a.state error) → (stop ≡ None → Leaves a (does a))
      → Leaves a (ended_by o.coming.time stop does a)
  holds_ended (Some error) does a stops goes = stopped error a (stops error refl)
  holds_ended None does a stops goes = goes refl

  -- the session is given bytes, and answers
  holds_answered : (x : ℕ) (bytes : List ℕ) (r : Result Bool TransportError) (a : At t) → x ∷ bytes ≡ ready_bytes (stream_of a.state.lower o.space) → m.reads a.state.lower.session (x ∷ bytes) ≡ r →
      Leaves a (answered_after o.coming r (given_read m o x bytes a))
  unfolding MayMove
  holds_answered x bytes (Err error) a ready answers = refused x bytes error a ready answers
  holds_answered x bytes (Ok true) a ready answers = let c : At t = given_read m o x bytes a in next a c _ (gave x bytes a ready) (move Ready c tt tt tt tt)
  holds_answered x bytes (Ok false) a ready answers = gave x bytes a ready

  -- the session is given the bytes that can be read in order
  holds_bytes : (bytes : List ℕ) (a : At t) → bytes ≡ ready_bytes (stream_of a.state.lower o.space) → Leaves a (bytes_given m o.coming o.space bytes a)
  holds_bytes [] a ready = here a
  holds_bytes (x ∷ bytes) a ready = holds_answered x bytes (m.reads a.state.lower.session (x ∷ bytes)) a ready refl

  -- bytes of a CRYPTO stream came
  holds_kept : (offset : ℕ) (body : List ℕ) (a : At t) → IsFrameOf o (frames.Crypto offset body) → Leaves a (kept_after m o.coming o.space offset body a)
  unfolding kept_after MayMove
  holds_kept offset body a among =
      let b : At t = move_to (Come o.space offset body) a in
      leaves_next a b (move (Come o.space offset body) a (refl, among) tt tt tt) (bytes_given m o.coming o.space (ready_bytes (stream_of b.state.lower o.space)) b) (holds_bytes (ready_bytes (stream_of b.state.lower o.space)) b refl)

  -- the streams are handed a frame, which they take, or refuse
  handed_by : (f : FrameValue) (stop : Option TransportError) (a : At t) → IsFrameOf o f → handed_stop f a.state.lower ≡ stop → Leaves a (refused_after o.coming.time stop (move_to (Hand f) a))
  unfolding MayMove move_to
  handed_by f None a h is = move (Hand f) a h tt tt tt
  handed_by f (Some error) a h is =
      let b : At t = move_to (Hand f) a in
      next a b _ (move (Hand f) a h tt tt tt) (stopped error b (Handed f h a.state refl is, tt))

  holds_handed : (f : FrameValue) (a : At t) → IsFrameOf o f → Leaves a (handed_after o.coming.time f a)
  unfolding handed_after
  holds_handed f a h = handed_by f (handed_stop f a.state.lower) a h refl

  -- a server may take the next id of the peer into use behind a NEW_CONNECTION_ID
  switched_by : (new : NewConnectionId) (a : At t) (b : Bool) → IsFrameOf o (frames.NewConnectionId new) → R a (switched_after b a)
  unfolding MayMove
  switched_by new a true h = move Switch a (new, h) tt tt tt
  switched_by new a false h = here a

  -- the ids are handed one, which they take, or refuse
  inserted_by : (new : NewConnectionId) (stop : Option TransportError) (switches : Bool) (a : At t) → IsFrameOf o (frames.NewConnectionId new) → insert_stop new a.state.lower.ids ≡ stop →
      Leaves a (ended_by o.coming.time stop (λ b. Goes (switched_after switches b)) (move_to (Insert new) a))
  unfolding MayMove move_to
  inserted_by new None switches a h is =
      let b : At t = move_to (Insert new) a in
      next a b _ (move (Insert new) a h tt tt tt) (switched_by new b switches h)
  inserted_by new (Some error) switches a h is =
      let b : At t = move_to (Insert new) a in
      next a b _ (move (Insert new) a h tt tt tt) (stopped error b (Inserted new h a.state refl is, tt))

  holds_inserted : (new : NewConnectionId) (a : At t) → IsFrameOf o (frames.NewConnectionId new) → Leaves a (inserted_after o.coming.time new a)
  unfolding inserted_after
  holds_inserted new a h = inserted_by new (insert_stop new a.state.lower.ids) (switches_for a.state.setup.fixed.side new a.state.lower.ids) a h refl

  -- they are handed a RETIRE_CONNECTION_ID, which they take, or refuse
  retired_by : (n : ℕ) (stop : Option TransportError) (a : At t) → IsFrameOf o (frames.RetireConnectionId n) → retire_stop n a.state.lower.ids ≡ stop → Leaves a (refused_after o.coming.time stop (move_to (Retire o.coming.time n) a))
  unfolding MayMove move_to
  retired_by n None a h is = move (Retire o.coming.time n) a (refl, h) tt tt tt
  retired_by n (Some error) a h is =
      let b : At t = move_to (Retire o.coming.time n) a in
      next a b _ (move (Retire o.coming.time n) a (refl, h) tt tt tt) (stopped error b (Retired n h a.state refl is, tt))

  holds_retired : (n : ℕ) (a : At t) → IsFrameOf o (frames.RetireConnectionId n) → Leaves a (retired_after o.coming.time n a)
  unfolding retired_after
  holds_retired n a h = retired_by n (retire_stop n a.state.lower.ids) a h refl

  -- a frame that its kind doesn't stop
  holds_applied : (f : FrameValue) (a : At t) → (among : IsFrameOf o f) → GoesOn a.state among.0 f → Leaves a (applied_after m o.coming o.space f a)
  unfolding applied_after
  holds_applied (frames.Ack ack) a h goes = holds_acked ack a h
  holds_applied (frames.Crypto offset body) a h goes = holds_ended (crypto_stop a.state o.space offset body) (kept_after m o.coming o.space offset body) a (λ error stops. (Bytes offset body h stops, tt)) (λ none. holds_kept offset body a h)
  holds_applied frames.HandshakeDone a h goes =
      let done = done_goes a.state.setup.fixed.side o.space (next_number a.state.numbers o.space) a.state.numbers.filter.last h.0 goes in
      holds_confirmed a h done.0 done.1
  holds_applied (frames.NewToken token) a h goes = holds_token (frames.NewToken token) a h tt
  holds_applied (frames.ConnectionClose code type reason) a h goes = holds_close o.space (frames.ConnectionClose code type reason) (lost.ConnectionClosed (record { error_code = code; frame_type = type; reason = reason })) a h refl
  holds_applied (frames.ApplicationClose code reason) a h goes = holds_close o.space (frames.ApplicationClose code reason) (lost.ApplicationClosed (record { error_code = code; reason = reason })) a h refl
  holds_applied (frames.ResetStream stream code size) a h goes = holds_handed (frames.ResetStream stream code size) a h
  holds_applied (frames.StopSending stream code) a h goes = holds_handed (frames.StopSending stream code) a h
  holds_applied (frames.Stream stream offset fin body) a h goes = holds_handed (frames.Stream stream offset fin body) a h
  holds_applied (frames.MaxData limit) a h goes = holds_handed (frames.MaxData limit) a h
  holds_applied (frames.MaxStreamData stream limit) a h goes = holds_handed (frames.MaxStreamData stream limit) a h
  holds_applied (frames.MaxStreams dir count) a h goes = holds_handed (frames.MaxStreams dir count) a h
  holds_applied (frames.StreamDataBlocked stream limit) a h goes = holds_handed (frames.StreamDataBlocked stream limit) a h
  holds_applied (frames.StreamsBlocked dir limit) a h goes = holds_handed (frames.StreamsBlocked dir limit) a h
  holds_applied (frames.Datagram body) a h goes = holds_handed (frames.Datagram body) a h
  holds_applied (frames.NewConnectionId new) a h goes = holds_inserted new a h
  holds_applied (frames.RetireConnectionId sequence) a h goes = holds_retired sequence a h
  holds_applied _ a h goes = here a

  -- a frame
  holds_frame : (read : TypedValue) (a : At t) → IsTypedOf o read → Leaves a (frame_after m o.coming o.space read a)
  holds_frame read a among =
      holds_ended (stop_in a.state.setup.fixed.side o.space (next_number a.state.numbers o.space) a.state.numbers.filter.last read.ty read.frame) (applied_after m o.coming o.space read.frame) a
      (λ error stops. (Kind read among stops, tt)) (λ none. holds_applied read.frame a (read.ty, among) none)

  -- ---- the frames

  -- behind the last frame
  holds_end : (close : Option ConnectionError) (a : At t) → IsCloseSoFar close → R a (end_after m o.coming o.space (Reads close a))
  holds_end None a closed = progress a
  holds_end (Some why) a closed = holds_in_data why a closed

  -- where a frame ended the packet
  holds_ended_course : (items : List Item) (a b : At t) → R a b → R a (end_after m o.coming o.space (items_after m o.coming o.space items (Ended b)))
  holds_ended_course items a b h = subst (λ (c : Course t). R a (end_after m o.coming o.space c)) (sym (ended_stays m o.coming o.space items b)) h

  -- behind what a frame leaves
  holds_behind : (items : List Item) (close : Option ConnectionError) (a : At t) (x : Behind t) → Leaves a x → IsCloseSoFar close
      → ((c : Option ConnectionError) → IsCloseSoFar c → (b : At t) → R b (end_after m o.coming o.space (items_after m o.coming o.space items (Reads c b))))
      → R a (end_after m o.coming o.space (items_after m o.coming o.space items (course_with close x)))
  holds_behind items close a (Goes b) h closed others = next a b _ h (others close closed b)
  holds_behind items close a (Closes why b) h closed others = next a b _ h.0 (others (Some why) h.1 b)
  holds_behind items close a (Ends b) h closed others = holds_ended_course items a b h

  -- the frames of the packet, from one of them on
  holds_items : (items : List Item) (close : Option ConnectionError) (a : At t) → Within items (items_of o.payload) → IsCloseSoFar close → R a (end_after m o.coming o.space (items_after m o.coming o.space items (Reads close a)))
  holds_items [] close a within closed = holds_end close a closed
  holds_items (Err fault ∷ items) close a within closed = holds_ended_course items a _ (stopped (encoding_error_at fault.ty) a (Fault fault (within.fault fault refl) refl, tt))
  holds_items (Ok read ∷ items) close a within closed =
      let behind : Within items (items_of o.payload) = record { reads = λ r among. within.reads r (inr among); fault = λ r ends. within.fault r ends } in
      holds_behind items close a (frame_after m o.coming o.space read a) (holds_frame read a (within.reads read (inl refl))) closed (λ c reason b. holds_items items c b behind reason)

  payload_by : (payload : List ℕ) (a : At t) → o.payload ≡ payload → R a (payload_after m o.coming o.space payload a)
  unfolding payload_after
  payload_by [] a same = stopped _ a (Empty same refl, tt)
  payload_by (b ∷ bytes) a same = holds_items (items_of (b ∷ bytes)) None a
      (record { reads = λ r among. subst (λ (p : List ℕ). IsAmong r (items_of p)) (sym same) among; fault = λ r ends. subst (λ (p : List ℕ). EndsWith r (items_of p)) (sym same) ends }) tt

  -- its payload
  pub payload_read : (a : At t) → R a (payload_after m o.coming o.space o.payload a)
  payload_read a = payload_by o.payload a refl

  -- ---- the packet, by its verdict

  fixed_by : (a : At t) (b : Bool) → fixes_peer o.space a.state ≡ b → R a (if b then move_to (Fix o.source) a else a)
  unfolding MayMove
  fixed_by a true h = move (Fix o.source) a refl tt tt (unknown_peer o.space a.state h)
  fixed_by a false h = here a

  pub fixed_read : (a : At t) → R a (fixed_after o.space o.source a)
  unfolding fixed_after
  fixed_read a = fixed_by a (fixes_peer o.space a.state) refl

  closing_by : (b : At t) (close : Bool) → list_any is_close_item (items_of o.payload) ≡ close → is_closed b.state.life.state ≡ true → R b (if close then move_to PeerClosesToo b else move_to Owe b)
  unfolding MayMove
  closing_by b true is h = move PeerClosesToo b is tt tt h
  closing_by b false is h = move Owe b tt tt tt (shut_by b.state.life.state h)

  holds_closing : (a : At t) → verdict.ReadForClose ≡ verdict_of a.state o.space o.source o.token o.number → is_new_in a.state.numbers o.space o.number ≡ true → is_closed a.state.life.state ≡ true → R a (read_for_close o.space o.number o.payload a)
  unfolding read_for_close MayMove move_to state_move life_move
  holds_closing a judged new closed =
      let b : At t = move_to (Enter o.space o.number verdict.ReadForClose) a in
      next a b _ (move (Enter o.space o.number verdict.ReadForClose) a (refl, record { space = refl; same = refl; judged = judged }) tt tt (new, refl))
      (closing_by b _ refl closed)

  -- a server leaves the Initial space with a Handshake packet, or not
  initial_by : (a : At t) (b : Bool) → drops_initial Server a.state o.space ≡ b → R a (if b then armed_with (is_blocked a.state.paths) o.coming.time (move_to (Forget Initial) a) else a)
  unfolding armed_with MayMove move_to state_move paths_move path_kept is_blocked
  initial_by a true drops =
      let b : At t = move_to (Forget Initial) a in
      next a b _ (move (Forget Initial) a drops tt tt tt) (move (Arm (loss_time b.state (is_blocked a.state.paths) o.coming.time)) b refl tt tt (record { blocked = is_blocked a.state.paths; time = o.coming.time; set = refl }))
  initial_by a false drops = here a

  holds_initial : (a : At t) → R a (initial_left Server (is_blocked a.state.paths) o.coming.time o.space a)
  unfolding initial_left
  holds_initial a = initial_by a _ refl

  -- it is accepted
  holds_accepted : (e : Bool) (v : Verdict) (a : At t) → v ≡ verdict_of a.state o.space o.source o.token o.number → is_new_in a.state.numbers o.space o.number ≡ true → enters v ≡ true → accepts v ≡ true → is_open a.state.life.state ≡ true → R a (accepted_after o.coming o.space o.number e o.spin v a)
  unfolding accepted_after MayMove
  holds_accepted e v a judged new enters_v accepts_v opened =
      let b : At t = move_to (Accept o.coming.time o.space o.number e (signs_of o.coming o.spin) v) a in
      next a b _ (move (Accept o.coming.time o.space o.number e (signs_of o.coming o.spin) v) a (refl, refl, accepts_v, record { space = refl; same = refl; judged = judged }) tt tt (new, enters_v, opened)) (holds_initial b)

  holds_admitted : (a : At t) → verdict.Admitted ≡ verdict_of a.state o.space o.source o.token o.number → is_new_in a.state.numbers o.space o.number ≡ true → is_open a.state.life.state ≡ true → R a (admitted_after m o.coming o.space o.spin o.source o.number o.payload a)
  unfolding admitted_after
  holds_admitted a judged new opened =
      let e : Bool = list_any is_eliciting_item (items_of o.payload) in
      let b : At t = accepted_after o.coming o.space o.number e o.spin verdict.Admitted a in
      let c : At t = fixed_after o.space o.source b in
      next a b _ (holds_accepted e verdict.Admitted a judged new refl refl opened) (next b c _ (fixed_read b) (payload_read c))

  verdict_by : (v : Verdict) (a : At t) → v ≡ verdict_of a.state o.space o.source o.token o.number →
      (enters v ≡ true → is_new_in a.state.numbers o.space o.number ≡ true) → (v ≡ verdict.ReadForClose → is_closed a.state.life.state ≡ true) → (accepts v ≡ true → is_open a.state.life.state ≡ true) →
      R a (verdict_after m o.coming o.space o.spin o.source o.number o.payload v a)
  unfolding MayMove
  verdict_by verdict.Ignored a judged new closed opened = here a
  verdict_by verdict.Failure a judged new closed opened = here a
  verdict_by verdict.BadBits a judged new closed opened = here a
  verdict_by verdict.BadUpdate a judged new closed opened = here a
  verdict_by verdict.RetryTaken a judged new closed opened = here a
  verdict_by verdict.Versions a judged new closed opened = here a
  verdict_by verdict.Seen a judged new closed opened = move (Tell (did.Piece (Some o.space) (Some o.number) verdict.Seen)) a (refl, refl, refl, sym judged) tt tt refl
  verdict_by verdict.ReadForClose a judged new closed opened = holds_closing a judged (new refl) (closed refl)
  verdict_by verdict.NumberOnly a judged new closed opened = move (Enter o.space o.number verdict.NumberOnly) a (refl, record { space = refl; same = refl; judged = judged }) tt tt (new refl, refl)
  verdict_by verdict.AckOnly a judged new closed opened = holds_accepted false verdict.AckOnly a judged (new refl) refl refl (opened refl)
  verdict_by verdict.Admitted a judged new closed opened = holds_admitted a judged (new refl) (opened refl)

  received_beside : (a : At t) → is_over a.state.life.state ≡ false → R a (received_after m o.coming o.space o.spin o.source o.token o.number o.payload a)
  unfolding received_after verdict_of
  received_beside a lively =
      verdict_by (verdict_of a.state o.space o.source o.token o.number) a refl
      (λ h. new_by (is_new_in a.state.numbers o.space o.number) (is_closed a.state.life.state) _ _ (verdict_of a.state o.space o.source o.token o.number) refl h)
      (λ e. closed_by_row (is_new_in a.state.numbers o.space o.number) (is_closed a.state.life.state) _ _ e)
      (λ h. still_open a.state.life.state lively (open_by_row (is_new_in a.state.numbers o.space o.number) (is_closed a.state.life.state) _ _ (verdict_of a.state o.space o.source o.token o.number) refl h))

  -- its step of the ring
  unsealed_by : (which : Option Which) → o.which ≡ which → (a : At t) → is_over a.state.life.state ≡ false → R a (unsealed_after m o.coming.time which o.number a)
  unfolding MayMove
  unsealed_by None is a lively = here a
  unsealed_by (Some which) is a lively =
      move (Unseal o.coming.time o.number which (fresh_by m which a.state) (session_by m which a.state.lower.session)) a (record { same = refl; numbered = refl; named = is; given = refl; behind = refl }) tt tt lively

  pub packet_read : (a : At t) → is_over a.state.life.state ≡ false → R a (packet_received m o a)
  packet_read a lively =
      let b : At t = unsealed_after m o.coming.time o.which o.number a in
      next a b _ (unsealed_by o.which refl a lively) (received_beside b (ap (λ (l : Life). is_over l.state) (unsealed_life m o.coming.time o.number o.which a) ∙ lively))

-- so does what holds of the two by which the session is given bytes, of the two by which recovery is given an ACK, and of each other move that
-- the packet makes
module _ {t : Types} (m : Meaning t) (o : OpenPacket) (R : At t → At t → Type 0) (here : (a : At t) → R a a) (next : (a b c : At t) → R a b → R b c → R a c)
    (move : (x : Move t) (a : At t) → IsInPacket m o x a.state → IsBeside x → MayMove x a.state → R a (move_to x a))
    (gave : (x : ℕ) (bytes : List ℕ) (a : At t) → x ∷ bytes ≡ ready_bytes (stream_of a.state.lower o.space) → R a (given_read m o x bytes a))
    (acked : (ack : AckValue) (a : At t) → IsFrameOf o (frames.Ack ack) → R a (given_ack m o ack a)) where
  found : (x : Move t) (a : At t) → IsInPacket m o x a.state → IsBeside x → IsUnrefused m o x a.state → MayMove x a.state → R a (move_to x a)
  found x a h beside unrefused may = move x a h beside may

  -- this end closes for the error with which the session refused bytes
  refused_by : (x : ℕ) (bytes : List ℕ) (error : TransportError) (a : At t) → x ∷ bytes ≡ ready_bytes (stream_of a.state.lower o.space) → m.reads a.state.lower.session (x ∷ bytes) ≡ Err error →
      R a (stopped_after o.coming.time error (given_read m o x bytes a))
  unfolding MayMove move_to state_move lower_move session_read
  refused_by x bytes error a ready refused =
      let b : At t = given_read m o x bytes a in
      let c : At t = move_to (Shut o.coming.time (close_for error)) b in
      let stops : Stops m o b.state error = Refusal (x ∷ bytes) a.state.lower.session refused refl in
      next a b _ (gave x bytes a ready)
      (stopped_by R here next o.coming.time error b (λ low. move (Shut o.coming.time (close_for error)) b (record { same = refl; error = error; closes = refl; cause = stops }) tt low)
      (λ none. move (Give (lost.TransportError error)) c (inr (record { error = error; reason = refl; before = b.state; closed = refl; cause = stops })) tt none))

  pub payload_beside : (a : At t) → R a (payload_after m o.coming o.space o.payload a)
  payload_beside a = payload_read m o R here next found gave refused_by acked a

  pub fixed_beside : (a : At t) → R a (fixed_after o.space o.source a)
  fixed_beside a = fixed_read m o R here next found gave refused_by acked a

  pub packet_beside : (a : At t) → is_over a.state.life.state ≡ false → R a (packet_received m o a)
  packet_beside a lively = packet_read m o R here next found gave refused_by acked a lively

-- so does what holds of the two by which recovery is given an ACK, and of each other move that the packet makes
module _ {t : Types} (m : Meaning t) (o : OpenPacket) (R : At t → At t → Type 0) (here : (a : At t) → R a a) (next : (a b c : At t) → R a b → R b c → R a c)
    (move : (x : Move t) (a : At t) → IsInPacket m o x a.state → IsUnacked x → MayMove x a.state → R a (move_to x a))
    (acked : (ack : AckValue) (a : At t) → IsFrameOf o (frames.Ack ack) → R a (given_ack m o ack a)) where
  read_by : (x : ℕ) (bytes : List ℕ) (a : At t) → x ∷ bytes ≡ ready_bytes (stream_of a.state.lower o.space) → R a (given_read m o x bytes a)
  unfolding MayMove move_to state_move lower_move
  read_by x bytes a ready =
      let read : Move t = Read o.space (length (x ∷ bytes)) (m.after_read a.state.lower.session (x ∷ bytes)) in
      let b : At t = move_to (Tell (did.Gave layer.Session (x ∷ bytes))) a in
      next a b (move_to read b) (move (Tell (did.Gave layer.Session (x ∷ bytes))) a ready tt tt)
      (move read b (record { space = refl; counted = ap (λ (l : List ℕ). length l) ready; behind = ap (λ (l : List ℕ). m.after_read a.state.lower.session l) ready }) tt tt)

  beside : (x : Move t) (a : At t) → IsInPacket m o x a.state → IsBeside x → MayMove x a.state → R a (move_to x a)
  beside x a h apart may = move x a h (beside_unacked x apart) may

  pub payload_unacked : (a : At t) → R a (payload_after m o.coming o.space o.payload a)
  payload_unacked a = payload_beside m o R here next beside read_by acked a

  pub fixed_unacked : (a : At t) → R a (fixed_after o.space o.source a)
  fixed_unacked a = fixed_beside m o R here next beside read_by acked a

  pub packet_unacked : (a : At t) → is_over a.state.life.state ≡ false → R a (packet_received m o a)
  packet_unacked a lively = packet_beside m o R here next beside read_by acked a lively

-- and so does what holds of each move that the packet makes
module _ {t : Types} (m : Meaning t) (o : OpenPacket) (R : At t → At t → Type 0) (here : (a : At t) → R a a) (next : (a b c : At t) → R a b → R b c → R a c)
    (move : (x : Move t) (a : At t) → IsInPacket m o x a.state → MayMove x a.state → R a (move_to x a)) where
  acked_by : (ack : AckValue) (a : At t) → IsFrameOf o (frames.Ack ack) → R a (given_ack m o ack a)
  unfolding MayMove move_to
  acked_by ack a h =
      let d : Did = did.Gave layer.Recovery (spelling (frames.Ack ack)) in
      let settle : Move t = Ack o.space ack.largest (settled_by m o.coming.time o.space ack a.state) in
      let b : At t = move_to (Tell d) a in
      next a b (move_to settle b) (move (Tell d) a (frames.Ack ack, h, tt, refl) tt)
      (move settle b (record { ack = ack; among = h; space = refl; greatest = refl; settled = told_settled m o.coming.time o.space ack d a.state }) tt)

  each : (x : Move t) (a : At t) → IsInPacket m o x a.state → IsUnacked x → MayMove x a.state → R a (move_to x a)
  each x a h unacked may = move x a h may

  pub holds_payload : (a : At t) → R a (payload_after m o.coming o.space o.payload a)
  holds_payload a = payload_unacked m o R here next each acked_by a

  pub holds_fixed : (a : At t) → R a (fixed_after o.space o.source a)
  holds_fixed a = fixed_unacked m o R here next each acked_by a

  pub holds_packet : (a : At t) → is_over a.state.life.state ≡ false → R a (packet_received m o a)
  holds_packet a lively = packet_unacked m o R here next each acked_by a lively
