-- What holds of the moves that the frames of a packet make, of a NEW_CONNECTION_ID that the ids take or refuse, and of how the handshake goes on,
-- holds of a payload.
use Rattle.std.proofs.Common.{◌≡◌, ℕ, List, [], ◌∷◌, length, refl, sym, subst, Bool, true, false, Option, Some, None, if◌then◌else◌}
use Rattle.std.specs.Prelude.{Result, Ok, Err}
use Rattle.qc_base.specs.declared.side.SpaceId.{SpaceId}
use Rattle.qc_base.specs.declared.side.SpaceId.TheVariants.{Initial, Handshake, «Data»}
use Rattle.qc_base.specs.declared.transport_error.TransportError.{TransportError}
use Rattle.qc_flight.specs.Packets.{Entry}
use Rattle.qc_frame.specs.Frame.{AckValue, FrameValue, TypedValue}
use Rattle.qc_frame.specs.FrameSpelling.{spelling}
use Rattle.qc_frame.specs.Payload.{Item, items_of}
use Rattle.qc_frame.specs.declared.frames.FrameOf.TheVariants as frames
use Rattle.qc_frame.specs.declared.frames.NewConnectionId.{NewConnectionId}
use Rattle.qc_recovery.specs.Steps.{After}
use Rattle.qc_state.specs.declared.coming.Coming.{Coming}
use Rattle.qc_state.specs.declared.deeds.Did.{Did}
use Rattle.qc_state.specs.declared.deeds.Did.TheVariants as did
use Rattle.qc_state.specs.declared.deeds.Layer.TheVariants as layer
use Rattle.qc_state.specs.declared.life.ConnectionError.{ConnectionError}
use Rattle.qc_state.specs.Ids.{insert_stop, retire_stop, switches_for}
use Rattle.qc_state.specs.Life.{is_open}
use Rattle.qc_state.specs.Lower.{handed_stop, ready_bytes, stream_of}
use Rattle.qc_state.specs.Moves.{Ack, Arm, Come, Establish, Fix, Forget, Give, Hand, Insert, IsTold, Issue, Learn, MayMove, Move, Owe, PeerCloses, Read, Ready, Retire, Shut, Switch, Tell, Write, keys_move, life_move, lower_move, move_to, numbers_move, paths_move, setup_move, state_move, timers_move, waiting_move, Renew}
use Rattle.qc_state.specs.Numbers.{next_number}
use Rattle.qc_state.specs.Progress.{progress_after}
use Rattle.qc_state.specs.Receiving.{Behind, Closes, Course, Ended, Ends, Goes, Reads, acked_after, answered_after, applied_after, bytes_given, close_after, close_given, token_given, closed_in_data, confirmed_after, course_with, crypto_stop, end_after, ended_by, frame_after, handed_after, inserted_after, items_after, kept_after, left_after, payload_after, rearmed_after, refused_after, retired_after, settled_after, stop_in, switched_after}
use Rattle.qc_state.specs.Recovering.{settled_by}
use Rattle.qc_state.specs.Stopping.{encoding_error_at, given_after, stopped_after}
use Rattle.qc_state.specs.Types.{Types, Meaning}
use Rattle.qc_state.specs.View.{View, At}
use Rattle.qc_state.proofs.Ends.{holds_armed_now, holds_given, holds_stopped}
use Rattle.qc_state.proofs.OpenPackets.{ended_stays}
use Rattle.qc_state.proofs.ReceivedMoves.{IsEnding}
use Rattle.qc_laws.proofs.KnownMoves.{IsKnownAbout}

-- a move that frames make beside those with which the ids are handed a NEW_CONNECTION_ID; what it tells by itself, if it does, may be told so
abbrev pub IsEasy : {t : Types} → Move t → Type 0
IsEasy (Insert new) = ⊥
IsEasy (Learn p) = ⊥
IsEasy (Fix cid) = ⊥
IsEasy (Renew time cid token keys) = ⊥
IsEasy (Write bytes keys session) = ⊥
IsEasy Establish = ⊥
IsEasy (Issue time ids) = ⊥
IsEasy (Tell d) = IsTold d
IsEasy _ = Unit {0}

pub ending_easy : {t : Types} (x : Move t) → IsEnding x → IsEasy x
ending_easy (Insert new) h = absurd h
ending_easy (Learn p) h = absurd h
ending_easy (Fix cid) h = absurd h
ending_easy (Renew time cid token keys) h = absurd h
ending_easy (Write bytes keys session) h = absurd h
ending_easy Establish h = absurd h
ending_easy (Issue time ids) h = absurd h
ending_easy (Tell d) h = absurd h
ending_easy _ h = tt

-- those by which this end leaves a space or closes are known
pub ending_known : {t : Types} (m : Meaning t) (x : Move t) (s : View t) → IsEnding x → IsKnownAbout m x s
ending_known m (Forget id) s h = tt
ending_known m (Arm at) s h = tt
ending_known m (Shut time close) s h = tt
ending_known m (Give why) s h = tt
ending_known m _ s h = absurd h

module _ {t : Types} (m : Meaning t) where
  -- what is told leaves what an ACK settles
  told_settled : (time : ℕ) (id : SpaceId) (ack : AckValue) (d : Did) (s : View t) → settled_by m time id ack s ≡ settled_by m time id ack (state_move (Tell d) s)
  unfolding state_move numbers_move keys_move life_move paths_move timers_move waiting_move setup_move lower_move
  told_settled time id ack d s = refl

module _ {t : Types} (m : Meaning t) (R : At t → At t → Type 0) (here : (a : At t) → R a a) (next : (a b c : At t) → R a b → R b c → R a c)
    (move : (x : Move t) (a : At t) → IsKnownAbout m x a.state → IsEasy x → R a (move_to x a))
    (took : (new : NewConnectionId) (a : At t) → insert_stop new a.state.lower.ids ≡ None → R a (move_to (Insert new) a))
    (refused_new : (time : ℕ) (new : NewConnectionId) (error : TransportError) (a : At t) → insert_stop new a.state.lower.ids ≡ Some error → R a (stopped_after time error (move_to (Insert new) a)))
    (progress : (coming : Coming) (id : SpaceId) (a : At t) → R a (progress_after m coming.time id a)) where
  ending : (x : Move t) → IsEnding x → (a : At t) → MayMove x a.state → R a (move_to x a)
  ending x h a may = move x a (ending_known m x a.state h) (ending_easy x h)

  -- this end closes for an error
  stopped : (time : ℕ) (error : TransportError) (a : At t) → R a (stopped_after time error a)
  stopped time error a = holds_stopped R here next ending time error a

  -- the peer closed
  left_by : (time : ℕ) (why : ConnectionError) (a : At t) (b : Bool) → R a (if b then given_after why (move_to (PeerCloses time) a) else a)
  left_by time why a true = let b : At t = move_to (PeerCloses time) a in next a b _ (move (PeerCloses time) a tt tt) (holds_given R here next ending why b)
  left_by time why a false = here a

  left : (time : ℕ) (why : ConnectionError) (a : At t) → R a (left_after time why a)
  unfolding left_after
  left time why a = left_by time why a (is_open a.state.life.state)

  in_data_by : (time : ℕ) (why : ConnectionError) (a : At t) (b : Bool) → R a (if b then move_to Owe (left_after time why a) else a)
  in_data_by time why a true = let b : At t = left_after time why a in next a b _ (left time why a) (move Owe b tt tt)
  in_data_by time why a false = here a

  -- ---- the frames of a packet

  -- what a frame leaves
  abbrev Leaves : At t → Behind t → Type 0
  Leaves a (Goes b) = R a b
  Leaves a (Closes why b) = R a b
  Leaves a (Ends b) = R a b

  leaves_next : (a b : At t) (x : Behind t) → R a b → Leaves b x → Leaves a x
  leaves_next a b (Goes c) h k = next a b c h k
  leaves_next a b (Closes why c) h k = next a b c h k
  leaves_next a b (Ends c) h k = next a b c h k

  stops : (time : ℕ) (stop : Option TransportError) (does : At t → Behind t) (a : At t) → Leaves a (does a) → Leaves a (ended_by time stop does a)
  stops time (Some error) does a h = stopped time error a
  stops time None does a h = h

  refused : (time : ℕ) (stop : Option TransportError) (a b : At t) → R a b → Leaves a (refused_after time stop b)
  refused time None a b h = h
  refused time (Some error) a b h = next a b _ h (stopped time error b)

  rearmed : (time : ℕ) (acked : List Entry) (a : At t) → R a (rearmed_after time acked a)
  rearmed time [] a = here a
  rearmed time (e ∷ es) a = holds_armed_now R here next ending time a

  acked : (time : ℕ) (id : SpaceId) (ack : AckValue) (a : At t) → R a (acked_after m time id ack a)
  unfolding acked_after settled_after move_to state_move
  acked time id ack a =
      let d : Did = did.Gave layer.Recovery (spelling (frames.Ack ack)) in
      let r : After t.C = settled_by m time id ack a.state in
      let b : At t = move_to (Tell d) a in
      let c : At t = move_to (Ack id ack.largest r) b in
      next a b _ (move (Tell d) a tt tt) (next b c _ (move (Ack id ack.largest r) b (record { time = time; ack = ack; is = told_settled m time id ack d a.state }) tt) (rearmed time r.acked c))

  answered : (coming : Coming) (r : Result Bool TransportError) (a : At t) → Leaves a (answered_after coming r a)
  answered coming (Err error) a = stopped coming.time error a
  answered coming (Ok true) a = move Ready a tt tt
  answered coming (Ok false) a = here a

  gave : (coming : Coming) (id : SpaceId) (bytes : List ℕ) (a : At t) → Leaves a (bytes_given m coming id bytes a)
  gave coming id [] a = here a
  gave coming id (x ∷ bytes) a =
      let session : t.S = m.after_read a.state.lower.session (x ∷ bytes) in
      let b : At t = move_to (Tell (did.Gave layer.Session (x ∷ bytes))) a in
      let c : At t = move_to (Read id (length (x ∷ bytes)) session) b in
      leaves_next a c (answered_after coming (m.reads a.state.lower.session (x ∷ bytes)) c)
      (next a b c (move (Tell (did.Gave layer.Session (x ∷ bytes))) a tt tt) (move (Read id (length (x ∷ bytes)) session) b tt tt)) (answered coming (m.reads a.state.lower.session (x ∷ bytes)) c)

  crypto : (coming : Coming) (id : SpaceId) (offset : ℕ) (body : List ℕ) (a : At t) → Leaves a (kept_after m coming id offset body a)
  unfolding kept_after
  crypto coming id offset body a =
      let b : At t = move_to (Come id offset body) a in
      leaves_next a b (bytes_given m coming id (ready_bytes (stream_of b.state.lower id)) b) (move (Come id offset body) a tt tt) (gave coming id (ready_bytes (stream_of b.state.lower id)) b)

  confirmed : (time : ℕ) (a : At t) → R a (confirmed_after time a)
  unfolding confirmed_after
  confirmed time a =
      let d : Did = did.Gave layer.Life (spelling frames.HandshakeDone) in
      let b : At t = move_to (Tell d) a in
      let c : At t = move_to (Forget Handshake) b in
      next a b _ (move (Tell d) a tt tt) (next b c _ (move (Forget Handshake) b tt tt) (holds_armed_now R here next ending time c))

  close_told : (f : FrameValue) (a : At t) → R a (close_given f a)
  unfolding close_given
  close_told f a = move (Tell (did.Gave layer.Life (spelling f))) a tt tt

  token_told : (f : FrameValue) (a : At t) → R a (token_given f a)
  unfolding token_given
  token_told f a = move (Tell (did.Gave layer.Store (spelling f))) a tt tt

  close : (coming : Coming) (id : SpaceId) (f : FrameValue) (why : ConnectionError) (a : At t) → Leaves a (close_after coming id f why a)
  close coming Initial f why a = next a (close_given f a) _ (close_told f a) (left coming.time why (close_given f a))
  close coming Handshake f why a = next a (close_given f a) _ (close_told f a) (left coming.time why (close_given f a))
  close coming Data f why a = close_told f a

  handed : (time : ℕ) (f : FrameValue) (a : At t) → Leaves a (handed_after time f a)
  unfolding handed_after
  handed time f a = refused time (handed_stop f a.state.lower) a (move_to (Hand f) a) (move (Hand f) a tt tt)

  switched : (a : At t) (b : Bool) → R a (switched_after b a)
  switched a true = move Switch a tt tt
  switched a false = here a

  -- the ids take a NEW_CONNECTION_ID, or this end closes
  inserted_by : (time : ℕ) (new : NewConnectionId) (stop : Option TransportError) (switches : Bool) (a : At t) → insert_stop new a.state.lower.ids ≡ stop → Leaves a (ended_by time stop (λ b. Goes (switched_after switches b)) (move_to (Insert new) a))
  inserted_by time new None switches a is = let b : At t = move_to (Insert new) a in next a b _ (took new a is) (switched b switches)
  inserted_by time new (Some error) switches a is = refused_new time new error a is

  inserted : (time : ℕ) (new : NewConnectionId) (a : At t) → Leaves a (inserted_after time new a)
  unfolding inserted_after
  inserted time new a = inserted_by time new (insert_stop new a.state.lower.ids) (switches_for a.state.setup.fixed.side new a.state.lower.ids) a refl

  retired : (time n : ℕ) (a : At t) → Leaves a (retired_after time n a)
  unfolding retired_after
  retired time n a = refused time (retire_stop n a.state.lower.ids) a (move_to (Retire time n) a) (move (Retire time n) a tt tt)

  applied : (coming : Coming) (id : SpaceId) (f : FrameValue) (a : At t) → Leaves a (applied_after m coming id f a)
  unfolding applied_after
  applied coming id (frames.Ack ack) a = acked coming.time id ack a
  applied coming id (frames.Crypto offset body) a = stops coming.time (crypto_stop a.state id offset body) (kept_after m coming id offset body) a (crypto coming id offset body a)
  applied coming id frames.HandshakeDone a = confirmed coming.time a
  applied coming id (frames.NewToken token) a = token_told (frames.NewToken token) a
  applied coming id (frames.ConnectionClose code type reason) a = close coming id (frames.ConnectionClose code type reason) _ a
  applied coming id (frames.ApplicationClose code reason) a = close coming id (frames.ApplicationClose code reason) _ a
  applied coming id (frames.ResetStream stream code size) a = handed coming.time (frames.ResetStream stream code size) a
  applied coming id (frames.StopSending stream code) a = handed coming.time (frames.StopSending stream code) a
  applied coming id (frames.Stream stream offset fin body) a = handed coming.time (frames.Stream stream offset fin body) a
  applied coming id (frames.MaxData limit) a = handed coming.time (frames.MaxData limit) a
  applied coming id (frames.MaxStreamData stream limit) a = handed coming.time (frames.MaxStreamData stream limit) a
  applied coming id (frames.MaxStreams dir limit) a = handed coming.time (frames.MaxStreams dir limit) a
  applied coming id (frames.StreamDataBlocked stream limit) a = handed coming.time (frames.StreamDataBlocked stream limit) a
  applied coming id (frames.StreamsBlocked dir limit) a = handed coming.time (frames.StreamsBlocked dir limit) a
  applied coming id (frames.Datagram body) a = handed coming.time (frames.Datagram body) a
  applied coming id (frames.NewConnectionId new) a = inserted coming.time new a
  applied coming id (frames.RetireConnectionId n) a = retired coming.time n a
  applied coming id f a = here a

  one_frame : (coming : Coming) (id : SpaceId) (read : TypedValue) (a : At t) → Leaves a (frame_after m coming id read a)
  one_frame coming id read a =
      stops coming.time (stop_in a.state.setup.fixed.side id (next_number a.state.numbers id) a.state.numbers.filter.last read.ty read.frame) (applied_after m coming id read.frame) a (applied coming id read.frame a)

  end_holds : (coming : Coming) (id : SpaceId) (last : Option ConnectionError) (a : At t) → R a (end_after m coming id (Reads last a))
  unfolding closed_in_data
  end_holds coming id None a = progress coming id a
  end_holds coming id (Some why) a = in_data_by coming.time why a (is_open a.state.life.state)

  ended_holds : (coming : Coming) (id : SpaceId) (items : List Item) (a b : At t) → R a b → R a (end_after m coming id (items_after m coming id items (Ended b)))
  ended_holds coming id items a b h = subst (λ (c : Course t). R a (end_after m coming id c)) (sym (ended_stays m coming id items b)) h

  behind_holds : (coming : Coming) (id : SpaceId) (items : List Item) (last : Option ConnectionError) (a : At t) (x : Behind t) → Leaves a x →
      ((c : Option ConnectionError) (b : At t) → R b (end_after m coming id (items_after m coming id items (Reads c b)))) → R a (end_after m coming id (items_after m coming id items (course_with last x)))
  behind_holds coming id items last a (Goes b) h others = next a b _ h (others last b)
  behind_holds coming id items last a (Closes why b) h others = next a b _ h (others (Some why) b)
  behind_holds coming id items last a (Ends b) h others = ended_holds coming id items a b h

  items_hold : (coming : Coming) (id : SpaceId) (items : List Item) (last : Option ConnectionError) (a : At t) → R a (end_after m coming id (items_after m coming id items (Reads last a)))
  items_hold coming id [] last a = end_holds coming id last a
  items_hold coming id (Err fault ∷ items) last a = ended_holds coming id items a _ (stopped coming.time (encoding_error_at fault.ty) a)
  items_hold coming id (Ok read ∷ items) last a = behind_holds coming id items last a (frame_after m coming id read a) (one_frame coming id read a) (λ c b. items_hold coming id items c b)

  pub payload_walked : (coming : Coming) (id : SpaceId) (payload : List ℕ) (a : At t) → R a (payload_after m coming id payload a)
  unfolding payload_after
  payload_walked coming id [] a = stopped coming.time _ a
  payload_walked coming id (b ∷ bytes) a = items_hold coming id (items_of (b ∷ bytes)) None a
