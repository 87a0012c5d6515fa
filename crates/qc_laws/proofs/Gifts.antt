-- The frames of a packet give to the layers what their applied ones give, and nothing else that the packet does gives anything.
use Rattle.std.proofs.Common.{◌≡◌, ℕ, List, [], ◌∷◌, ◌++◌, length, refl, ap, sym, ◌∙◌, subst, Bool, true, false, Option, Some, None, if◌then◌else◌, append_assoc, append-nil}
use Rattle.std.specs.Prelude.{Result, Ok, Err}
use Rattle.qc_assembler.specs.Assembly.{inserted}
use Rattle.qc_base.specs.declared.transport_error.TransportError.{TransportError}
use Rattle.qc_base.specs.declared.side.SpaceId.{SpaceId}
use Rattle.qc_base.specs.declared.side.SpaceId.TheVariants.{Initial, Handshake, «Data»}
use Rattle.qc_flight.specs.Packets.{Entry}
use Rattle.qc_frame.specs.Frame.{AckValue, FrameValue, TypedValue}
use Rattle.qc_frame.specs.FrameSpelling.{spelling}
use Rattle.qc_frame.specs.Payload.{Item, items_of}
use Rattle.qc_frame.specs.declared.frames.FrameOf.TheVariants as frames
use Rattle.qc_recovery.specs.Steps.{After, path_dropped}
use Rattle.qc_state.specs.declared.coming.Coming.{Coming}
use Rattle.qc_state.specs.declared.deeds.Did.{Did}
use Rattle.qc_state.specs.declared.deeds.Did.TheVariants as did
use Rattle.qc_state.specs.declared.deeds.Layer.TheVariants as layer
use Rattle.qc_state.specs.declared.keys.KeyGroup.{KeyGroup}
use Rattle.qc_state.specs.declared.life.ConnectionError.{ConnectionError}
use Rattle.qc_state.specs.declared.life.ConnectionError.TheVariants as lost
use Rattle.qc_state.specs.declared.lower.Lower.{Lower}
use Rattle.qc_state.specs.declared.numbers.Numbers.{Numbers}
use Rattle.qc_state.specs.declared.paths.Paths.{Paths}
use Rattle.qc_state.specs.Keys.{keys_dropped, key_acked}
use Rattle.qc_state.specs.Life.{is_established, is_open, data_ready}
use Rattle.qc_state.specs.Lower.{bytes_came, datagrams_stepped, flight_dropped, frame_handed, handed_stop, packets_settled, ready_bytes, session_read, stream_of, streams_stepped, ids_stepped}
use Rattle.qc_state.specs.Moves.{Move, Ack, Arm, Come, Confirm, Establish, Forget, Give, Learn, PeerCloses, Owe, Read, Ready, Shut, Tell, Token, Want, Write, MayMove, armed_after, armed_with, deeds_move, keys_move, life_move, lower_move, move_to, numbers_move, paths_move, setup_move, state_move, Hand, told_to_streams, Insert, Switch, Retire}
use Rattle.qc_state.specs.Numbers.{next_number, number_acked}
use Rattle.qc_state.specs.Paths.{path_kept, path_named}
use Rattle.qc_laws.specs.PieceLaws.{Goes, Last, Outcome, Refused, applied_in, applied_with, close_outcome, gift_of, gifts_of, given_in, kind_outcome, outcome_of, payload_gifts, pieces_in, read_behind, read_outcome, refused_or, session_gift, unless_refused, unless_stopped, view_behind, switched_behind}
use Rattle.qc_state.specs.Receiving.{acked_after, applied_after, close_given, token_given, closed_in_data, confirmed_after, crypto_stop, crypto_stop_of, end_after, expected_below, expected_space, items_after, left_after, payload_after, rearmed_after, settled_after, stop_in, Behind, close_after, ended_by, answered_after, bytes_given, kept_after, frame_after, course_with, handed_after, refused_after, inserted_after, retired_after, switched_after}
use Rattle.qc_state.specs.Receiving as receiving
use Rattle.qc_state.specs.Recovering.{around_of, is_validated_by_peer, settled_by}
use Rattle.qc_state.specs.Stopping.{encoding_error_at, given_after, stopped_after}
use Rattle.qc_state.specs.Types.{Types, Meaning}
use Rattle.qc_state.specs.View.{View, At, at}
use Rattle.qc_state.proofs.Ends.{holds_armed_now, holds_given, holds_stopped}
use Rattle.qc_state.proofs.OpenPackets.{ended_stays}
use Rattle.qc_state.proofs.Progresses.{holds_progress}
use Rattle.qc_state.proofs.PacketMoves.{IsProgress}
use Rattle.qc_state.proofs.ReceivedMoves.{IsEnding}
use Rattle.qc_state.proofs.Telling.{told_appends}
use Rattle.qc_state.specs.StreamFrames.{acked_steps, lost_steps}
use Rattle.qc_state.specs.Streams.{steps_of_frame, streams_stop}
use Rattle.qc_streams.specs.Waits as steps
use Rattle.qc_laws.proofs.StreamCalls.{handed_told, heard_state, named_state, retired_state}
use Rattle.qc_state.specs.Datagrams.{shrunk_by, tells_datagram}
use Rattle.qc_datagrams.specs.Steps as datagram
use Rattle.qc_cids.specs.Cids.{asks_one, next_token, token_by}
use Rattle.qc_cids.specs.Steps as cids
use Rattle.qc_frame.specs.declared.frames.NewConnectionId.{NewConnectionId}
use Rattle.qc_ids.specs.CidQueue.{active_of}
use Rattle.qc_ids.specs.LocalCids.{may_retire}
use Rattle.qc_state.specs.Ids.{active_limit, insert_stop, lost_ids, retire_stop, switches_for}
use Rattle.qc_state.specs.declared.setup.Setup.{Setup}
use Rattle.rand_core.specs.Stream.{Stream}

-- ---- lists of deeds

pub pieces_append : (ds es : List Did) → pieces_in (ds ++ es) ≡ pieces_in ds ++ pieces_in es
pieces_append [] es = refl
pieces_append (did.Piece space number v ∷ ds) es = ap (λ (l : List Did). did.Piece space number v ∷ l) (pieces_append ds es)
pieces_append (did.Sealed space number epoch early fs ∷ ds) es = pieces_append ds es
pieces_append (did.Gave to body ∷ ds) es = pieces_append ds es
pieces_append (did.Rose life ∷ ds) es = pieces_append ds es
pieces_append (did.Lost why ∷ ds) es = pieces_append ds es
pieces_append (did.Quiet why ∷ ds) es = pieces_append ds es

given_append : (ds es : List Did) → given_in (ds ++ es) ≡ given_in ds ++ given_in es
given_append [] es = refl
given_append (did.Gave to body ∷ ds) es = ap (λ (l : List Did). did.Gave to body ∷ l) (given_append ds es)
given_append (did.Piece space number v ∷ ds) es = given_append ds es
given_append (did.Sealed space number epoch early fs ∷ ds) es = given_append ds es
given_append (did.Rose life ∷ ds) es = given_append ds es
given_append (did.Lost why ∷ ds) es = given_append ds es
given_append (did.Quiet why ∷ ds) es = given_append ds es

-- ---- what some moves leave

came_stream : {S : Type 0} (id : SpaceId) (l : Lower S) (offset : ℕ) (body : List ℕ) → stream_of (bytes_came l id offset body) id ≡ inserted offset body (stream_of l id)
unfolding stream_of bytes_came
came_stream Initial l offset body = refl
came_stream Handshake l offset body = refl
came_stream Data l offset body = refl

module _ {t : Types} where
  -- ---- what is given from one moment to another

  -- these gifts were given, and no packet was told of
  pub record Gives (gifts : List Did) (a b : At t) : Type 0 where
    pub since : List Did
    pub appended : b.did ≡ a.did ++ since
    pub pieces : pieces_in since ≡ []
    pub given : given_in since ≡ gifts

  pub gives_here : (a : At t) → Gives [] a a
  gives_here a = record { since = []; appended = sym (append-nil a.did); pieces = refl; given = refl }

  gives_next : (gifts more : List Did) (a b c : At t) → Gives gifts a b → Gives more b c → Gives (gifts ++ more) a c
  gives_next gifts more a b c g h = record {
    since = g.since ++ h.since;
    appended = h.appended ∙ ap (λ (ds : List Did). ds ++ h.since) g.appended ∙ append_assoc a.did g.since h.since;
    pieces = pieces_append g.since h.since ∙ ap (λ (ds : List Did). ds ++ pieces_in h.since) g.pieces ∙ h.pieces;
    given = given_append g.since h.since ∙ ap (λ (ds : List Did). ds ++ given_in h.since) g.given ∙ ap (λ (ds : List Did). gifts ++ ds) h.given;
  }

  -- what gives nothing, before and behind
  pub quiet_next : (a b c : At t) → Gives [] a b → Gives [] b c → Gives [] a c
  quiet_next a b c g h = gives_next [] [] a b c g h

  pub quiet_gives : (gifts : List Did) (a b c : At t) → Gives [] a b → Gives gifts b c → Gives gifts a c
  quiet_gives gifts a b c g h = gives_next [] gifts a b c g h

  gives_quiet : (gifts : List Did) (a b c : At t) → Gives gifts a b → Gives [] b c → Gives gifts a c
  gives_quiet gifts a b c g h = subst (λ (ds : List Did). Gives ds a c) (append-nil gifts) (gives_next gifts [] a b c g h)

  pub gives_move : (gifts : List Did) (x : Move t) (a : At t) → pieces_in (deeds_move x a.state) ≡ [] → given_in (deeds_move x a.state) ≡ gifts → Gives gifts a (move_to x a)
  unfolding move_to
  gives_move gifts x a none gave = record { since = deeds_move x a.state; appended = told_appends a.did (deeds_move x a.state); pieces = none; given = gave }

  pub ending_quiet : (x : Move t) → IsEnding x → (a : At t) → MayMove x a.state → Gives [] a (move_to x a)
  unfolding deeds_move
  ending_quiet (Forget id) e a may = gives_move [] (Forget id) a refl refl
  ending_quiet (Arm at) e a may = gives_move [] (Arm at) a refl refl
  ending_quiet (Shut time close) e a may = gives_move [] (Shut time close) a refl refl
  ending_quiet (Give why) e a may = gives_move [] (Give why) a refl refl
  ending_quiet _ e a may = absurd e

  progress_quiet : (m : Meaning t) (time : ℕ) (space : SpaceId) (x : Move t) (a : At t) → IsProgress m time space x a.state → MayMove x a.state → Gives [] a (move_to x a)
  unfolding deeds_move
  progress_quiet m time space (Forget id) a e may = gives_move [] (Forget id) a refl refl
  progress_quiet m time space (Arm at) a e may = gives_move [] (Arm at) a refl refl
  progress_quiet m time space (Write bytes keys session) a e may = gives_move [] (Write bytes keys session) a refl refl
  progress_quiet m time space (Token token) a e may = gives_move [] (Token token) a refl refl
  progress_quiet m time space (Learn parameters) a e may = gives_move [] (Learn parameters) a refl refl
  progress_quiet m time space (Want at count) a e may = gives_move [] (Want at count) a refl refl
  progress_quiet m time space Confirm a e may = gives_move [] Confirm a refl refl
  progress_quiet m time space Establish a e may = gives_move [] Establish a refl refl
  progress_quiet m time space (Shut at close) a e may = gives_move [] (Shut at close) a refl refl
  progress_quiet m time space (Give why) a e may = gives_move [] (Give why) a refl refl
  progress_quiet m time space _ a e may = absurd e

  pub stopped_quiet : (time : ℕ) (error : TransportError) (a : At t) → Gives [] a (stopped_after time error a)
  stopped_quiet time error a = holds_stopped (Gives []) gives_here quiet_next ending_quiet time error a

  pub given_quiet : (why : ConnectionError) (a : At t) → Gives [] a (given_after why a)
  given_quiet why a = holds_given (Gives []) gives_here quiet_next ending_quiet why a

  pub armed_quiet : (time : ℕ) (a : At t) → Gives [] a (armed_after time a)
  armed_quiet time a = holds_armed_now (Gives []) gives_here quiet_next ending_quiet time a

  left_by : (time : ℕ) (why : ConnectionError) (a : At t) (b : Bool) → Gives [] a (if b then given_after why (move_to (PeerCloses time) a) else a)
  unfolding deeds_move
  left_by time why a true = let b : At t = move_to (PeerCloses time) a in quiet_next a b _ (gives_move [] (PeerCloses time) a refl refl) (given_quiet why b)
  left_by time why a false = gives_here a

  pub left_quiet : (time : ℕ) (why : ConnectionError) (a : At t) → Gives [] a (left_after time why a)
  unfolding left_after
  left_quiet time why a = left_by time why a (is_open a.state.life.state)

  in_data_by : (time : ℕ) (why : ConnectionError) (a : At t) (b : Bool) → Gives [] a (if b then move_to Owe (left_after time why a) else a)
  unfolding deeds_move
  in_data_by time why a true = let b : At t = left_after time why a in quiet_next a b _ (left_quiet time why a) (gives_move [] Owe b refl refl)
  in_data_by time why a false = gives_here a

  end_quiet : (m : Meaning t) (coming : Coming) (id : SpaceId) (close : Option ConnectionError) (a : At t) → Gives [] a (end_after m coming id (receiving.Reads close a))
  unfolding closed_in_data
  end_quiet m coming id None a = holds_progress m coming.time id (Gives []) gives_here quiet_next (progress_quiet m coming.time id) a
  end_quiet m coming id (Some why) a = in_data_by coming.time why a (is_open a.state.life.state)

  -- ---- what decides on the frames of a packet

  -- a view stands as another one, but for its timers, what waits, and what is told of its life
  pub record Along (v w : View t) : Type 0 where
    pub numbers : w.numbers ≡ v.numbers
    pub keys : w.keys ≡ v.keys
    pub life : w.life.state ≡ v.life.state
    pub paths : w.paths ≡ v.paths
    pub setup : w.setup ≡ v.setup
    pub lower : w.lower ≡ v.lower

  pub along_same : (v w : View t) → w ≡ v → Along v w
  along_same v w is = record {
    numbers = ap (λ (s : View t). s.numbers) is;
    keys = ap (λ (s : View t). s.keys) is;
    life = ap (λ (s : View t). s.life.state) is;
    paths = ap (λ (s : View t). s.paths) is;
    setup = ap (λ (s : View t). s.setup) is;
    lower = ap (λ (s : View t). s.lower) is;
  }

  -- moves that leave it so
  along_tell : (v : View t) (d : Did) (a : At t) → Along v a.state → Along v (move_to (Tell d) a).state
  unfolding move_to state_move numbers_move keys_move life_move paths_move setup_move lower_move
  along_tell v d a h = record { numbers = h.numbers; keys = h.keys; life = h.life; paths = h.paths; setup = h.setup; lower = h.lower }

  along_arm : (v : View t) (time : ℕ) (a : At t) → Along v a.state → Along v (armed_after time a).state
  unfolding armed_after armed_with move_to state_move numbers_move keys_move life_move paths_move setup_move lower_move
  along_arm v time a h = record { numbers = h.numbers; keys = h.keys; life = h.life; paths = h.paths; setup = h.setup; lower = h.lower }

  along_ready : (v : View t) (a : At t) → Along v a.state → Along v (move_to Ready a).state
  unfolding move_to state_move numbers_move keys_move life_move paths_move setup_move lower_move data_ready
  along_ready v a h = record { numbers = h.numbers; keys = h.keys; life = h.life; paths = h.paths; setup = h.setup; lower = h.lower }

  -- and moves that change both alike
  along_come : (id : SpaceId) (offset : ℕ) (body : List ℕ) (v : View t) (a : At t) → Along v a.state → Along (state_move (Come id offset body) v) (move_to (Come id offset body) a).state
  unfolding move_to state_move numbers_move keys_move life_move paths_move setup_move lower_move
  along_come id offset body v a h = record { numbers = h.numbers; keys = h.keys; life = h.life; paths = h.paths; setup = h.setup; lower = ap (λ (l : Lower t.S). bytes_came l id offset body) h.lower }

  along_read : (m : Meaning t) (id : SpaceId) (count : ℕ) (bytes : List ℕ) (v w : View t) → Along v w →
      Along (state_move (Read id count (m.after_read v.lower.session bytes)) v) (state_move (Read id count (m.after_read w.lower.session bytes)) w)
  unfolding state_move numbers_move keys_move life_move paths_move setup_move lower_move
  along_read m id count bytes v w h = record {
    numbers = h.numbers;
    keys = h.keys;
    life = h.life;
    paths = h.paths;
    setup = h.setup;
    lower = ap (λ (l : Lower t.S). session_read l id count (m.after_read l.session bytes)) h.lower;
  }

  along_forget : (space : SpaceId) (v : View t) (a : At t) → Along v a.state → Along (state_move (Forget space) v) (move_to (Forget space) a).state
  unfolding move_to state_move numbers_move keys_move life_move paths_move setup_move lower_move
  along_forget space v a h = record {
    numbers = h.numbers;
    keys = ap (λ (k : KeyGroup t.H t.P). keys_dropped k space) h.keys;
    life = h.life;
    paths = ap (λ (p : Paths t.C). path_kept p (path_dropped space p.current.kept)) h.paths;
    setup = h.setup;
    lower = ap (λ (l : Lower t.S). flight_dropped l space) h.lower;
  }

  along_ack : (id : SpaceId) (n : ℕ) (after : After t.C) (v w : View t) → Along v w → Along (state_move (Ack id n after) v) (state_move (Ack id n after) w)
  unfolding state_move numbers_move keys_move life_move paths_move setup_move lower_move
  along_ack id n after v w h = record {
    numbers = ap (λ (x : Numbers). number_acked x id n) h.numbers;
    keys = ap (λ (k : KeyGroup t.H t.P). key_acked k id n) h.keys;
    life = h.life;
    paths = ap (λ (p : Paths t.C). path_kept p after.path) h.paths;
    setup = h.setup;
    lower = λ j. datagrams_stepped (shrunk_by (h.paths j).current.kept.mtud.current (record (h.paths j).current { kept = after.path }) (h.setup j).peer) (ids_stepped (lost_ids after.lost) (streams_stepped (acked_steps after.acked ++ lost_steps after.lost) (packets_settled (h.lower j) after)));
  }

  along_hand : (f : FrameValue) (v : View t) (a : At t) → Along v a.state → Along (state_move (Hand f) v) (move_to (Hand f) a).state
  unfolding move_to state_move numbers_move keys_move life_move paths_move setup_move lower_move
  along_hand f v a h = record {
    numbers = h.numbers;
    keys = h.keys;
    life = heard_state (tells_datagram f a.state.lower.datagrams) a.state.life ∙ h.life ∙ sym (heard_state (tells_datagram f v.lower.datagrams) v.life);
    paths = h.paths;
    setup = h.setup;
    lower = ap (λ (l : Lower t.S). frame_handed f l) h.lower;
  }

  along_insert : (new : NewConnectionId) (v : View t) (a : At t) → Along v a.state → Along (state_move (Insert new) v) (move_to (Insert new) a).state
  unfolding move_to state_move numbers_move keys_move life_move paths_move setup_move lower_move
  along_insert new v a h = record {
    numbers = h.numbers;
    keys = h.keys;
    life = named_state (token_by new a.state.lower.ids.remote) a.state.life a.state.paths.current.remote ∙ h.life ∙ sym (named_state (token_by new v.lower.ids.remote) v.life v.paths.current.remote);
    paths = λ j. path_named (h.paths j) (active_of (cids.after_step (cids.NewCame new) (h.lower j).ids).remote);
    setup = h.setup;
    lower = ap (λ (l : Lower t.S). ids_stepped (cids.NewCame new ∷ []) l) h.lower;
  }

  along_switch : (v : View t) (a : At t) → Along v a.state → Along (state_move Switch v) (move_to Switch a).state
  unfolding move_to state_move numbers_move keys_move life_move paths_move setup_move lower_move
  along_switch v a h = record {
    numbers = h.numbers;
    keys = h.keys;
    life = named_state (next_token a.state.lower.ids.remote) a.state.life a.state.paths.current.remote ∙ h.life ∙ sym (named_state (next_token v.lower.ids.remote) v.life v.paths.current.remote);
    paths = λ j. path_named (h.paths j) (active_of (cids.after_step cids.Switched (h.lower j).ids).remote);
    setup = h.setup;
    lower = ap (λ (l : Lower t.S). ids_stepped (cids.Switched ∷ []) l) h.lower;
  }

  along_retire : (time n : ℕ) (v : View t) (a : At t) → Along v a.state → Along (state_move (Retire time n) v) (move_to (Retire time n) a).state
  unfolding move_to state_move numbers_move keys_move life_move paths_move setup_move lower_move
  along_retire time n v a h = record {
    numbers = h.numbers;
    keys = h.keys;
    life = retired_state (may_retire n a.state.lower.ids.local) a.state.life time n (asks_one (active_limit a.state.setup.peer) n a.state.lower.ids) ∙ h.life
        ∙ sym (retired_state (may_retire n v.lower.ids.local) v.life time n (asks_one (active_limit v.setup.peer) n v.lower.ids));
    paths = h.paths;
    setup = h.setup;
    lower = λ j. ids_stepped (cids.RetireCame (active_limit (h.setup j).peer) n ∷ []) (h.lower j);
  }

  -- a frame is neither of the streams nor of the datagrams
  along_idle : (f : FrameValue) (v w : View t) → ((l : Lower t.S) → frame_handed f l ≡ l) → Along v w → Along (state_move (Hand f) v) w
  unfolding state_move numbers_move keys_move life_move paths_move setup_move lower_move
  along_idle f v w idle h = record {
    numbers = h.numbers;
    keys = h.keys;
    life = h.life ∙ sym (heard_state (tells_datagram f v.lower.datagrams) v.life);
    paths = h.paths;
    setup = h.setup;
    lower = h.lower ∙ sym (idle v.lower);
  }

  -- a frame stops by its kind alike in both
  stop_same : (v w : View t) (id : SpaceId) (type : ℕ) (f : FrameValue) → Along v w →
      stop_in w.setup.fixed.side id (next_number w.numbers id) w.numbers.filter.last type f ≡ stop_in v.setup.fixed.side id (next_number v.numbers id) v.numbers.filter.last type f
  stop_same v w id type f h = λ j. stop_in (h.setup j).fixed.side id (next_number (h.numbers j) id) (h.numbers j).filter.last type f

  crypto_same : (v w : View t) (id : SpaceId) (offset : ℕ) (body : List ℕ) → Along v w → crypto_stop w id offset body ≡ crypto_stop v id offset body
  unfolding crypto_stop expected_space
  crypto_same v w id offset body h =
      λ j. crypto_stop_of (h.setup j).fixed.crypto_buffer_size (if is_established (h.life j) then «Data» else expected_below (h.keys j).highest) (stream_of (h.lower j) id) id offset body

  settled_same : (m : Meaning t) (time : ℕ) (id : SpaceId) (ack : AckValue) (v w : View t) → Along v w → settled_by m time id ack w ≡ settled_by m time id ack v
  unfolding settled_by around_of is_validated_by_peer
  settled_same m time id ack v w h = λ j. settled_by m time id ack (record w { numbers = h.numbers j; keys = h.keys j; life = record w.life { state = h.life j }; paths = h.paths j; setup = h.setup j; lower = h.lower j })

module _ {t : Types} (m : Meaning t) (coming : Coming) (id : SpaceId) where
  -- ---- frames

  -- a frame of which this becomes gives these gifts, unless it is refused, and where the packet goes on, this view decides on the frames
  -- behind it
  abbrev Leaves : (gifts : List Did) → View t → Outcome → At t → Behind t → Type 0
  Leaves gifts v Refused a (receiving.Ends b) = Gives [] a b
  Leaves gifts v Last a (receiving.Ends b) = Gives gifts a b
  Leaves gifts v Goes a (receiving.Goes b) = Gives gifts a b × Along v b.state
  Leaves gifts v Goes a (receiving.Closes why b) = Gives gifts a b × Along v b.state
  Leaves gifts v _ a _ = ⊥

  -- so it does behind what gives nothing
  leaves_next : (gifts : List Did) (v : View t) (o : Outcome) (a b : At t) (x : Behind t) → Gives [] a b → Leaves gifts v o b x → Leaves gifts v o a x
  leaves_next gifts v Refused a b (receiving.Ends c) g h = quiet_next a b c g h
  leaves_next gifts v Last a b (receiving.Ends c) g h = quiet_gives gifts a b c g h
  leaves_next gifts v Goes a b (receiving.Goes c) g h = (quiet_gives gifts a b c g h.0, h.1)
  leaves_next gifts v Goes a b (receiving.Closes why c) g h = (quiet_gives gifts a b c g h.0, h.1)
  leaves_next gifts v _ a b _ g h = absurd h

  -- an error refuses a frame
  ended_leaves : (gifts : List Did) (v : View t) (o : Outcome) (stop : Option TransportError) (does : At t → Behind t) (a : At t) → Leaves gifts v o a (does a) → Leaves gifts v (refused_or stop o) a (ended_by coming.time stop does a)
  ended_leaves gifts v o (Some error) does a h = stopped_quiet coming.time error a
  ended_leaves gifts v o None does a h = h

  -- the session answered a read
  answered_leaves : (gifts : List Did) (v : View t) (answer : Result Bool TransportError) (a c : At t) → Gives gifts a c → Along v c.state → Leaves gifts v (unless_refused answer) a (answered_after coming answer c)
  unfolding deeds_move
  answered_leaves gifts v (Err error) a c gave along = gives_quiet gifts a c _ gave (stopped_quiet coming.time error c)
  answered_leaves gifts v (Ok true) a c gave along = (gives_quiet gifts a c (move_to Ready c) gave (gives_move [] Ready c refl refl), along_ready v c along)
  answered_leaves gifts v (Ok false) a c gave along = (gave, along)

  -- the session is given these bytes, if there are any
  bytes_leave : (v : View t) (bytes : List ℕ) (a : At t) → Along v a.state → Leaves (session_gift bytes) (read_behind m id bytes v) (read_outcome m v.lower.session bytes) a (bytes_given m coming id bytes a)
  unfolding deeds_move move_to state_move lower_move
  bytes_leave v [] a along = (gives_here a, along)
  bytes_leave v (x ∷ bytes) a along =
      let gave : Did = did.Gave layer.Session (x ∷ bytes) in
      let b : At t = move_to (Tell gave) a in
      let c : At t = move_to (Read id (length (x ∷ bytes)) (m.after_read a.state.lower.session (x ∷ bytes))) b in
      let told : Gives (gave ∷ []) a b = gives_move (gave ∷ []) (Tell gave) a refl refl in
      let read : Gives [] b c = gives_move [] (Read id (length (x ∷ bytes)) (m.after_read a.state.lower.session (x ∷ bytes))) b refl refl in
      let behind : Along (read_behind m id (x ∷ bytes) v) c.state = along_read m id (length (x ∷ bytes)) (x ∷ bytes) v b.state (along_tell v gave a along) in
      subst (λ (l : Lower t.S). Leaves (gave ∷ []) (read_behind m id (x ∷ bytes) v) (unless_refused (m.reads l.session (x ∷ bytes))) a (answered_after coming (m.reads a.state.lower.session (x ∷ bytes)) c)) along.lower
      (answered_leaves (gave ∷ []) (read_behind m id (x ∷ bytes) v) (m.reads a.state.lower.session (x ∷ bytes)) a c (gives_quiet (gave ∷ []) a b c told read) behind)

  -- bytes of a CRYPTO frame that stops nothing
  kept_leaves : (v : View t) (offset : ℕ) (body : List ℕ) (a : At t) → Along v a.state →
      let bytes : List ℕ = ready_bytes (inserted offset body (stream_of v.lower id)) in
      Leaves (session_gift bytes) (read_behind m id bytes (state_move (Come id offset body) v)) (read_outcome m v.lower.session bytes) a (kept_after m coming id offset body a)
  unfolding kept_after deeds_move move_to state_move lower_move bytes_came
  kept_leaves v offset body a along =
      let bytes : List ℕ = ready_bytes (inserted offset body (stream_of v.lower id)) in
      let w : View t = state_move (Come id offset body) v in
      let b : At t = move_to (Come id offset body) a in
      let ready : ready_bytes (stream_of b.state.lower id) ≡ bytes = ap ready_bytes (came_stream id a.state.lower offset body ∙ ap (λ (l : Lower t.S). inserted offset body (stream_of l id)) along.lower) in
      leaves_next (session_gift bytes) (read_behind m id bytes w) (read_outcome m v.lower.session bytes) a b (bytes_given m coming id (ready_bytes (stream_of b.state.lower id)) b) (gives_move [] (Come id offset body) a refl refl)
      (subst (λ (l : List ℕ). Leaves (session_gift bytes) (read_behind m id bytes w) (read_outcome m v.lower.session bytes) b (bytes_given m coming id l b)) (sym ready) (bytes_leave w bytes b (along_come id offset body v a along)))

  -- the streams or the datagrams take a frame, or refuse it
  stopped_leaves : (gifts : List Did) (v : View t) (stop : Option TransportError) (a b : At t) → Gives gifts a b → Along v b.state → Leaves gifts v (unless_stopped stop) a (refused_after coming.time stop b)
  stopped_leaves gifts v None a b gave along = (gave, along)
  stopped_leaves gifts v (Some error) a b gave along = gives_quiet gifts a b _ gave (stopped_quiet coming.time error b)

  handed_leaves : (v : View t) (f : FrameValue) (a : At t) → Along v a.state → Leaves (told_to_streams f) (state_move (Hand f) v) (unless_stopped (handed_stop f v.lower)) a (handed_after coming.time f a)
  unfolding handed_after deeds_move
  handed_leaves v f a along =
      let gifts : List Did = told_to_streams f in
      let stop : Option TransportError = handed_stop f a.state.lower in
      let b : At t = move_to (Hand f) a in
      let gave : Gives gifts a b = gives_move gifts (Hand f) a (handed_told (λ ds. pieces_in ds ≡ []) f refl (λ body. refl)) (handed_told (λ ds. given_in ds ≡ ds) f refl (λ body. refl)) in
      subst (λ (l : Lower t.S). Leaves gifts (state_move (Hand f) v) (unless_stopped (handed_stop f l)) a (refused_after coming.time stop b)) along.lower
      (stopped_leaves gifts (state_move (Hand f) v) stop a b gave (along_hand f v a along))

  -- the ids take a NEW_CONNECTION_ID, or refuse it
  switched_leaves : (gifts : List Did) (switches : Bool) (v : View t) (a b : At t) → Gives gifts a b → Along v b.state → Leaves gifts (switched_behind switches v) Goes a (receiving.Goes (switched_after switches b))
  unfolding deeds_move
  switched_leaves gifts true v a b gave along = (gives_quiet gifts a b (move_to Switch b) gave (gives_move [] Switch b refl refl), along_switch v b along)
  switched_leaves gifts false v a b gave along = (gave, along)

  taken_leaves : (gifts : List Did) (switches : Bool) (v : View t) (stop : Option TransportError) (a b : At t) → Gives gifts a b → Along v b.state →
      Leaves gifts (switched_behind switches v) (unless_stopped stop) a (ended_by coming.time stop (λ c. receiving.Goes (switched_after switches c)) b)
  taken_leaves gifts switches v None a b gave along = switched_leaves gifts switches v a b gave along
  taken_leaves gifts switches v (Some error) a b gave along = gives_quiet gifts a b _ gave (stopped_quiet coming.time error b)

  inserted_leaves : (v : View t) (new : NewConnectionId) (a : At t) → Along v a.state →
      Leaves (did.Gave layer.Ids (spelling (frames.NewConnectionId new)) ∷ []) (switched_behind (switches_for v.setup.fixed.side new v.lower.ids) (state_move (Insert new) v)) (unless_stopped (insert_stop new v.lower.ids)) a
      (inserted_after coming.time new a)
  unfolding inserted_after deeds_move
  inserted_leaves v new a along =
      let gifts : List Did = did.Gave layer.Ids (spelling (frames.NewConnectionId new)) ∷ [] in
      let w : View t = state_move (Insert new) v in
      let b : At t = move_to (Insert new) a in
      let gave : Gives gifts a b = gives_move gifts (Insert new) a refl refl in
      subst (λ (l : Lower t.S). Leaves gifts (switched_behind (switches_for v.setup.fixed.side new l.ids) w) (unless_stopped (insert_stop new l.ids)) a (inserted_after coming.time new a)) along.lower
      (subst (λ (x : Setup Stream). Leaves gifts (switched_behind (switches_for x.fixed.side new a.state.lower.ids) w) (unless_stopped (insert_stop new a.state.lower.ids)) a (inserted_after coming.time new a)) along.setup
      (taken_leaves gifts (switches_for a.state.setup.fixed.side new a.state.lower.ids) w (insert_stop new a.state.lower.ids) a b gave (along_insert new v a along)))

  -- and a RETIRE_CONNECTION_ID
  retired_leaves : (v : View t) (n : ℕ) (a : At t) → Along v a.state →
      Leaves (did.Gave layer.Ids (spelling (frames.RetireConnectionId n)) ∷ []) (state_move (Retire coming.time n) v) (unless_stopped (retire_stop n v.lower.ids)) a (retired_after coming.time n a)
  unfolding retired_after deeds_move
  retired_leaves v n a along =
      let gifts : List Did = did.Gave layer.Ids (spelling (frames.RetireConnectionId n)) ∷ [] in
      let stop : Option TransportError = retire_stop n a.state.lower.ids in
      let w : View t = state_move (Retire coming.time n) v in
      let b : At t = move_to (Retire coming.time n) a in
      let gave : Gives gifts a b = gives_move gifts (Retire coming.time n) a refl refl in
      subst (λ (l : Lower t.S). Leaves gifts w (unless_stopped (retire_stop n l.ids)) a (refused_after coming.time stop b)) along.lower
      (stopped_leaves gifts w stop a b gave (along_retire coming.time n v a along))

  -- an acknowledgement
  rearmed_quiet : (v : View t) (acked : List Entry) (a : At t) → Along v a.state → Gives [] a (rearmed_after coming.time acked a) × Along v (rearmed_after coming.time acked a).state
  rearmed_quiet v [] a along = (gives_here a, along)
  rearmed_quiet v (e ∷ es) a along = (armed_quiet coming.time a, along_arm v coming.time a along)

  ack_leaves : (v : View t) (ack : AckValue) (a : At t) → Along v a.state →
      Gives (did.Gave layer.Recovery (spelling (frames.Ack ack)) ∷ []) a (acked_after m coming.time id ack a) × Along (state_move (Ack id ack.largest (settled_by m coming.time id ack v)) v) (acked_after m coming.time id ack a).state
  unfolding acked_after settled_after deeds_move move_to
  ack_leaves v ack a along =
      let gave : Did = did.Gave layer.Recovery (spelling (frames.Ack ack)) in
      let after : After t.C = settled_by m coming.time id ack a.state in
      let b : At t = move_to (Tell gave) a in
      let c : At t = move_to (Ack id ack.largest after) b in
      let d : At t = rearmed_after coming.time after.acked c in
      let behind : Along (state_move (Ack id ack.largest (settled_by m coming.time id ack v)) v) c.state =
      subst (λ (r : After t.C). Along (state_move (Ack id ack.largest r) v) c.state) (settled_same m coming.time id ack v a.state along) (along_ack id ack.largest after v b.state (along_tell v gave a along)) in
      let there = rearmed_quiet (state_move (Ack id ack.largest (settled_by m coming.time id ack v)) v) after.acked c behind in
      (gives_quiet (gave ∷ []) a b d (gives_move (gave ∷ []) (Tell gave) a refl refl) (quiet_next b c d (gives_move [] (Ack id ack.largest after) b refl refl) there.0), there.1)

  -- a HANDSHAKE_DONE
  done_leaves : (v : View t) (a : At t) → Along v a.state →
      Gives (did.Gave layer.Life (spelling frames.HandshakeDone) ∷ []) a (confirmed_after coming.time a) × Along (state_move (Forget Handshake) v) (confirmed_after coming.time a).state
  unfolding confirmed_after deeds_move
  done_leaves v a along =
      let gave : Did = did.Gave layer.Life (spelling frames.HandshakeDone) in
      let b : At t = move_to (Tell gave) a in
      let c : At t = move_to (Forget Handshake) b in
      let d : At t = armed_after coming.time c in
      let there : Along (state_move (Forget Handshake) v) d.state = along_arm (state_move (Forget Handshake) v) coming.time c (along_forget Handshake v b (along_tell v gave a along)) in
      (gives_quiet (gave ∷ []) a b d (gives_move (gave ∷ []) (Tell gave) a refl refl) (quiet_next b c d (gives_move [] (Forget Handshake) b refl refl) (armed_quiet coming.time c)), there)

  -- a close
  close_told : (f : FrameValue) (a : At t) → Gives (did.Gave layer.Life (spelling f) ∷ []) a (close_given f a)
  unfolding close_given deeds_move
  close_told f a = gives_move (did.Gave layer.Life (spelling f) ∷ []) (Tell (did.Gave layer.Life (spelling f))) a refl refl

  -- a NEW_TOKEN
  token_leaves : (v : View t) (f : FrameValue) (a : At t) → ((l : Lower t.S) → frame_handed f l ≡ l) → Along v a.state →
      Gives (did.Gave layer.Store (spelling f) ∷ []) a (token_given f a) × Along (state_move (Hand f) v) (token_given f a).state
  unfolding token_given deeds_move
  token_leaves v f a idle along =
      let gave : Did = did.Gave layer.Store (spelling f) in
      (gives_move (gave ∷ []) (Tell gave) a refl refl, along_idle f v (token_given f a).state idle (along_tell v gave a along))

  last_close : (f : FrameValue) (why : ConnectionError) (a : At t) → Gives (did.Gave layer.Life (spelling f) ∷ []) a (left_after coming.time why (close_given f a))
  last_close f why a = let b : At t = close_given f a in gives_quiet (did.Gave layer.Life (spelling f) ∷ []) a b _ (close_told f a) (left_quiet coming.time why b)

  close_leaves : (space : SpaceId) (v : View t) (f : FrameValue) (why : ConnectionError) (a : At t) → ((l : Lower t.S) → frame_handed f l ≡ l) → Along v a.state →
      Leaves (did.Gave layer.Life (spelling f) ∷ []) (state_move (Hand f) v) (close_outcome space) a (close_after coming space f why a)
  unfolding close_given
  close_leaves Initial v f why a idle along = last_close f why a
  close_leaves Handshake v f why a idle along = last_close f why a
  close_leaves Data v f why a idle along = (close_told f a, along_idle f v (close_given f a).state idle (along_tell v (did.Gave layer.Life (spelling f)) a along))

  -- a frame that its kind doesn't stop
  kind_leaves : (v : View t) (f : FrameValue) (a : At t) → Along v a.state → Leaves (gift_of (stream_of v.lower id) f) (view_behind m coming.time id f v) (kind_outcome m id f v) a (applied_after m coming id f a)
  unfolding applied_after handed_stop streams_stop frame_handed streams_stepped datagrams_stepped steps_of_frame steps.after datagram.after
  kind_leaves v (frames.Crypto offset body) a along =
      let bytes : List ℕ = ready_bytes (inserted offset body (stream_of v.lower id)) in
      let gifts : List Did = session_gift bytes in
      let behind : View t = read_behind m id bytes (state_move (Come id offset body) v) in
      let o : Outcome = read_outcome m v.lower.session bytes in
      subst (λ (stop : Option TransportError). Leaves gifts behind (refused_or stop o) a (ended_by coming.time (crypto_stop a.state id offset body) (kept_after m coming id offset body) a)) (crypto_same v a.state id offset body along)
      (ended_leaves gifts behind o (crypto_stop a.state id offset body) (kept_after m coming id offset body) a (kept_leaves v offset body a along))
  kind_leaves v (frames.Ack ack) a along = ack_leaves v ack a along
  kind_leaves v frames.HandshakeDone a along = done_leaves v a along
  kind_leaves v (frames.NewToken token) a along = token_leaves v (frames.NewToken token) a (λ l. refl) along
  kind_leaves v (frames.ConnectionClose code type reason) a along =
      close_leaves id v (frames.ConnectionClose code type reason) (lost.ConnectionClosed (record { error_code = code; frame_type = type; reason = reason })) a (λ l. refl) along
  kind_leaves v (frames.ApplicationClose code reason) a along = close_leaves id v (frames.ApplicationClose code reason) (lost.ApplicationClosed (record { error_code = code; reason = reason })) a (λ l. refl) along
  kind_leaves v (frames.ResetStream stream code size) a along = handed_leaves v (frames.ResetStream stream code size) a along
  kind_leaves v (frames.StopSending stream code) a along = handed_leaves v (frames.StopSending stream code) a along
  kind_leaves v (frames.Stream stream offset fin body) a along = handed_leaves v (frames.Stream stream offset fin body) a along
  kind_leaves v (frames.MaxData limit) a along = handed_leaves v (frames.MaxData limit) a along
  kind_leaves v (frames.MaxStreamData stream limit) a along = handed_leaves v (frames.MaxStreamData stream limit) a along
  kind_leaves v (frames.MaxStreams dir count) a along = handed_leaves v (frames.MaxStreams dir count) a along
  kind_leaves v (frames.StreamDataBlocked stream limit) a along = handed_leaves v (frames.StreamDataBlocked stream limit) a along
  kind_leaves v (frames.StreamsBlocked dir limit) a along = handed_leaves v (frames.StreamsBlocked dir limit) a along
  kind_leaves v (frames.Datagram body) a along = handed_leaves v (frames.Datagram body) a along
  kind_leaves v (frames.NewConnectionId new) a along = inserted_leaves v new a along
  kind_leaves v (frames.RetireConnectionId n) a along = retired_leaves v n a along
  kind_leaves v f a along = (gives_here a, along_idle f v a.state (λ l. refl) along)

  -- a frame
  frame_leaves : (v : View t) (read : TypedValue) (a : At t) → Along v a.state → Leaves (gift_of (stream_of v.lower id) read.frame) (view_behind m coming.time id read.frame v) (outcome_of m id read v) a (frame_after m coming id read a)
  frame_leaves v read a along =
      let gifts : List Did = gift_of (stream_of v.lower id) read.frame in
      let behind : View t = view_behind m coming.time id read.frame v in
      let o : Outcome = kind_outcome m id read.frame v in
      let stop : Option TransportError = stop_in a.state.setup.fixed.side id (next_number a.state.numbers id) a.state.numbers.filter.last read.ty read.frame in
      subst (λ (e : Option TransportError). Leaves gifts behind (refused_or e o) a (ended_by coming.time stop (applied_after m coming id read.frame) a)) (stop_same v a.state id read.ty read.frame along)
      (ended_leaves gifts behind o stop (applied_after m coming id read.frame) a (kind_leaves v read.frame a along))

  -- ---- the frames of a packet

  -- a frame ended the packet
  ended_gives : (gifts : List Did) (items : List Item) (a b : At t) → Gives gifts a b → Gives gifts a (end_after m coming id (items_after m coming id items (receiving.Ended b)))
  ended_gives gifts items a b h = subst (λ (c : receiving.Course t). Gives gifts a (end_after m coming id c)) (sym (ended_stays m coming id items b)) h

  -- behind what a frame leaves
  behind_gives : (v : View t) (f : FrameValue) (fs : List FrameValue) (items : List Item) (close : Option ConnectionError) (o : Outcome) (a : At t) (x : Behind t) →
      Leaves (gift_of (stream_of v.lower id) f) (view_behind m coming.time id f v) o a x →
      ((c : Option ConnectionError) (b : At t) → Along (view_behind m coming.time id f v) b.state → Gives (gifts_of m coming.time id fs (view_behind m coming.time id f v)) b (end_after m coming id (items_after m coming id items (receiving.Reads c b)))) →
      Gives (gifts_of m coming.time id (applied_with o f fs) v) a (end_after m coming id (items_after m coming id items (course_with close x)))
  behind_gives v f fs items close Refused a (receiving.Ends b) h others = ended_gives [] items a b h
  behind_gives v f fs items close Last a (receiving.Ends b) h others =
      let gifts : List Did = gift_of (stream_of v.lower id) f in ended_gives (gifts ++ []) items a b (subst (λ (ds : List Did). Gives ds a b) (sym (append-nil gifts)) h)
  behind_gives v f fs items close Goes a (receiving.Goes b) h others = gives_next (gift_of (stream_of v.lower id) f) (gifts_of m coming.time id fs (view_behind m coming.time id f v)) a b _ h.0 (others close b h.1)
  behind_gives v f fs items close Goes a (receiving.Closes why b) h others = gives_next (gift_of (stream_of v.lower id) f) (gifts_of m coming.time id fs (view_behind m coming.time id f v)) a b _ h.0 (others (Some why) b h.1)
  behind_gives v f fs items close _ a _ h others = absurd h

  items_give : (v : View t) (items : List Item) (close : Option ConnectionError) (a : At t) → Along v a.state →
      Gives (gifts_of m coming.time id (applied_in m coming.time id items v) v) a (end_after m coming id (items_after m coming id items (receiving.Reads close a)))
  items_give v [] close a along = end_quiet m coming id close a
  items_give v (Err fault ∷ items) close a along = ended_gives [] items a _ (stopped_quiet coming.time (encoding_error_at fault.ty) a)
  items_give v (Ok read ∷ items) close a along =
      let behind : View t = view_behind m coming.time id read.frame v in
      behind_gives v read.frame (applied_in m coming.time id items behind) items close (outcome_of m id read v) a (frame_after m coming id read a) (frame_leaves v read a along) (λ c b there. items_give behind items c b there)

  pub payload_gives : (v : View t) (payload : List ℕ) (a : At t) → Along v a.state → Gives (payload_gifts m coming.time id payload v) a (payload_after m coming id payload a)
  unfolding payload_after items_of
  payload_gives v [] a along = stopped_quiet coming.time _ a
  payload_gives v (b ∷ bytes) a along = items_give v (items_of (b ∷ bytes)) None a along
