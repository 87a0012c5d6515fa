-- Over a run the session is given the bytes of each space's CRYPTO stream in order, each once.
use Rattle.std.proofs.Common.{◌≡◌, ℕ, ◌+◌, ◌⊎◌, inl, inr, List, [], ◌∷◌, ◌++◌, length, refl, ap, sym, ◌∙◌, subst, Bool, true, false, Option, if◌then◌else◌, append_assoc, append-nil}
use Rattle.qc_assembler.specs.Assembly.{Assembly, advanced, inserted}
use Rattle.qc_assembler.specs.Reads.{AreReads, IsRead, after, after_step, all_read}
use Rattle.qc_assembler.specs.Reads as reads
use Rattle.qc_base.specs.declared.side.SpaceId.{SpaceId}
use Rattle.qc_frame.specs.Frame.{AckValue, FrameValue}
use Rattle.qc_frame.specs.FrameSpelling.{spelling}
use Rattle.qc_frame.specs.declared.frames.FrameOf.TheVariants as frames
use Rattle.qc_state.specs.declared.coming.Coming.{Coming}
use Rattle.qc_state.specs.declared.deeds.Did.{Did}
use Rattle.qc_state.specs.declared.deeds.Did.TheVariants as did
use Rattle.qc_state.specs.declared.deeds.Layer.TheVariants as layer
use Rattle.qc_state.specs.declared.form.Form.{Form}
use Rattle.qc_state.specs.declared.input.Input.{Input}
use Rattle.qc_state.specs.declared.input.Input.TheVariants as input
use Rattle.qc_state.specs.declared.life.Close.{Close}
use Rattle.qc_state.specs.declared.lower.Lower.{Lower}
use Rattle.qc_state.specs.declared.trace.Step.{Step}
use Rattle.qc_state.specs.Forms.{number_space}
use Rattle.qc_state.specs.Headline.{deeds_of}
use Rattle.qc_state.specs.Life.{is_open, is_over}
use Rattle.qc_state.specs.Lower.{bytes_came, flight_dropped, packets_settled, ready_bytes, session_read, session_wrote, stream_of, timer_fired, limits_learned, frame_handed, streams_closed, streams_stepped, events_told, event_told, datagrams_stepped, frames_sealed, ids_stepped}
use Rattle.qc_state.specs.Moves.{Accept, Ack, Ask, Begin, Come, Enter, Fire, Forget, Move, Read, Seal, Shut, Take, Tell, Write, deeds_move, lower_move, move_to, state_move, Hand, Call, Post, Issue, Update, Renew}
use Rattle.qc_state.specs.Numbers.{next_number}
use Rattle.qc_state.specs.Recovering.{settled_by}
use Rattle.qc_state.specs.Receiving.{datagram_after}
use Rattle.qc_state.specs.Run.{IsAllowed, IsStep, Run, began, called, close_after, input_after, reported, step_after, time_of, datagram_limit}
use Rattle.qc_state.specs.Sending.{Choice, packet_size}
use Rattle.qc_state.specs.Spaces.{is_space}
use Rattle.qc_laws.specs.StreamLaws.{GivesStream, is_of, session_bytes}
use Rattle.qc_state.specs.Types.{Types, Meaning}
use Rattle.qc_state.specs.View.{View, At}
use Rattle.qc_state.specs.Updating.{fresh_now}
use Rattle.qc_state.proofs.Updates.{holds_updated}
use Rattle.qc_state.specs.Recovering.{settled_by}
use Rattle.qc_laws.proofs.CryptoPlaces.{same_or}
use Rattle.qc_state.proofs.Expired.{IsTimed, holds_timeout}
use Rattle.qc_state.proofs.OpenPackets.{IsBeside, given_ack, given_read, packet_beside, packet_received}
use Rattle.qc_state.proofs.PacketMoves.{IsInPacket, IsToldOf, OpenPacket}
use Rattle.qc_laws.proofs.PieceLaws.{opened_tells}
use Rattle.qc_state.proofs.Probed.{begun_streams}
use Rattle.qc_state.proofs.ReceivedMoves.{IsOutside}
use Rattle.qc_laws.proofs.Receives.{datagram_holds}
use Rattle.qc_laws.proofs.StreamSteps.{after_append, bytes_append, came_apart, came_here, flown_stream, front_of, is_same, last_append, last_of, read_apart, read_append, read_here, ready_read, reads_append, same_since}
use Rattle.qc_state.proofs.Telling.{told_appends}
use Rattle.qc_state.proofs.Transmitted.{IsSending, holds_transmit}
use Rattle.qc_laws.proofs.StreamCalls.{called_input, handed_told}
use Rattle.qc_datagrams.specs.Steps as datagrams

module _ {t : Types} (id : SpaceId) where
  -- ---- within a packet

  -- the stream took steps, whose reads gave what was given, in a packet that is one of the space or not
  record Within (now : Bool) (a b : At t) : Type 0 where
    pub since : List Did
    pub appended : b.did ≡ a.did ++ since
    pub steps : List reads.Step
    pub are_reads : AreReads steps (stream_of a.state.lower id)
    pub leads : stream_of b.state.lower id ≡ after steps (stream_of a.state.lower id)
    pub stays : last_of id now since ≡ now
    pub given : session_bytes id now since ≡ all_read steps

  within_here : (now : Bool) (a : At t) → Within now a a
  unfolding AreReads after all_read
  within_here now a = record { since = []; appended = sym (append-nil a.did); steps = []; are_reads = tt; leads = refl; stays = refl; given = refl }

  within_next : (now : Bool) (a b c : At t) → Within now a b → Within now b c → Within now a c
  within_next now a b c g h = record {
    since = g.since ++ h.since;
    appended = h.appended ∙ ap (λ (x : List Did). x ++ h.since) g.appended ∙ append_assoc a.did g.since h.since;
    steps = g.steps ++ h.steps;
    are_reads = reads_append g.steps h.steps (stream_of a.state.lower id) g.are_reads (subst (λ (w : Assembly). AreReads h.steps w) g.leads h.are_reads);
    leads = h.leads ∙ ap (λ (w : Assembly). after h.steps w) g.leads ∙ sym (after_append g.steps h.steps (stream_of a.state.lower id));
    stays = last_append id now g.since h.since ∙ ap (λ (x : Bool). last_of id x h.since) g.stays ∙ h.stays;
    given = bytes_append id now g.since h.since ∙ ap (λ (x : Bool). session_bytes id now g.since ++ session_bytes id x h.since) g.stays
        ∙ ap (λ (l : List ℕ). l ++ session_bytes id now h.since) g.given ∙ ap (λ (l : List ℕ). all_read g.steps ++ l) h.given ∙ sym (read_append g.steps h.steps);
  }

  -- a move that leaves the stream, and gives nothing
  still_within : (now : Bool) (x : Move t) (a : At t) → stream_of (lower_move x a.state) id ≡ stream_of a.state.lower id → last_of id now (deeds_move x a.state) ≡ now → session_bytes id now (deeds_move x a.state) ≡ [] → Within now a (move_to x a)
  unfolding move_to state_move AreReads after all_read
  still_within now x a same stays none = record { since = deeds_move x a.state; appended = told_appends a.did (deeds_move x a.state); steps = []; are_reads = tt; leads = same; stays = stays; given = none }

  -- what is told in a packet, beside what the session is given
  told_stays : (o : OpenPacket) (d : Did) (s : View t) → IsToldOf o d s → IsBeside {t = t} (Tell d) → (last_of id (is_space id o.space) (d ∷ []) ≡ is_space id o.space) × (session_bytes id (is_space id o.space) (d ∷ []) ≡ [])
  told_stays o (did.Gave layer.Session body) s h beside = absurd beside
  told_stays o (did.Gave layer.Recovery body) s h beside = absurd beside
  told_stays o (did.Gave layer.Life body) s h beside = (refl, refl)
  told_stays o (did.Gave layer.Store body) s h beside = (refl, refl)
  told_stays o (did.Gave layer.Ids body) s h beside = (refl, refl)
  told_stays o (did.Gave layer.Streams body) s h beside = (refl, refl)
  told_stays o (did.Piece space number v) s h beside = (ap (λ (x : Option SpaceId). is_of id x) h.0, refl)
  told_stays o _ s h beside = absurd h

  -- bytes came
  come_within : (now : Bool) (space : SpaceId) (offset : ℕ) (body : List ℕ) (a : At t) → (id ≡ space) ⊎ (is_space id space ≡ false) → Within now a (move_to (Come space offset body) a)
  unfolding move_to state_move lower_move deeds_move AreReads after after_step all_read IsRead frames_sealed ids_stepped
  come_within now space offset body a (inl is) = record {
    since = [];
    appended = told_appends a.did [];
    steps = reads.Came offset body ∷ [];
    are_reads = (tt, tt);
    leads = subst (λ (x : SpaceId). stream_of (bytes_came a.state.lower x offset body) id ≡ inserted offset body (stream_of a.state.lower id)) is (came_here id a.state.lower offset body);
    stays = refl;
    given = refl;
  }
  come_within now space offset body a (inr other) = record { since = []; appended = told_appends a.did []; steps = []; are_reads = tt; leads = came_apart id space a.state.lower offset body other; stays = refl; given = refl }

  -- the session is given bytes
  gave_within : (m : Meaning t) (o : OpenPacket) (x : ℕ) (bytes : List ℕ) (a : At t) → x ∷ bytes ≡ ready_bytes (stream_of a.state.lower o.space) → (id ≡ o.space) ⊎ (is_space id o.space ≡ false) → Within (is_space id o.space) a (given_read m o x bytes a)
  unfolding move_to state_move lower_move deeds_move AreReads after after_step all_read frames_sealed ids_stepped
  gave_within m o x bytes a ready (inl is) =
      let here : is_space id o.space ≡ true = subst (λ (y : SpaceId). is_space id y ≡ true) is (is_same id) in
      record {
        since = did.Gave layer.Session (x ∷ bytes) ∷ [];
        appended = refl;
        steps = reads.Read (x ∷ bytes) ∷ [];
        are_reads = (ready_read (stream_of a.state.lower id) (x ∷ bytes) (ready ∙ ap (λ (y : SpaceId). ready_bytes (stream_of a.state.lower y)) (sym is)), tt);
        leads = subst (λ (y : SpaceId). stream_of (session_read a.state.lower y (length (x ∷ bytes)) (m.after_read a.state.lower.session (x ∷ bytes))) id ≡ advanced (length (x ∷ bytes)) (stream_of a.state.lower id)) is (read_here id a.state.lower _ _);
        stays = refl;
        given = ap (λ (b : Bool). (if b then x ∷ bytes else []) ++ []) here;
      }
  gave_within m o x bytes a ready (inr other) = record {
    since = did.Gave layer.Session (x ∷ bytes) ∷ [];
    appended = refl;
    steps = [];
    are_reads = tt;
    leads = read_apart id o.space a.state.lower _ _ other;
    stays = refl;
    given = ap (λ (b : Bool). (if b then x ∷ bytes else []) ++ []) other;
  }

  -- recovery is given an ACK
  ack_within : (m : Meaning t) (o : OpenPacket) (now : Bool) (ack : AckValue) (a : At t) → Within now a (given_ack m o ack a)
  unfolding move_to lower_move deeds_move packets_settled streams_stepped datagrams_stepped stream_of ids_stepped
  ack_within m o now ack a =
      let d : Did = did.Gave layer.Recovery (spelling (frames.Ack ack)) in
      let b : At t = move_to (Tell d) a in
      within_next now a b _ (still_within now (Tell d) a refl refl refl) (still_within now (Ack o.space ack.largest (settled_by m o.coming.time o.space ack a.state)) b refl refl refl)

  -- each other move of a packet
  move_within : (m : Meaning t) (o : OpenPacket) (x : Move t) (a : At t) → IsInPacket m o x a.state → IsBeside x → Within (is_space id o.space) a (move_to x a)
  unfolding lower_move deeds_move flight_dropped packets_settled session_wrote limits_learned frame_handed streams_closed event_told events_told streams_stepped datagrams_stepped stream_of frames_sealed ids_stepped
  move_within m o (Read space count session) a h beside = absurd beside
  move_within m o (Ack space n after) a h beside = absurd beside
  move_within m o (Seal time form n size fs) a h beside = absurd h
  move_within m o (Begin space opens) a h beside = absurd h
  move_within m o (Fire after) a h beside = absurd h
  move_within m o (Renew time cid token keys) a h beside = absurd h
  move_within m o (Come space offset bytes) a h beside = come_within (is_space id o.space) space offset bytes a (same_or id space)
  move_within m o (Tell d) a h beside = let both = told_stays o d a.state h beside in still_within (is_space id o.space) (Tell d) a refl both.0 both.1
  move_within m o (Enter space n v) a h beside = still_within (is_space id o.space) (Enter space n v) a refl (ap (λ (y : SpaceId). is_space id y) h.1.space) refl
  move_within m o (Accept time space n e g v) a h beside = still_within (is_space id o.space) (Accept time space n e g v) a refl (ap (λ (y : SpaceId). is_space id y) h.3.space) refl
  move_within m o (Hand frame) a h beside =
      let now : Bool = is_space id o.space in
      still_within now (Hand frame) a refl (handed_told (λ ds. last_of id now ds ≡ now) frame refl (λ body. refl)) (handed_told (λ ds. session_bytes id now ds ≡ []) frame refl (λ body. refl))
  move_within m o x a h beside = still_within (is_space id o.space) x a refl refl refl

  -- ---- from one moment to another

  record Kept (a b : At t) : Type 0 where
    pub since : List Did
    pub appended : b.did ≡ a.did ++ since
    pub steps : List reads.Step
    pub are_reads : AreReads steps (stream_of a.state.lower id)
    pub leads : stream_of b.state.lower id ≡ after steps (stream_of a.state.lower id)
    pub given : (now : Bool) → session_bytes id now since ≡ all_read steps

  kept_here : (a : At t) → Kept a a
  unfolding AreReads after all_read
  kept_here a = record { since = []; appended = sym (append-nil a.did); steps = []; are_reads = tt; leads = refl; given = λ now. refl }

  kept_next : (a b c : At t) → Kept a b → Kept b c → Kept a c
  kept_next a b c g h = record {
    since = g.since ++ h.since;
    appended = h.appended ∙ ap (λ (x : List Did). x ++ h.since) g.appended ∙ append_assoc a.did g.since h.since;
    steps = g.steps ++ h.steps;
    are_reads = reads_append g.steps h.steps (stream_of a.state.lower id) g.are_reads (subst (λ (w : Assembly). AreReads h.steps w) g.leads h.are_reads);
    leads = h.leads ∙ ap (λ (w : Assembly). after h.steps w) g.leads ∙ sym (after_append g.steps h.steps (stream_of a.state.lower id));
    given = λ now. bytes_append id now g.since h.since ∙ ap (λ (l : List ℕ). l ++ session_bytes id (last_of id now g.since) h.since) (g.given now)
        ∙ ap (λ (l : List ℕ). all_read g.steps ++ l) (h.given (last_of id now g.since)) ∙ sym (read_append g.steps h.steps);
  }

  still_kept : (x : Move t) (a : At t) → stream_of (lower_move x a.state) id ≡ stream_of a.state.lower id → ((now : Bool) → session_bytes id now (deeds_move x a.state) ≡ []) → Kept a (move_to x a)
  unfolding move_to state_move AreReads after all_read
  still_kept x a same none = record { since = deeds_move x a.state; appended = told_appends a.did (deeds_move x a.state); steps = []; are_reads = tt; leads = same; given = none }

  -- a packet that opened tells of itself first
  packet_kept : (m : Meaning t) (o : OpenPacket) (a : At t) → is_over a.state.life.state ≡ false → Kept a (packet_received m o a)
  packet_kept m o a lively =
      let w : Within (is_space id o.space) a (packet_received m o a) =
      packet_beside m o (Within (is_space id o.space)) (within_here (is_space id o.space)) (within_next (is_space id o.space)) (λ x b h beside may. move_within m o x b h beside) (λ x bytes b ready. gave_within m o x bytes b ready (same_or id o.space))
      (λ ack b among. ack_within m o (is_space id o.space) ack b) a lively in
      let told = opened_tells m o.coming o.space o.source o.token o.spin o.which o.number o.payload a in
      let first = same_since a.did w.since _ (sym w.appended ∙ told.appended) in
      record {
        since = w.since;
        appended = w.appended;
        steps = w.steps;
        are_reads = w.are_reads;
        leads = w.leads;
        given = λ now. ap (λ (ds : List Did). session_bytes id now ds) first ∙ ap (λ (ds : List Did). session_bytes id (is_space id o.space) ds) (sym first) ∙ w.given;
      }

  -- ---- inputs

  outside_kept : (time : ℕ) (x : Move t) (a : At t) → IsOutside time x a.state → Kept a (move_to x a)
  unfolding lower_move deeds_move flight_dropped limits_learned streams_closed event_told events_told streams_stepped datagrams_stepped stream_of frames_sealed ids_stepped
  outside_kept time (Seal at form n size fs) a h = absurd h
  outside_kept time (Begin space opens) a h = absurd h
  outside_kept time (Come space offset bytes) a h = absurd h
  outside_kept time (Read space count session) a h = absurd h
  outside_kept time (Forget space) a h = absurd h
  outside_kept time (Ack space n after) a h = absurd h
  outside_kept time (Fire after) a h = absurd h
  outside_kept time (Write bytes keys session) a h = absurd h
  outside_kept time (Hand frame) a h = absurd h
  outside_kept time (Tell (did.Piece space number v)) a h = still_kept (Tell (did.Piece space number v)) a refl (λ now. refl)
  outside_kept time (Tell d) a h = absurd h
  outside_kept time (Renew at cid token keys) a h = still_kept (Renew at cid token keys) a refl (λ now. refl)
  outside_kept time x a h = still_kept x a refl (λ now. refl)

  datagram_kept : (m : Meaning t) (coming : Coming) (bytes : List ℕ) (a : At t) → Kept a (datagram_after m coming bytes a)
  datagram_kept m coming bytes a =
      datagram_holds m coming (λ p. Unit {0}) Kept kept_here kept_next (λ x b h may. outside_kept coming.time x b h) (λ p comes o b opened. packet_kept m o b opened.lively) bytes a (λ p among. tt)

  timed_kept : (x : Move t) → IsTimed x → (a : At t) → Kept a (move_to x a)
  unfolding lower_move deeds_move timer_fired limits_learned streams_closed event_told events_told streams_stepped datagrams_stepped stream_of frames_sealed ids_stepped
  timed_kept (Seal at form n size fs) h a = absurd h
  timed_kept (Begin space opens) h a = absurd h
  timed_kept (Come space offset bytes) h a = absurd h
  timed_kept (Read space count session) h a = absurd h
  timed_kept (Tell d) h a = absurd h
  timed_kept (Enter space n v) h a = absurd h
  timed_kept (Accept time space n e g v) h a = absurd h
  timed_kept (Forget space) h a = absurd h
  timed_kept (Ack space n after) h a = absurd h
  timed_kept (Write bytes keys session) h a = absurd h
  timed_kept (Hand frame) h a = absurd h
  timed_kept (Renew at cid token keys) h a = absurd h
  timed_kept x h a = still_kept x a refl (λ now. refl)

  sending_kept : (x : Move t) → IsSending x → (a : At t) → Kept a (move_to x a)
  unfolding lower_move deeds_move flight_dropped limits_learned streams_closed event_told events_told streams_stepped datagrams_stepped stream_of frames_sealed ids_stepped
  sending_kept (Seal at form n size fs) h a = absurd h
  sending_kept (Come space offset bytes) h a = absurd h
  sending_kept (Read space count session) h a = absurd h
  sending_kept (Tell d) h a = absurd h
  sending_kept (Enter space n v) h a = absurd h
  sending_kept (Accept time space n e g v) h a = absurd h
  sending_kept (Ack space n after) h a = absurd h
  sending_kept (Fire after) h a = absurd h
  sending_kept (Begin space opens) h a = still_kept (Begin space opens) a (ap (λ (l : Lower t.S). stream_of l id) (begun_streams space opens a.state)) (λ now. refl)
  sending_kept (Write bytes keys session) h a = absurd h
  sending_kept (Hand frame) h a = absurd h
  sending_kept (Renew at cid token keys) h a = absurd h
  sending_kept x h a = still_kept x a refl (λ now. refl)

  seal_kept : (time : ℕ) (form : Form) (fs : List FrameValue) (a : At t) → Kept a (move_to (Seal time form (next_number a.state.numbers (number_space form)) (packet_size a.state form fs) fs) (move_to (Take (number_space form) fs) a))
  unfolding lower_move deeds_move streams_stepped datagrams_stepped stream_of frames_sealed ids_stepped
  seal_kept time form fs a =
      let b : At t = move_to (Take (number_space form) fs) a in
      kept_next a b _ (still_kept (Take (number_space form) fs) a refl (λ now. refl))
      (still_kept (Seal time form (next_number a.state.numbers (number_space form)) (packet_size a.state form fs) fs) b (flown_stream id b.state.waiting.close_owed b.state.lower form _ time _ fs) (λ now. refl))

  shut_kept : (time : ℕ) (close : Close) (a : At t) (b : Bool) → Kept a (if b then move_to (Shut time close) a else a)
  unfolding lower_move deeds_move streams_closed streams_stepped datagrams_stepped stream_of frames_sealed ids_stepped
  shut_kept time close a true = still_kept (Shut time close) a refl (λ now. refl)
  shut_kept time close a false = kept_here a

  input_kept : (m : Meaning t) (i : Input) (choice : Choice) (a : At t) → IsAllowed m i choice a → Kept a (input_after m i choice a)
  unfolding IsAllowed input_after close_after lower_move deeds_move streams_stepped datagrams_stepped stream_of frames_sealed ids_stepped
  input_kept m (input.Datagram time remote ecn bytes) choice a may = datagram_kept m (record { time = time; remote = remote; mark = ecn }) bytes a
  input_kept m (input.Timeout time) choice a may = holds_timeout Kept kept_here kept_next (λ x h b may_be. timed_kept x h b) m time a
  input_kept m (input.Transmit time max) choice a may = holds_transmit Kept kept_here kept_next (λ x r b h. sending_kept x r b) (λ at form fs b h. seal_kept at form fs b) m time max choice a may
  input_kept m (input.Close time code reason) choice a may = shut_kept time _ a (is_open a.state.life.state)
  input_kept m (input.Ping time) choice a may = still_kept (Ask a.state.keys.highest) a refl (λ now. refl)
  input_kept m (input.Update time) choice a may = holds_updated m Kept kept_here (λ b may_be. still_kept (Update (fresh_now m b.state) (m.after_next b.state.lower.session)) b refl (λ now. refl)) a
  input_kept m (input.SendDatagram time body) choice a may = still_kept (Post (datagrams.Sent (datagram_limit a.state) true body)) a refl (λ now. refl)
  input_kept m (input.RecvDatagram time) choice a may = still_kept (Post datagrams.Taken) a refl (λ now. refl)
  input_kept m (input.Identifiers time given) choice a may = still_kept (Issue time given) a refl (λ now. refl)
  input_kept m i choice a may = called_input Kept kept_here kept_next (λ x b h. still_kept (Call x) b refl (λ now. refl)) i choice.read a may

  -- ---- steps and runs

  record Over (ds : List Did) (s s' : View t) : Type 0 where
    pub steps : List reads.Step
    pub are_reads : AreReads steps (stream_of s.lower id)
    pub leads : stream_of s'.lower id ≡ after steps (stream_of s.lower id)
    pub given : (now : Bool) → session_bytes id now ds ≡ all_read steps

  step_over : (m : Meaning t) (k : ℕ) (s : View t) (i : Input) (x : Step) (s' : View t) → IsStep m k s i x s' → Over x.did s s'
  unfolding called began step_after reported state_move lower_move events_told streams_stepped datagrams_stepped stream_of frames_sealed ids_stepped
  step_over m k s i x s' h =
      let kept : Kept (began s (time_of i)) (input_after m i h.choice (began s (time_of i))) = input_kept m i h.choice (began s (time_of i)) h.allowed in
      let deeds : x.did ≡ kept.since = h.deeds ∙ kept.appended in
      record {
        steps = kept.steps;
        are_reads = kept.are_reads;
        leads = ap (λ (l : Lower t.S). stream_of l id) h.lower ∙ kept.leads;
        given = λ now. ap (λ (ds : List Did). session_bytes id now ds) deeds ∙ kept.given now;
      }

  run_over : (m : Meaning t) (k : ℕ) (s : View t) (is : List Input) (xs : List Step) (s' : View t) → Run m k s is xs s' → Over (deeds_of xs) s s'
  unfolding Run AreReads after all_read
  run_over m k s [] [] s' r = record { steps = []; are_reads = tt; leads = ap (λ (v : View t). stream_of v.lower id) r; given = λ now. refl }
  run_over m k s (i ∷ is) (x ∷ xs) s' r =
      let g : Over x.did s r.0 = step_over m k s i x r.0 r.1 in
      let h : Over (deeds_of xs) r.0 s' = run_over m (k + 1) r.0 is xs s' r.2 in
      record {
        steps = g.steps ++ h.steps;
        are_reads = reads_append g.steps h.steps (stream_of s.lower id) g.are_reads (subst (λ (w : Assembly). AreReads h.steps w) g.leads h.are_reads);
        leads = h.leads ∙ ap (λ (w : Assembly). after h.steps w) g.leads ∙ sym (after_append g.steps h.steps (stream_of s.lower id));
        given = λ now. bytes_append id now x.did (deeds_of xs) ∙ ap (λ (l : List ℕ). l ++ session_bytes id (last_of id now x.did) (deeds_of xs)) (g.given now)
            ∙ ap (λ (l : List ℕ). all_read g.steps ++ l) (h.given (last_of id now x.did)) ∙ sym (read_append g.steps h.steps);
      }
  run_over m k s [] (x ∷ xs) s' r = absurd r
  run_over m k s (i ∷ is) [] s' r = absurd r

  pub run_gives : (m : Meaning t) (k : ℕ) (s : View t) (is : List Input) (xs : List Step) (s' : View t) → Run m k s is xs s' → GivesStream id (deeds_of xs) s s'
  run_gives m k s is xs s' r =
      let o : Over (deeds_of xs) s s' = run_over m k s is xs s' r in
      record { steps = o.steps; are_reads = o.are_reads; leads = o.leads; given = o.given false; front = front_of o.steps (stream_of s.lower id) (stream_of s'.lower id) (session_bytes id false (deeds_of xs)) o.are_reads o.leads (o.given false) }
