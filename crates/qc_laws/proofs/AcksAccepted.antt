-- Each number that a run acknowledges is that of a packet which was accepted before.
use Rattle.std.proofs.Common.{◌≡◌, ℕ, ◌+◌, ◌-◌, ◌⊎◌, inl, inr, List, [], ◌∷◌, ◌++◌, length, take, refl, ap, sym, ◌∙◌, subst, Bool, true, false, Option, Some, None, if◌then◌else◌, append_assoc, append-nil}
use Rattle.std.specs.List.{list_any}
use Rattle.qc_base.specs.RangeSet.{Member}
use Rattle.qc_base.specs.declared.ecn.EcnCodepoint.{EcnCodepoint}
use Rattle.qc_base.specs.declared.side.SpaceId.{SpaceId}
use Rattle.qc_base.specs.declared.side.SpaceId.TheVariants.{Initial, Handshake, «Data»}
use Rattle.qc_frame.specs.Frame.{FrameValue}
use Rattle.qc_flight.specs.Packets.{Entry}
use Rattle.qc_path.specs.Arrived.{Window, arrived}
use Rattle.qc_path.specs.declared.pending_acks.Arrival.{Arrival}
use Rattle.qc_state.specs.declared.form.Form.{Form}
use Rattle.qc_state.specs.declared.coming.Coming.{Coming}
use Rattle.qc_state.specs.declared.deeds.Did.{Did}
use Rattle.qc_state.specs.declared.deeds.Did.TheVariants as did
use Rattle.qc_state.specs.declared.deeds.Verdict.{Verdict}
use Rattle.qc_state.specs.declared.input.Input.{Input}
use Rattle.qc_state.specs.declared.input.Input.TheVariants as input
use Rattle.qc_state.specs.declared.life.Close.{Close}
use Rattle.qc_state.specs.declared.trace.Step.{Step}
use Rattle.qc_state.specs.declared.waiting.SpaceWaiting.{SpaceWaiting}
use Rattle.qc_state.specs.declared.waiting.Waiting.{Waiting}
use Rattle.qc_state.specs.Keys.{epoch_in}
use Rattle.qc_state.specs.Forms.{number_space, is_early}
use Rattle.qc_state.specs.Headline.{deeds_of, KnownBehind, AcksOnly, SealsKnown, AcksKnown, IsKept, EachAcksKnown}
use Rattle.qc_state.specs.Life.{is_open}
use Rattle.qc_state.specs.Moves.{Probe, Move, Clock, Ask, Take, Seal, Forget, Enter, Expect, Fail, Accept, Fix, Hear, Ack, Fire, Arm, Pace, Release, Begin, Skip, Come, Read, Write, Ready, Token, Learn, Want, Confirm, Establish, Tell, PeerClosesToo, PeerCloses, Owe, Shut, Raise, Give, Say, ReportReady, ReportConnected, ReportLost, ReportNotice, ReportNotices, ReportDrained, accepts, state_move, move_to, deeds_move, waiting_move, numbers_move, keys_move, life_move, MayMove, IsTold, told, arrival_of, Finish, Hand, Call, ReportStream, ReportStreams, told_to_streams, Post, ReportHeard, ReportAllHeard, Insert, Switch, Retire, Issue, Outlive, Hold, Spend, Discard, Unseal, Update, Renew}
use Rattle.qc_state.specs.Numbers.{next_number}
use Rattle.qc_state.specs.Offers.{packet_begun}
use Rattle.qc_state.proofs.Probed.{begun_holds}
use Rattle.qc_state.specs.Numbers as numbers
use Rattle.qc_state.specs.Run.{time_of, began, close_after, input_after, called, reported, step_after, IsAllowed, IsStep, Run, Ran, datagram_limit}
use Rattle.qc_state.specs.Sending.{packet_size, transmit_after, MayTransmit, Choice}
use Rattle.qc_state.specs.Spaces.{space_of, with_space, is_space}
use Rattle.qc_state.specs.Receiving.{datagram_after}
use Rattle.qc_state.specs.Timeouts.{timeout_after}
use Rattle.qc_state.specs.Tokens.{asked_tokens}
use Rattle.qc_laws.proofs.TokensAsked.{asked_acks}
use Rattle.qc_state.specs.Types.{Types, Meaning}
use Rattle.qc_state.specs.View.{View, At}
use Rattle.qc_state.specs.Waiting.{done_asked, ping_asked, waiting_without, close_begun, packet_told, lost_in, packets_lost, acked_in, packets_acked, fired_in, probes_added, probe_spent, frames_again, all_again, came_in, packet_came, crypto_written, nothing_left, space_left, released, ack_released, bundle_next, bytes_again, hello_again}
use Rattle.qc_laws.proofs.AcksKnown.{acked_had, all_again_keeps, lost_keeps, received_has, KnownSince, known_more, since_more, known_append, since_append, only_more, without_all_keeps, carries_known}
use Rattle.qc_recovery.specs.declared.calls.Fired.{Fired}
use Rattle.qc_recovery.specs.declared.calls.Fired.TheVariants as fired
use Rattle.qc_path.specs.Acks.{PendingValues, next_bundle}
use Rattle.qc_path.specs.RoundTrips.{estimate}
use Rattle.qc_state.specs.Acks.{is_ack}
use Rattle.qc_state.specs.Setup.{peer_delay}
use Rattle.qc_state.specs.Updating.{fresh_now}
use Rattle.qc_state.proofs.Updates.{holds_updated}
use Rattle.qc_state.proofs.ReceivedMoves.{IsReceived}
use Rattle.qc_laws.proofs.Receives.{holds_datagram}
use Rattle.qc_state.proofs.Expired.{IsTimed, holds_timeout}
use Rattle.qc_state.proofs.Telling.{open_rank, told_appends}
use Rattle.qc_state.proofs.Transmitted.{IsSealable, IsSending, holds_transmit}
use Rattle.qc_laws.proofs.StreamCalls.{called_input, handed_told}
use Rattle.qc_datagrams.specs.Steps as datagrams

-- ---- what is kept in a space, where one space changes

-- a space where no number more is kept
fewer_kept : (id space : SpaceId) (v : Waiting) (w : SpaceWaiting) → ((n : ℕ) → Member n w.acks.ranges → Member n (space_of v.spaces space).acks.ranges)
    → (n : ℕ) → IsKept id (record v { spaces = with_space v.spaces space w }) n → IsKept id v n
fewer_kept Initial Initial v w fewer n m = fewer n m
fewer_kept Initial Handshake v w fewer n m = m
fewer_kept Initial Data v w fewer n m = m
fewer_kept Handshake Initial v w fewer n m = m
fewer_kept Handshake Handshake v w fewer n m = fewer n m
fewer_kept Handshake Data v w fewer n m = m
fewer_kept Data Initial v w fewer n m = m
fewer_kept Data Handshake v w fewer n m = m
fewer_kept Data Data v w fewer n m = fewer n m

-- a space whose numbers to acknowledge stay
same_kept : (id space : SpaceId) (v : Waiting) (w : SpaceWaiting) → w.acks.ranges ≡ (space_of v.spaces space).acks.ranges
    → (n : ℕ) → IsKept id (record v { spaces = with_space v.spaces space w }) n → IsKept id v n
same_kept id space v w same = fewer_kept id space v w (λ n m. subst (Member n) same m)

-- packets were lost
lost_kept : (id space : SpaceId) (v : Waiting) (es : List Entry) (n : ℕ) → IsKept id (packets_lost v space es) n → IsKept id v n
unfolding packets_lost
lost_kept id space v es = same_kept id space v (lost_in (space_of v.spaces space) es) (ap (λ (p : PendingValues). p.ranges) (lost_keeps (space_of v.spaces space) es))

-- packets were acknowledged
acked_kept : (id space : SpaceId) (v : Waiting) (es : List Entry) (n : ℕ) → IsKept id (packets_acked v space es) n → IsKept id v n
unfolding packets_acked
acked_kept id space v es = fewer_kept id space v (acked_in (space_of v.spaces space) es) (λ n m. acked_had n (space_of v.spaces space) es m)

-- both
settled_kept : (id space : SpaceId) (v : Waiting) (acked lost : List Entry) (n : ℕ) → IsKept id (packets_lost (packets_acked v space acked) space lost) n → IsKept id v n
settled_kept id space v acked lost n m = acked_kept id space v acked n (lost_kept id space (packets_acked v space acked) lost n m)

-- the loss timer fired
fired_kept : (id : SpaceId) (v : Waiting) (f : Fired) (n : ℕ) → IsKept id (fired_in v f) n → IsKept id v n
unfolding probes_added
fired_kept id v (fired.Lost space es) n m = lost_kept id space v es n m
fired_kept id v (fired.Probe space count) n m = same_kept id space v _ refl n m
fired_kept id v fired.Nothing n m = m

-- a packet was begun
packet_kept : {t : Types} (id space : SpaceId) (opens : Bool) (s : View t) (n : ℕ) → IsKept id (packet_begun space opens s).waiting n → IsKept id s.waiting n
unfolding probe_spent frames_again ping_asked
packet_kept id space opens s =
    begun_holds (λ w. (n : ℕ) → IsKept id w n → IsKept id s.waiting n) (λ w x h n m. h n (same_kept id x w (record (space_of w.spaces x) { probes = (space_of w.spaces x).probes - 1 }) refl n m))
    (λ w x fs h n m. h n (same_kept id x w (all_again (space_of w.spaces x) fs) (ap (λ (p : PendingValues). p.ranges) (all_again_keeps (space_of w.spaces x) fs)) n m))
    (λ w x h n m. h n (same_kept id x w (record (space_of w.spaces x) { ping = true }) refl n m)) space opens s (λ n m. m)

-- the frames of a packet were taken
taken_kept : (space : SpaceId) (v : Waiting) (fs : List FrameValue) (n : ℕ) → IsKept space v n → IsKept space (waiting_without v space fs) n
unfolding waiting_without
taken_kept Initial v fs n m = subst (Member n) (sym (without_all_keeps v.spaces.initial fs)) m
taken_kept Handshake v fs n m = subst (Member n) (sym (without_all_keeps v.spaces.handshake fs)) m
taken_kept Data v fs n m = subst (Member n) (sym (without_all_keeps v.spaces.application fs)) m

-- a packet was sealed
bundle_kept : (id : SpaceId) (v : Waiting) (next : ℕ) (b : Bool) (n : ℕ) → IsKept id (if b then record v { bundled = Some next } else v) n → IsKept id v n
bundle_kept id v next true n m = m
bundle_kept id v next false n m = m

sealed_kept : (id : SpaceId) (v : Waiting) (last : Bool) (fs : List FrameValue) (next : ℕ) (n : ℕ) → IsKept id (bundle_next (packet_told v last) fs next) n → IsKept id v n
unfolding bundle_next packet_told
sealed_kept id v last fs next n m = bundle_kept id (packet_told v last) next (list_any is_ack fs) n m

-- an ACK that was held back is owed
released_kept : (id : SpaceId) (v : Waiting) (n : ℕ) → IsKept id (ack_released v) n → IsKept id v n
unfolding ack_released
released_kept id v n m = same_kept id «Data» v (released v.spaces.application) refl n m

-- a packet was accepted: what is kept is its number, or was kept before
accepted_by : (number n : ℕ) (v : Verdict) (K : Type 0) → accepts v ≡ true → (number ≡ n) ⊎ K → ((if accepts v then Some number else None) ≡ Some n) ⊎ K
accepted_by number n v K e (inl is) = inl (rw e (ap Some is))
accepted_by number n v K e (inr there) = inr there

-- so it is in each space
came_kept : (id space : SpaceId) (v : Waiting) (seen : Window) (a : Arrival) (mark : Option EcnCodepoint) (verdict : Verdict) → accepts verdict ≡ true
    → (n : ℕ) → IsKept id (packet_came v space seen a mark) n → KnownBehind id (IsKept id v) (did.Piece (Some space) (Some a.number) verdict) n
unfolding packet_came came_in
came_kept Initial Initial v seen a mark verdict e n m = accepted_by a.number n verdict (IsKept Initial v n) e (received_has false seen a v.spaces.initial.acks n m)
came_kept Initial Handshake v seen a mark verdict e n m = inr m
came_kept Initial Data v seen a mark verdict e n m = inr m
came_kept Handshake Initial v seen a mark verdict e n m = inr m
came_kept Handshake Handshake v seen a mark verdict e n m = accepted_by a.number n verdict (IsKept Handshake v n) e (received_has false seen a v.spaces.handshake.acks n m)
came_kept Handshake Data v seen a mark verdict e n m = inr m
came_kept Data Initial v seen a mark verdict e n m = inr m
came_kept Data Handshake v seen a mark verdict e n m = inr m
came_kept Data Data v seen a mark verdict e n m = accepted_by a.number n verdict (IsKept Data v n) e (received_has true seen a v.spaces.application.acks n m)

-- what a packet acknowledges, said of its space
said_there : (id space : SpaceId) (v : Waiting) (fs : List FrameValue) → AcksOnly (IsKept space v) fs → is_space id space ≡ true → AcksOnly (IsKept id v) fs
said_there Initial Initial v fs h same = h
said_there Initial Handshake v fs h same = cc
said_there Initial Data v fs h same = cc
said_there Handshake Initial v fs h same = cc
said_there Handshake Handshake v fs h same = h
said_there Handshake Data v fs h same = cc
said_there Data Initial v fs h same = cc
said_there Data Handshake v fs h same = cc
said_there Data Data v fs h same = h

module _ {t : Types} where
  -- where a move may be made: a packet that is sealed acknowledges what is kept, and one that is accepted has a verdict which
  -- says so
  abbrev pub IsKnowing : Move t → View t → Type 0
  IsKnowing (Seal time form n size fs) s = AcksOnly (IsKept (number_space form) s.waiting) fs
  IsKnowing (Accept time space n e g v) s = accepts v ≡ true
  IsKnowing _ s = Unit {0}

  -- from one moment to another, what is acknowledged is known, and so is what is kept at the end
  pub record Knows (id : SpaceId) (a b : At t) : Type 0 where
    pub since : List Did
    pub appended : b.did ≡ a.did ++ since
    pub known : AcksKnown id (IsKept id a.state.waiting) since
    pub kept : (n : ℕ) → IsKept id b.state.waiting n → KnownSince id (IsKept id a.state.waiting) since n

  -- where no time passes
  pub knows_here : (id : SpaceId) (a : At t) → Knows id a a
  knows_here id a = record { since = []; appended = sym (append-nil a.did); known = tt; kept = λ n m. m }

  -- over two times, one after the other
  pub knows_next : (id : SpaceId) (a b c : At t) → Knows id a b → Knows id b c → Knows id a c
  knows_next id a b c g h =
      let K : ℕ → Type 0 = IsKept id a.state.waiting in
      let L : ℕ → Type 0 = IsKept id b.state.waiting in
      record {
        since = g.since ++ h.since;
        appended = h.appended ∙ ap (λ (x : List Did). x ++ h.since) g.appended ∙ append_assoc a.did g.since h.since;
        known = known_append id K g.since h.since g.known (known_more id L (KnownSince id K g.since) g.kept h.since h.known);
        kept = λ n m. since_append id K g.since h.since n (since_more id L (KnownSince id K g.since) g.kept h.since n (h.kept n m));
      }

  -- a move without a deed that leaves what is kept
  silent_knows : (id : SpaceId) (x : Move t) (a : At t) → deeds_move x a.state ≡ [] → ((n : ℕ) → IsKept id (waiting_move x a.state) n → IsKept id a.state.waiting n) → Knows id a (move_to x a)
  unfolding move_to state_move
  silent_knows id x a none same = record { since = []; appended = ap (λ (ds : List Did). told a.did ds) none ∙ sym (append-nil a.did); known = tt; kept = same }

  -- a move with one deed
  deed_knows : (id : SpaceId) (x : Move t) (d : Did) (a : At t) → deeds_move x a.state ≡ d ∷ [] → SealsKnown id (IsKept id a.state.waiting) d
      → ((n : ℕ) → IsKept id (waiting_move x a.state) n → KnownBehind id (IsKept id a.state.waiting) d n) → Knows id a (move_to x a)
  unfolding move_to state_move
  deed_knows id x d a one seals same = record { since = d ∷ []; appended = ap (λ (ds : List Did). told a.did ds) one; known = (seals, tt); kept = same }

  -- a deed that is told beside the others
  tell_knows : (id : SpaceId) (d : Did) (a : At t) → IsTold d → Knows id a (move_to (Tell d) a)
  unfolding deeds_move waiting_move
  tell_knows id (did.Piece space number v) a h = deed_knows id (Tell (did.Piece space number v)) (did.Piece space number v) a refl tt (λ n m. inr m)
  tell_knows id (did.Gave layer body) a h = deed_knows id (Tell (did.Gave layer body)) (did.Gave layer body) a refl tt (λ n m. m)
  tell_knows id _ a h = absurd h

  -- a frame that the streams are handed
  handed_knows : (id : SpaceId) (frame : FrameValue) (a : At t) → Knows id a (move_to (Hand frame) a)
  unfolding move_to state_move deeds_move waiting_move
  handed_knows id frame a = record {
    since = told_to_streams frame;
    appended = told_appends a.did (told_to_streams frame);
    known = handed_told (λ ds. AcksKnown id (IsKept id a.state.waiting) ds) frame tt (λ body. (tt, tt));
    kept = λ n m. handed_told (λ ds. KnownSince id (IsKept id a.state.waiting) ds n) frame m (λ body. m);
  }

  -- over each move
  pub knows_move : (id : SpaceId) (x : Move t) (a : At t) → MayMove x a.state → IsKnowing x a.state → Knows id a (move_to x a)
  unfolding MayMove deeds_move waiting_move ping_asked waiting_without crypto_written done_asked space_left nothing_left close_begun hello_again bytes_again
  knows_move id (Clock time) a h k = absurd h
  knows_move id (Ask space) a h k = silent_knows id (Ask space) a refl (same_kept id space a.state.waiting _ refl)
  knows_move id (Take space fs) a h k = silent_knows id (Take space fs) a refl (same_kept id space a.state.waiting _ (without_all_keeps (space_of a.state.waiting.spaces space) fs))
  knows_move id (Seal time form n size fs) a h k =
      deed_knows id (Seal time form n size fs) (did.Sealed (number_space form) n (epoch_in a.state.keys form) (is_early form) fs) a refl (said_there id (number_space form) a.state.waiting fs k)
      (sealed_kept id a.state.waiting (is_space (number_space form) a.state.keys.highest) fs (next_bundle time (estimate a.state.paths.current.kept.rtt) (peer_delay a.state.setup.peer)))
  knows_move id (Forget space) a h k = silent_knows id (Forget space) a refl (same_kept id space a.state.waiting _ refl)
  knows_move id (Enter space n v) a h k = deed_knows id (Enter space n v) _ a refl tt (λ n m. inr m)
  knows_move id (Expect token) a h k = silent_knows id (Expect token) a refl (λ n m. m)
  knows_move id Fail a h k = silent_knows id Fail a refl (λ n m. m)
  knows_move id (Renew time cid token keys) a h k = deed_knows id (Renew time cid token keys) _ a refl tt (λ n m. inr (same_kept id Initial a.state.waiting _ refl n m))
  knows_move id (Unseal time n which fresh session) a h k = silent_knows id (Unseal time n which fresh session) a refl (λ n m. m)
  knows_move id (Update fresh session) a h k = silent_knows id (Update fresh session) a refl (λ n m. m)
  knows_move id Discard a h k = silent_knows id Discard a refl (λ n m. m)
  knows_move id (Accept time space n e g v) a h k =
      deed_knows id (Accept time space n e g v) (did.Piece (Some space) (Some n) v) a refl tt
      (λ j m. came_kept id space a.state.waiting (arrived n (numbers.came_in a.state.numbers space)) (arrival_of time n e g) g.mark v k j
      (subst (λ (p : PendingValues). Member j p.ranges) (asked_acks id (asked_tokens space v a.state.issuer) (packet_came a.state.waiting space (arrived n (numbers.came_in a.state.numbers space)) (arrival_of time n e g) g.mark)) m))
  knows_move id (Fix cid) a h k = silent_knows id (Fix cid) a refl (λ n m. m)
  knows_move id (Hear bytes) a h k = silent_knows id (Hear bytes) a refl (λ n m. m)
  knows_move id (Ack space n r) a h k = silent_knows id (Ack space n r) a refl (settled_kept id space a.state.waiting r.acked r.lost)
  knows_move id (Fire r) a h k = silent_knows id (Fire r) a refl (fired_kept id a.state.waiting r.fired)
  knows_move id (Arm at) a h k = silent_knows id (Arm at) a refl (λ n m. m)
  knows_move id Pace a h k = silent_knows id Pace a refl (λ n m. m)
  knows_move id Release a h k = silent_knows id Release a refl (released_kept id a.state.waiting)
  knows_move id Skip a h k = silent_knows id Skip a refl (λ n m. m)
  knows_move id (Begin space opens) a h k = silent_knows id (Begin space opens) a refl (packet_kept id space opens a.state)
  knows_move id (Come space offset bytes) a h k = silent_knows id (Come space offset bytes) a refl (λ n m. m)
  knows_move id (Read space count session) a h k = silent_knows id (Read space count session) a refl (λ n m. m)
  knows_move id (Write bytes keys session) a h k = silent_knows id (Write bytes keys session) a refl (same_kept id a.state.keys.highest a.state.waiting _ refl)
  knows_move id Ready a h k = silent_knows id Ready a refl (λ n m. m)
  knows_move id (Token token) a h k = silent_knows id (Token token) a refl (λ n m. m)
  knows_move id (Learn parameters) a h k = silent_knows id (Learn parameters) a refl (λ n m. m)
  knows_move id (Want time count) a h k = silent_knows id (Want time count) a refl (λ n m. m)
  knows_move id Confirm a h k = silent_knows id Confirm a refl (same_kept id «Data» a.state.waiting _ refl)
  knows_move id Establish a h k = deed_knows id Establish _ a refl tt (λ n m. m)
  knows_move id (Tell d) a h k = tell_knows id d a h
  knows_move id PeerClosesToo a h k = deed_knows id PeerClosesToo _ a refl tt (λ n m. m)
  knows_move id (PeerCloses time) a h k = deed_knows id (PeerCloses time) _ a refl tt (λ n m. m)
  knows_move id Owe a h k = silent_knows id Owe a refl (λ n m. m)
  knows_move id (Shut time close) a h k = deed_knows id (Shut time close) _ a refl tt (λ n m. m)
  knows_move id (Raise to) a h k = deed_knows id (Raise to) _ a refl tt (λ n m. m)
  knows_move id (Give why) a h k = deed_knows id (Give why) _ a refl tt (λ n m. m)
  knows_move id (Spend tokens) a h k = silent_knows id (Spend tokens) a refl (λ n m. m)
  knows_move id (Hold until) a h k = silent_knows id (Hold until) a refl (λ n m. m)
  knows_move id (Finish bytes control) a h k = silent_knows id (Finish bytes control) a refl (λ n m. m)
  knows_move id (Probe time n bytes q) a h k = silent_knows id (Probe time n bytes q) a refl (λ x m. m)
  knows_move id (Say q) a h k = deed_knows id (Say q) _ a refl tt (λ n m. m)
  knows_move id (Hand frame) a h k = handed_knows id frame a
  knows_move id (Insert new) a h k = deed_knows id (Insert new) _ a refl tt (λ n m. m)
  knows_move id Switch a h k = silent_knows id Switch a refl (λ n m. m)
  knows_move id (Retire time n) a h k = deed_knows id (Retire time n) _ a refl tt (λ n m. m)
  knows_move id (Issue time given) a h k = silent_knows id (Issue time given) a refl (λ n m. m)
  knows_move id Outlive a h k = silent_knows id Outlive a refl (λ n m. m)
  knows_move id (Call x) a h k = silent_knows id (Call x) a refl (λ n m. m)
  knows_move id (Post x) a h k = silent_knows id (Post x) a refl (λ n m. m)
  knows_move id ReportReady a h k = silent_knows id ReportReady a refl (λ n m. m)
  knows_move id ReportConnected a h k = silent_knows id ReportConnected a refl (λ n m. m)
  knows_move id ReportHeard a h k = silent_knows id ReportHeard a refl (λ n m. m)
  knows_move id ReportAllHeard a h k = silent_knows id ReportAllHeard a refl (λ n m. m)
  knows_move id ReportStream a h k = silent_knows id ReportStream a refl (λ n m. m)
  knows_move id ReportStreams a h k = silent_knows id ReportStreams a refl (λ n m. m)
  knows_move id ReportLost a h k = silent_knows id ReportLost a refl (λ n m. m)
  knows_move id ReportNotice a h k = silent_knows id ReportNotice a refl (λ n m. m)
  knows_move id ReportNotices a h k = silent_knows id ReportNotices a refl (λ n m. m)
  knows_move id ReportDrained a h k = silent_knows id ReportDrained a refl (λ n m. m)

  -- ---- inputs

  -- what is received seals nothing, and accepts what it says that it accepts
  pub received_knows : (x : Move t) (s : View t) → IsReceived x → IsKnowing x s
  received_knows (Forget id) s r = tt
  received_knows (Enter id n v) s r = tt
  received_knows (Expect token) s r = tt
  received_knows Fail s r = tt
  received_knows (Renew time cid token keys) s r = tt
  received_knows (Unseal time n which fresh session) s r = tt
  received_knows (Accept time id n e g v) s r = r
  received_knows (Fix cid) s r = tt
  received_knows (Hear bytes) s r = tt
  received_knows (Ack id n after) s r = tt
  received_knows (Arm at) s r = tt
  received_knows (Come id offset bytes) s r = tt
  received_knows (Read id count session) s r = tt
  received_knows (Write bytes keys session) s r = tt
  received_knows Ready s r = tt
  received_knows (Token token) s r = tt
  received_knows (Learn parameters) s r = tt
  received_knows (Want time count) s r = tt
  received_knows Confirm s r = tt
  received_knows Establish s r = tt
  received_knows (Tell d) s r = tt
  received_knows (Hand frame) s r = tt
  received_knows (Insert new) s r = tt
  received_knows Switch s r = tt
  received_knows (Retire time n) s r = tt
  received_knows PeerClosesToo s r = tt
  received_knows (PeerCloses time) s r = tt
  received_knows Owe s r = tt
  received_knows (Shut time close) s r = tt
  received_knows (Raise to) s r = tt
  received_knows (Give why) s r = tt
  received_knows _ s r = absurd r

  -- what a transmit does beside sealing accepts nothing
  pub sending_knows : (x : Move t) (s : View t) → IsSending x → IsKnowing x s
  sending_knows (Ask id) s r = tt
  sending_knows (Update fresh session) s r = tt
  sending_knows (Begin id opens) s r = tt
  sending_knows Skip s r = tt
  sending_knows (Arm at) s r = tt
  sending_knows (Forget id) s r = tt
  sending_knows (Shut time close) s r = tt
  sending_knows (Raise to) s r = tt
  sending_knows (Give why) s r = tt
  sending_knows (Spend tokens) s r = tt
  sending_knows (Hold until) s r = tt
  sending_knows (Finish bytes control) s r = tt
  sending_knows (Probe time n bytes q) s r = tt
  sending_knows (Say q) s r = tt
  sending_knows _ s r = absurd r

  -- a packet is taken and sealed
  pub knows_packet : (id : SpaceId) (time : ℕ) (form : Form) (fs : List FrameValue) (a : At t) → IsSealable time a.state form fs →
      Knows id a (move_to (Seal time form (next_number a.state.numbers (number_space form)) (packet_size a.state form fs) fs) (move_to (Take (number_space form) fs) a))
  unfolding MayMove move_to state_move numbers_move keys_move life_move waiting_move
  knows_packet id time form fs a may =
      let space : SpaceId = number_space form in
      let b : At t = move_to (Take space fs) a in
      let said : AcksOnly (IsKept space (waiting_without a.state.waiting space fs)) fs =
      only_more (IsKept space a.state.waiting) (IsKept space (waiting_without a.state.waiting space fs)) (taken_kept space a.state.waiting fs) fs (carries_known may.token may.closing time a.state form may.room fs may.carries) in
      knows_next id a b _ (knows_move id (Take space fs) a may.takes tt)
      (knows_move id (Seal time form (next_number a.state.numbers (number_space form)) (packet_size a.state form fs) fs) b (refl, may.closes, may.alive, may.keyed) said)

  -- a transmit
  knows_transmit : (id : SpaceId) (m : Meaning t) (time asked : ℕ) (choice : Choice) (a : At t) → MayTransmit m time asked choice a → Knows id a (transmit_after m time asked choice a)
  knows_transmit id m time asked choice a may =
      holds_transmit (Knows id) (knows_here id) (knows_next id) (λ x sends b h. knows_move id x b h (sending_knows x b.state sends))
      (λ at_time space fs b h. knows_packet id at_time space fs b h) m time asked choice a may

  -- the application closes, or has closed before
  closed_by : (id : SpaceId) (time : ℕ) (close : Close) (a : At t) (b : Bool) → is_open a.state.life.state ≡ b → Knows id a (if b then move_to (Shut time close) a else a)
  unfolding MayMove
  closed_by id time close a true h = knows_move id (Shut time close) a (open_rank a.state.life.state h) tt
  closed_by id time close a false h = knows_here id a

  -- a datagram
  knows_datagram : (id : SpaceId) (m : Meaning t) (coming : Coming) (bytes : List ℕ) (a : At t) → Knows id a (datagram_after m coming bytes a)
  knows_datagram id m coming bytes a =
      holds_datagram (Knows id) (knows_here id) (knows_next id) (λ x received b may. knows_move id x b may (received_knows x b.state received)) m coming bytes a

  -- what a timer does seals nothing, and accepts nothing
  pub timed_knows : (x : Move t) (s : View t) → IsTimed x → IsKnowing x s
  timed_knows (Fire after) s r = tt
  timed_knows (Arm at) s r = tt
  timed_knows Pace s r = tt
  timed_knows Discard s r = tt
  timed_knows Release s r = tt
  timed_knows Outlive s r = tt
  timed_knows (Want time count) s r = tt
  timed_knows (Raise to) s r = tt
  timed_knows (Give why) s r = tt
  timed_knows _ s r = absurd r

  -- a timeout
  knows_timeout : (id : SpaceId) (m : Meaning t) (time : ℕ) (a : At t) → Knows id a (timeout_after m time a)
  knows_timeout id m time a = holds_timeout (Knows id) (knows_here id) (knows_next id) (λ x timed b may. knows_move id x b may (timed_knows x b.state timed)) m time a

  -- each input
  knows_input : (id : SpaceId) (m : Meaning t) (i : Input) (choice : Choice) (a : At t) → IsAllowed m i choice a → Knows id a (input_after m i choice a)
  unfolding IsAllowed input_after close_after MayMove
  knows_input id m (input.Datagram time remote ecn bytes) choice a h = knows_datagram id m (record { time = time; remote = remote; mark = ecn }) bytes a
  knows_input id m (input.Timeout time) choice a h = knows_timeout id m time a
  knows_input id m (input.Transmit time max) choice a h = knows_transmit id m time max choice a h
  knows_input id m (input.Close time code reason) choice a h = closed_by id time _ a _ refl
  knows_input id m (input.Ping time) choice a h = knows_move id (Ask a.state.keys.highest) a tt tt
  knows_input id m (input.Update time) choice a h = holds_updated m (Knows id) (knows_here id) (λ b may. knows_move id (Update (fresh_now m b.state) (m.after_next b.state.lower.session)) b may tt) a
  knows_input id m (input.SendDatagram time body) choice a h = knows_move id (Post (datagrams.Sent (datagram_limit a.state) true body)) a refl tt
  knows_input id m (input.RecvDatagram time) choice a h = knows_move id (Post datagrams.Taken) a refl tt
  knows_input id m (input.Identifiers time given) choice a h = knows_move id (Issue time given) a h tt
  knows_input id m i choice a h = called_input (Knows id) (knows_here id) (knows_next id) (λ x b may. knows_move id (Call x) b may tt) i choice.read a h

  -- ---- runs

  -- what the deeds of a step acknowledge is known, and so is what is kept behind it
  record StepKnows (id : SpaceId) (s : View t) (ds : List Did) (s' : View t) : Type 0 where
    pub known : AcksKnown id (IsKept id s.waiting) ds
    pub kept : (n : ℕ) → IsKept id s'.waiting n → KnownSince id (IsKept id s.waiting) ds n

  -- each step does
  step_knows : (id : SpaceId) (m : Meaning t) (k : ℕ) (s : View t) (i : Input) (x : Step) (s' : View t) → IsStep m k s i x s' → StepKnows id s x.did s'
  unfolding called began step_after reported state_move waiting_move
  step_knows id m k s i x s' h =
      let a : At t = began s (time_of i) in
      let b : At t = input_after m i h.choice a in
      let knows : Knows id a b = knows_input id m i h.choice a h.allowed in
      let deeds : x.did ≡ knows.since = h.deeds ∙ knows.appended in
      let waiting : s'.waiting ≡ b.state.waiting = h.waiting in
      record {
        known = subst (AcksKnown id (IsKept id s.waiting)) (sym deeds) knows.known;
        kept = λ n m. subst (λ (ds : List Did). KnownSince id (IsKept id s.waiting) ds n) (sym deeds) (knows.kept n (subst (λ (v : Waiting). IsKept id v n) waiting m));
      }

  -- the packets of a run acknowledge known numbers only
  run_known : (id : SpaceId) (m : Meaning t) (k : ℕ) (s : View t) (is : List Input) (xs : List Step) (s' : View t) → Run m k s is xs s' → AcksKnown id (IsKept id s.waiting) (deeds_of xs)
  unfolding Run
  run_known id m k s [] [] s' r = tt
  run_known id m k s (i ∷ is) (x ∷ xs) s' r =
      let K : ℕ → Type 0 = IsKept id s.waiting in
      let mid : View t = r.0 in
      let step : StepKnows id s x.did mid = step_knows id m k s i x mid r.1 in
      known_append id K x.did (deeds_of xs) step.known
      (known_more id (IsKept id mid.waiting) (KnownSince id K x.did) step.kept (deeds_of xs) (run_known id m (k + 1) mid is xs s' r.2))
  run_known id m k s [] (x ∷ xs) s' r = absurd r
  run_known id m k s (i ∷ is) [] s' r = absurd r

  -- each number that a run acknowledges was accepted before, or was kept at its start
  pub run_acks_known : (m : Meaning t) (k : ℕ) (s : View t) (is : List Input) (xs : List Step) (s' : View t) → Run m k s is xs s' → EachAcksKnown s xs
  unfolding EachAcksKnown
  run_acks_known m k s is xs s' r = λ id. run_known id m k s is xs s' r

  -- the same of a run over the first inputs
  pub ran_acks_known : (m : Meaning t) (k : ℕ) (s : View t) (is : List Input) (xs : List Step) → Ran m k s is xs → EachAcksKnown s xs
  ran_acks_known m k s is xs r = run_acks_known m k s (take (length xs) is) xs r.last r.run

  -- the empty trace
  pub none_acks_known : (s : View t) (xs : List Step) → xs ≡ [] → EachAcksKnown s xs
  unfolding EachAcksKnown
  none_acks_known s xs e = subst (λ (ys : List Step). (id : SpaceId) → AcksKnown id (IsKept id s.waiting) (deeds_of ys)) (sym e) (λ id. tt)
