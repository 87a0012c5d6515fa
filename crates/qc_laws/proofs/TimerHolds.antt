-- Over a run the loss timer stands where an acknowledgement is waited for.
use Rattle.std.proofs.Common.{◌≡◌, ℕ, ◌+◌, ◌*◌, ◌<◌, List, [], ◌∷◌, ◌++◌, length, refl, ap, sym, ◌∙◌, subst, Bool, true, false, Option, Some, None, if◌then◌else◌, append_assoc, append-nil, arith}
use Rattle.std.specs.Prelude.{◌&&◌, not, is_none, nat_le}
use Rattle.qc_base.specs.declared.side.Side.TheVariants.{Client}
use Rattle.qc_base.specs.declared.side.SpaceId.{SpaceId}
use Rattle.qc_base.specs.declared.side.SpaceId.TheVariants.{Initial, Handshake, «Data»}
use Rattle.qc_frame.specs.Frame.{FrameValue}
use Rattle.qc_header.specs.HeaderGrammar.{DatagramItem}
use Rattle.qc_state.specs.declared.coming.Coming.{Coming}
use Rattle.qc_state.specs.declared.deeds.Did.{Did}
use Rattle.qc_state.specs.declared.deeds.Did.TheVariants as did
use Rattle.qc_state.specs.declared.deeds.Quiet.{Quiet}
use Rattle.qc_state.specs.declared.deeds.Quiet.TheVariants.{NothingOwed, Silent, Amplification, Congestion, Pacing, Killed}
use Rattle.qc_state.specs.declared.form.Form.{Form}
use Rattle.qc_state.specs.declared.form.Form.TheVariants as form
use Rattle.qc_state.specs.declared.input.Input.{Input}
use Rattle.qc_state.specs.declared.input.Input.TheVariants as input
use Rattle.qc_state.specs.declared.keys.KeyGroup.{KeyGroup}
use Rattle.qc_state.specs.declared.life.Close.{Close}
use Rattle.qc_state.specs.declared.life.ConnectionError.{ConnectionError}
use Rattle.qc_state.specs.declared.life.ConnectionError.TheVariants as lost
use Rattle.qc_state.specs.declared.life.State.TheVariants as state
use Rattle.qc_state.specs.declared.paths.Paths.{Paths}
use Rattle.qc_state.specs.declared.trace.Step.{Step}
use Rattle.qc_state.specs.declared.transmit.Batch.{Batch}
use Rattle.qc_laws.specs.EndLaws.{Ends}
use Rattle.qc_state.specs.Forms.{is_early, number_space}
use Rattle.qc_state.specs.Headline.{deeds_of}
use Rattle.qc_state.specs.Keys.{epoch_in, has_keys_for}
use Rattle.qc_state.specs.Life.{is_drained, is_open}
use Rattle.qc_state.specs.Moves.{Ack, Arm, Ask, Begin, Clock, Establish, Expect, Finish, Fire, Forget, Give, Hear, MayMove, Move, Pace, Probe, Raise, Release, ReportConnected, ReportDrained, ReportLost, ReportNotices, ReportReady, Say, Seal, Shut, Skip, Spend, Tell, Write, armed_after, armed_with, deeds_move, keys_move, move_to, paths_move, state_move, Call, Hold, ReportStreams, Post, ReportAllHeard, Outlive, Want, Issue, Update, Discard}
use Rattle.qc_state.specs.Numbers.{next_number}
use Rattle.qc_state.specs.Paths.{is_blocked, path_kept}
use Rattle.qc_state.specs.Receiving.{counted_after, cut_of, datagram_after, first_after, first_token, heard_after, pieces_after}
use Rattle.qc_state.specs.Recovering.{fired_by, is_validated_by_peer, loss_time}
use Rattle.qc_state.specs.Run.{IsAllowed, IsStep, Run, began, called, close_after, input_after, reported, step_after, time_of, datagram_limit}
use Rattle.qc_state.specs.Batches.{next_segment}
use Rattle.qc_state.specs.Sending.{Choice, Died, Ending, Going, Held, Hushed, MayAll, MayEnd, MayFollow, MayOpen, MayProbe, MayStand, MayTransmit, Probed, Sent, Went, begun_after, drops_initial, ending_after, finished_after, flown_after, going_from, gone_after, handshake_left, initial_left, is_flown, is_key_nearly_used_up, paced_until, packet_after, packets_after, probe_begun_after, probe_frames, probe_sealed, probed_after, sealed_in, spared_after, spent_after, told_sent, transmit_after, held_after, going_tried}
use Rattle.qc_state.specs.Stopping.{given_after, key_limit_error, killed_after}
use Rattle.qc_laws.specs.TimerLaws.{KeepsTimer, TimerHolds, awaits_ack, elicits_in, has_asked, has_probe_keys, must_probe, sealed_since}
use Rattle.qc_state.specs.Timeouts.{ack_expired, close_expired, idle_expired, loss_expired, pacing_expired, timeout_after, ids_expired, wanted_anew, keys_expired}
use Rattle.qc_state.specs.Timers.{has_come}
use Rattle.qc_state.specs.Types.{Types, Meaning}
use Rattle.qc_state.specs.View.{View, At}
use Rattle.qc_state.specs.Updating.{fresh_now, tried_after}
use Rattle.qc_state.proofs.Updates.{holds_updated}
use Rattle.qc_state.proofs.Batches.{first_opens}
use Rattle.qc_state.proofs.Begun.{begun_keys, holds_begun}
use Rattle.qc_state.proofs.Ends.{given_by, stopped_by}
use Rattle.qc_laws.proofs.EndsHold.{began_ends, ends_seal, known_keeps, step_ends}
use Rattle.qc_state.proofs.Expired.{IsTimed, holds_timeout}
use Rattle.qc_laws.proofs.KnownMoves.{IsKnownMove, packet_known}
use Rattle.qc_state.proofs.OpenPackets.{holds_packet}
use Rattle.qc_state.proofs.Probing.{due_established, due_keyed, due_validated, established_alive, probe_keys}
use Rattle.qc_state.proofs.PacketMoves.{IsInPacket, OpenPacket}
use Rattle.qc_state.proofs.ReceivedMoves.{IsUnopened, close_for}
use Rattle.qc_laws.proofs.Receives.{pieces_hold}
use Rattle.qc_state.proofs.Telling.{told_appends}
use Rattle.qc_state.proofs.Quieted.{held_paths, quiet_blocked}
use Rattle.qc_state.proofs.Transmitted.{IsUnspent, begins_keyed, free_unblocked, packet_told}
use Rattle.qc_laws.proofs.TimerMoves.{HoldsIf, IsFree, IsPlain, arm_holds, holds_if, plain_free, plain_holds, sealed_holds, since_append, timer_holds}
use Rattle.qc_laws.proofs.StreamCalls.{called_input}
use Rattle.qc_datagrams.specs.Steps as datagrams
use Rattle.qc_cids.specs.Cids.{asks_anew}
use Rattle.qc_state.proofs.Tried.{holds_tried, tried_keeps, tried_same}

-- an address that is validated blocks nothing
unblocked_at : {C : Type 0} → (p : Paths C) → p.current.validated ≡ true → is_blocked p ≡ true → ⊥
unfolding is_blocked
unblocked_at p validated h = absurd (let no : false ≡ true = ap (λ (b : Bool). not b && nat_le (3 * p.current.received) p.current.sent) (sym validated) ∙ h in cc)

module _ {t : Types} where
  -- from one moment to another the law holds on, in a time in which datagrams may be begun, or not
  record Keeps (free : Bool) (a b : At t) : Type 0 where
    pub since : List Did
    pub appended : b.did ≡ a.did ++ since
    pub holds : (late : Bool) → HoldsIf free late a.state → HoldsIf free (sealed_since late since) b.state

  keeps_here : (free : Bool) (a : At t) → Keeps free a a
  keeps_here free a = record { since = []; appended = sym (append-nil a.did); holds = λ late h. h }

  keeps_next : (free : Bool) (a b c : At t) → Keeps free a b → Keeps free b c → Keeps free a c
  keeps_next free a b c g h = record {
    since = g.since ++ h.since;
    appended = h.appended ∙ ap (λ (x : List Did). x ++ h.since) g.appended ∙ append_assoc a.did g.since h.since;
    holds = λ late k. subst (λ (x : Bool). HoldsIf free x c.state) (sym (since_append late g.since h.since)) (h.holds (sealed_since late g.since) (g.holds late k));
  }

  keeps_plain : (m : Meaning t) (free : Bool) (x : Move t) (a : At t) → IsPlain m x a.state → Keeps free a (move_to x a)
  unfolding move_to
  keeps_plain m free x a k = record { since = deeds_move x a.state; appended = told_appends a.did (deeds_move x a.state); holds = λ late h. plain_holds m x a.state free late k h }

  plain_if : (m : Meaning t) (free : Bool) (x : Move t) (a : At t) (b : Bool) → IsPlain m x a.state → Keeps free a (if b then move_to x a else a)
  plain_if m free x a true k = keeps_plain m free x a k
  plain_if m free x a false k = keeps_here free a

  -- the timer is set
  keeps_arm : (free blocked : Bool) (time : ℕ) (a : At t) → (free ≡ true → blocked ≡ false) → Keeps free a (armed_with blocked time a)
  unfolding armed_with move_to deeds_move
  keeps_arm free blocked time a unblocked = record { since = []; appended = told_appends a.did []; holds = λ late h. arm_holds free late blocked time a.state unblocked h.spaces }

  -- the connection ends
  keeps_killed : (m : Meaning t) (free : Bool) (why : ConnectionError) (a : At t) → Keeps free a (killed_after why a)
  unfolding killed_after
  keeps_killed m free why a =
      let b : At t = move_to (Raise state.Drained) a in
      keeps_next free a b _ (keeps_plain m free (Raise state.Drained) a refl) (given_by (Keeps free) (keeps_here free) (keeps_next free) why b (λ none. keeps_plain m free (Give why) b tt))

  -- ---- what the law says from one moment to another

  record Holds (a b : At t) : Type 0 where
    pub since : List Did
    pub appended : b.did ≡ a.did ++ since
    pub holds : (late : Bool) → TimerHolds late a.state → TimerHolds (sealed_since late since) b.state

  holds_here : (a : At t) → Holds a a
  holds_here a = record { since = []; appended = sym (append-nil a.did); holds = λ late h. h }

  holds_next : (a b c : At t) → Holds a b → Holds b c → Holds a c
  holds_next a b c g h = record {
    since = g.since ++ h.since;
    appended = h.appended ∙ ap (λ (x : List Did). x ++ h.since) g.appended ∙ append_assoc a.did g.since h.since;
    holds = λ late k. subst (λ (x : Bool). TimerHolds x c.state) (sym (since_append late g.since h.since)) (h.holds (sealed_since late g.since) (g.holds late k));
  }

  -- where datagrams may be begun before
  free_holds : (a b : At t) → is_blocked a.state.paths ≡ false → Keeps true a b → Holds a b
  free_holds a b is k = record { since = k.since; appended = k.appended; holds = λ late h. timer_holds true (sealed_since late k.since) b.state (λ u. refl) (k.holds late (holds_if true late a.state (λ f. is) h)) }

  -- and where none may be begun behind
  blocked_holds : (a b : At t) → is_blocked b.state.paths ≡ true → Keeps false a b → Holds a b
  blocked_holds a b is k = record {
    since = k.since;
    appended = k.appended;
    holds = λ late h. timer_holds false (sealed_since late k.since) b.state (λ u. absurd cc) (k.holds late (holds_if false late a.state (λ f. absurd cc) h));
  }

  keeps_holds : (a b : At t) (x : Bool) → is_blocked a.state.paths ≡ x → (is_blocked a.state.paths ≡ true → is_blocked b.state.paths ≡ true) → ((free : Bool) → (free ≡ true → is_blocked a.state.paths ≡ false) → Keeps free a b) → Holds a b
  keeps_holds a b true is stays k = blocked_holds a b (stays is) (k false (λ f. absurd cc))
  keeps_holds a b false is stays k = free_holds a b is (k true (λ f. is))

  -- a move that leaves whether datagrams may be begun
  plain_view : (m : Meaning t) (x : Move t) (s : View t) (late : Bool) → IsPlain m x s → is_blocked (paths_move x s) ≡ is_blocked s.paths → TimerHolds late s → TimerHolds (sealed_since late (deeds_move x s)) (state_move x s)
  unfolding state_move
  plain_view m x s late k same h = record {
    stands = λ o u w. (plain_holds m x s true late k (holds_if true late s (λ f. sym same ∙ u) h)).stands refl o w;
    spaces = (plain_holds m x s false late k (holds_if false late s (λ f. absurd cc) h)).spaces;
  }

  holds_plain : (m : Meaning t) (x : Move t) (a : At t) → IsPlain m x a.state → is_blocked (paths_move x a.state) ≡ is_blocked a.state.paths → Holds a (move_to x a)
  unfolding move_to
  holds_plain m x a k same = record { since = deeds_move x a.state; appended = told_appends a.did (deeds_move x a.state); holds = λ late h. plain_view m x a.state late k same h }

  -- ---- datagrams

  -- the law holds on while the path stays free
  record Frees (free : Bool) (a b : At t) : Type 0 where
    pub keeps : (free ≡ true → is_blocked a.state.paths ≡ false) → Keeps free a b
    pub path : (free ≡ true → is_blocked a.state.paths ≡ false) → free ≡ true → is_blocked b.state.paths ≡ false

  frees_here : (free : Bool) (a : At t) → Frees free a a
  frees_here free a = record { keeps = λ p. keeps_here free a; path = λ p. p }

  frees_next : (free : Bool) (a b c : At t) → Frees free a b → Frees free b c → Frees free a c
  frees_next free a b c g h = record { keeps = λ p. keeps_next free a b c (g.keeps p) (h.keeps (g.path p)); path = λ p. h.path (g.path p) }

  frees_plain : (m : Meaning t) (free : Bool) (x : Move t) (a : At t) → IsPlain m x a.state → IsFree x → Frees free a (move_to x a)
  unfolding move_to state_move
  frees_plain m free x a k stays = record { keeps = λ p. keeps_plain m free x a k; path = λ p f. plain_free x a.state stays (p f) }

  frees_armed : (free : Bool) (time : ℕ) (a : At t) → Frees free a (armed_with (is_blocked a.state.paths) time a)
  unfolding armed_with move_to state_move paths_move
  frees_armed free time a = record { keeps = λ p. keeps_arm free (is_blocked a.state.paths) time a p; path = λ p f. p f }

  frees_timer : (free : Bool) (time : ℕ) (due : Option ℕ) (a : At t) → due ≡ loss_time a.state (is_blocked a.state.paths) time → Frees free a (move_to (Arm due) a)
  unfolding armed_with
  frees_timer free time due a is = subst (λ (d : Option ℕ). Frees free a (move_to (Arm d) a)) (sym is) (frees_armed free time a)

  -- the moves of a packet that opened, and of one that didn't
  packet_frees : (m : Meaning t) (o : OpenPacket) (free : Bool) (x : Move t) (a : At t) → IsInPacket m o x a.state → MayMove x a.state → Frees free a (move_to x a)
  unfolding MayMove
  packet_frees m o free (Arm at) a h may = frees_timer free o.coming.time at a h
  packet_frees m o free (Seal time form n size fs) a h may = absurd h
  packet_frees m o free (Finish bytes control) a h may = absurd h
  packet_frees m o free (Probe time n bytes q) a h may = absurd h
  packet_frees m o free (Hear bytes) a h may = absurd h
  packet_frees m o free (Fire after) a h may = absurd h
  packet_frees m o free (Raise to) a h may = absurd h
  packet_frees m o free (Ack id n after) a h may = frees_plain m free (Ack id n after) a (packet_known m o (Ack id n after) a.state h) tt
  packet_frees m o free (Forget Initial) a h may = frees_plain m free (Forget Initial) a refl tt
  packet_frees m o free (Forget Handshake) a h may = frees_plain m free (Forget Handshake) a refl tt
  packet_frees m o free (Forget Data) a h may = absurd h
  packet_frees m o free (Write bytes keys session) a h may = frees_plain m free (Write bytes keys session) a may tt
  packet_frees m o free (Tell d) a h may = frees_plain m free (Tell d) a may tt
  packet_frees m o free Establish a h may = frees_plain m free Establish a may tt
  packet_frees m o free x a h may = frees_plain m free x a tt tt

  unopened_frees : (m : Meaning t) (time : ℕ) (free : Bool) (x : Move t) (a : At t) → IsUnopened time x a.state → MayMove x a.state → Frees free a (move_to x a)
  unfolding MayMove
  unopened_frees m at_time free (Arm at) a h may = frees_timer free at_time at a h
  unopened_frees m at_time free (Seal time form n size fs) a h may = absurd h
  unopened_frees m at_time free (Finish bytes control) a h may = absurd h
  unopened_frees m at_time free (Probe time n bytes q) a h may = absurd h
  unopened_frees m at_time free (Hear bytes) a h may = absurd h
  unopened_frees m at_time free (Fire after) a h may = absurd h
  unopened_frees m at_time free (Ack id n after) a h may = absurd h
  unopened_frees m at_time free (Forget id) a h may = absurd h
  unopened_frees m at_time free (Write bytes keys session) a h may = absurd h
  unopened_frees m at_time free Establish a h may = absurd h
  unopened_frees m at_time free (Raise to) a h may = frees_plain m free (Raise to) a h tt
  unopened_frees m at_time free (Tell d) a h may = frees_plain m free (Tell d) a may tt
  unopened_frees m at_time free x a h may = frees_plain m free x a tt tt

  pieces_free : (m : Meaning t) (coming : Coming) (free : Bool) (items : List DatagramItem) (a : At t) → Frees free a (pieces_after m coming items a)
  pieces_free m coming free items a =
      pieces_hold m coming (λ p. Unit {0}) (Frees free) (frees_here free) (frees_next free) (λ x b h may. unopened_frees m coming.time free x b h may)
      (λ p comes o b opened. holds_packet m o (Frees free) (frees_here free) (frees_next free) (λ x c h may. packet_frees m o free x c h may) b opened.lively) items a (λ p among. tt)

  -- the bytes of a datagram count, behind which the timer may be set
  freed_holds : (time : ℕ) (a c : At t) (x : Bool) → is_blocked c.state.paths ≡ x → Keeps false a c → Holds a (if not x then armed_after time c else c)
  unfolding armed_after armed_with move_to deeds_move
  freed_holds time a c true is k = blocked_holds a c is k
  freed_holds time a c false is k = record {
    since = k.since;
    appended = k.appended;
    holds = λ late h. timer_holds true (sealed_since late k.since) _ (λ u. refl)
        (arm_holds true (sealed_since late k.since) (is_blocked c.state.paths) time c.state (λ f. is) (k.holds late (holds_if false late a.state (λ f. absurd cc) h)).spaces);
  }

  counted_holds : (m : Meaning t) (coming : Coming) (n : ℕ) (items : List DatagramItem) (a : At t) (x : Bool) → is_blocked a.state.paths ≡ x → Holds a (counted_after coming.time x n (pieces_after m coming items a))
  unfolding counted_after
  counted_holds m coming n items a true is =
      let b : At t = pieces_after m coming items a in
      let c : At t = move_to (Hear n) b in
      freed_holds coming.time a c (is_blocked c.state.paths) refl (keeps_next false a b c ((pieces_free m coming false items a).keeps (λ f. absurd cc)) (keeps_plain m false (Hear n) b tt))
  counted_holds m coming n items a false is =
      let b : At t = pieces_after m coming items a in
      let c : At t = move_to (Hear n) b in
      free_holds a c is (keeps_next true a b c ((pieces_free m coming true items a).keeps (λ f. is)) (keeps_plain m true (Hear n) b tt))

  heard_by : (m : Meaning t) (coming : Coming) (n : ℕ) (items : List DatagramItem) (a : At t) (b : Bool) → Holds a (if b then counted_after coming.time (is_blocked a.state.paths) n (pieces_after m coming items a) else a)
  heard_by m coming n items a true = counted_holds m coming n items a (is_blocked a.state.paths) refl
  heard_by m coming n items a false = holds_here a

  heard_holds : (m : Meaning t) (coming : Coming) (bytes : List ℕ) (a : At t) → Holds a (heard_after m coming bytes a)
  unfolding heard_after
  heard_holds m coming bytes a = heard_by m coming (length bytes) (cut_of a.state bytes) a _

  first_holds : (m : Meaning t) (coming : Coming) (bytes : List ℕ) (token : Option (List ℕ)) (a : At t) → Holds a (first_after m coming bytes token a)
  unfolding paths_move
  first_holds m coming bytes None a = holds_here a
  first_holds m coming bytes (Some token) a = let b : At t = move_to (Expect token) a in holds_next a b _ (holds_plain m (Expect token) a tt refl) (heard_holds m coming bytes b)

  datagram_by : (m : Meaning t) (coming : Coming) (bytes : List ℕ) (token : Option (List ℕ)) (a : At t) (b : Bool) → Holds a (if b then first_after m coming bytes token a else heard_after m coming bytes a)
  datagram_by m coming bytes token a true = first_holds m coming bytes token a
  datagram_by m coming bytes token a false = heard_holds m coming bytes a

  datagram_holds : (m : Meaning t) (coming : Coming) (bytes : List ℕ) (a : At t) → Holds a (datagram_after m coming bytes a)
  unfolding datagram_after
  datagram_holds m coming bytes a = datagram_by m coming bytes (first_token m a.state coming.remote bytes) a _

  -- ---- timeouts

  -- they leave whether datagrams may be begun
  timed_blocked : (x : Move t) → IsTimed x → (a : At t) → is_blocked (move_to x a).state.paths ≡ is_blocked a.state.paths
  unfolding move_to state_move paths_move path_kept is_blocked
  timed_blocked (Fire r) h a = refl
  timed_blocked (Arm at) h a = refl
  timed_blocked Pace h a = refl
  timed_blocked Discard h a = refl
  timed_blocked Release h a = refl
  timed_blocked Outlive h a = refl
  timed_blocked (Want time count) h a = refl
  timed_blocked (Raise to) h a = refl
  timed_blocked (Give why) h a = refl
  timed_blocked _ h a = absurd h

  timeout_blocked : (m : Meaning t) (time : ℕ) (a : At t) → is_blocked (timeout_after m time a).state.paths ≡ is_blocked a.state.paths
  timeout_blocked m time a = holds_timeout (λ (b c : At t). is_blocked c.state.paths ≡ is_blocked b.state.paths) (λ b. refl) (λ b c d g h. h ∙ g) (λ x h b may. timed_blocked x h b) m time a

  loss_keeps : (m : Meaning t) (free : Bool) (time : ℕ) (a : At t) (b : Bool) → (free ≡ true → is_blocked a.state.paths ≡ false) → Keeps free a (if b then armed_after time (move_to (Fire (fired_by m time a.state)) a) else a)
  unfolding armed_after
  loss_keeps m free time a true unblocked =
      let b : At t = move_to (Fire (fired_by m time a.state)) a in
      keeps_next free a b _ (keeps_plain m free (Fire (fired_by m time a.state)) a (record { time = time; is = refl })) (keeps_arm free (is_blocked b.state.paths) time b (λ f. timed_blocked (Fire (fired_by m time a.state)) tt a ∙ unblocked f))
  loss_keeps m free time a false unblocked = keeps_here free a

  idle_keeps : (m : Meaning t) (free : Bool) (why : ConnectionError) (a : At t) (b : Bool) → Keeps free a (if b then killed_after why a else a)
  idle_keeps m free why a true = keeps_killed m free why a
  idle_keeps m free why a false = keeps_here free a

  outlived_keeps : (m : Meaning t) (free : Bool) (time : ℕ) (a : At t) (b : Bool) → Keeps free a (if b then wanted_anew time (asks_anew a.state.lower.ids) (move_to Outlive a) else a)
  outlived_keeps m free time a true =
      let b : At t = move_to Outlive a in
      keeps_next free a b (wanted_anew time (asks_anew a.state.lower.ids) b) (keeps_plain m free Outlive a tt) (plain_if m free (Want time (asks_anew a.state.lower.ids)) b (is_open b.state.life.state) tt)
  outlived_keeps m free time a false = keeps_here free a

  alive_keeps : (m : Meaning t) (free : Bool) (time : ℕ) (a : At t) (b : Bool) → (free ≡ true → is_blocked a.state.paths ≡ false) →
      Keeps free a (if b then a else ack_expired time (ids_expired time (pacing_expired time (keys_expired time (close_expired time (idle_expired time (loss_expired m time a)))))))
  unfolding loss_expired idle_expired close_expired keys_expired pacing_expired ids_expired ack_expired
  alive_keeps m free time a true unblocked = keeps_here free a
  alive_keeps m free time a false unblocked =
      let b : At t = loss_expired m time a in
      let c : At t = idle_expired time b in
      let d : At t = close_expired time c in
      let k : At t = keys_expired time d in
      let e : At t = pacing_expired time k in
      let f : At t = ids_expired time e in
      keeps_next free a b _ (loss_keeps m free time a (has_come a.state.timers.loss_detection time) unblocked)
      (keeps_next free b c _ (idle_keeps m free lost.TimedOut b (has_come b.state.timers.idle time))
      (keeps_next free c d _ (plain_if m free (Raise state.Drained) c (has_come c.state.timers.close time) refl)
      (keeps_next free d k _ (plain_if m free Discard d (has_come d.state.timers.key_discard time) tt)
      (keeps_next free k e _ (plain_if m free Pace k (has_come k.state.timers.pacing time) tt)
      (keeps_next free e f _ (outlived_keeps m free time e (has_come e.state.timers.push_new_cid time)) (plain_if m free Release f (has_come f.state.timers.max_ack_delay time) tt))))))

  timeout_keeps : (m : Meaning t) (free : Bool) (time : ℕ) (a : At t) → (free ≡ true → is_blocked a.state.paths ≡ false) → Keeps free a (timeout_after m time a)
  unfolding timeout_after
  timeout_keeps m free time a unblocked = alive_keeps m free time a (is_drained a.state.life.state) unblocked

  timeout_holds : (m : Meaning t) (time : ℕ) (a : At t) → Holds a (timeout_after m time a)
  timeout_holds m time a = keeps_holds a (timeout_after m time a) (is_blocked a.state.paths) refl (λ b. timeout_blocked m time a ∙ b) (λ free unblocked. timeout_keeps m free time a unblocked)

  -- ---- transmits

  flown_deeds : (m : Meaning t) (time size : ℕ) (a : At t) (b : Bool) → (flown_after m time size b a).did ≡ a.did
  unfolding armed_with spent_after move_to deeds_move
  flown_deeds m time size a true = refl
  flown_deeds m time size a false = refl

  sealed_deeds : (m : Meaning t) (time : ℕ) (form : Form) (fs : List FrameValue) (a : At t) →
      (sealed_in m time form fs a).did ≡ a.did ++ did.Sealed (number_space form) (next_number a.state.numbers (number_space form)) (epoch_in a.state.keys form) (is_early form) fs ∷ []
  unfolding sealed_in move_to state_move keys_move deeds_move
  sealed_deeds m time form fs a = flown_deeds m time _ _ (is_flown a.state fs)

  keeps_sealed : (m : Meaning t) (free : Bool) (time : ℕ) (form : Form) (fs : List FrameValue) (a : At t) → Ends a.state → has_keys_for a.state.keys form ≡ true → Keeps free a (sealed_in m time form fs a)
  keeps_sealed m free time form fs a ends keyed = record {
    since = did.Sealed (number_space form) (next_number a.state.numbers (number_space form)) (epoch_in a.state.keys form) (is_early form) fs ∷ [];
    appended = sealed_deeds m time form fs a;
    holds = λ late h. sealed_holds m free late time form fs a ends.owed keyed h;
  }

  begun_ends : (m : Meaning t) (id : SpaceId) (opens : Bool) (a : At t) → Ends a.state → Ends (begun_after id opens a).state
  unfolding MayMove
  begun_ends m id opens a ends =
      holds_begun (λ (b c : At t). Ends b.state → Ends c.state) (λ b h. h) (λ b c d g h e. h (g e)) id opens a (λ b. known_keeps m (Begin id opens) b tt tt) (λ b may. known_keeps m Skip b tt may) ends

  packet_keeps : (m : Meaning t) (free : Bool) (time : ℕ) (p : Sent) (g : Going t) → Ends g.now.state → MayFollow m time g.now.state g.batch p → Keeps free g.now (packet_after m time p g).now
  unfolding packet_after
  packet_keeps m free time p g ends may =
      let id : SpaceId = number_space p.form in
      let b : At t = begun_after id p.opens g.now in
      keeps_next free g.now b _ (holds_begun (Keeps free) (keeps_here free) (keeps_next free) id p.opens g.now (λ c. keeps_plain m free (Begin id p.opens) c tt) (λ c may. keeps_plain m free Skip c tt))
      (keeps_sealed m free time p.form p.frames b (begun_ends m id p.opens g.now ends)
      (ap (λ (k : KeyGroup t.H t.P). has_keys_for k p.form) (begun_keys id p.opens g.now) ∙ begins_keyed m time g.now.state g.batch p.form p.opens may.begins))

  left_keeps : (m : Meaning t) (free : Bool) (time : ℕ) (a : At t) (b : Bool) → Keeps free a (if b then armed_with false time (move_to (Forget Initial) a) else a)
  left_keeps m free time a true = let b : At t = move_to (Forget Initial) a in keeps_next free a b _ (keeps_plain m free (Forget Initial) a refl) (keeps_arm free false time b (λ f. refl))
  left_keeps m free time a false = keeps_here free a

  shook_keeps : (m : Meaning t) (free : Bool) (time : ℕ) (shook : Bool) (a : At t) → Keeps free a (handshake_left time shook a)
  unfolding initial_left
  shook_keeps m free time true a = left_keeps m free time a (drops_initial Client a.state Handshake)
  shook_keeps m free time false a = keeps_here free a

  spared_keeps : (m : Meaning t) (free : Bool) (time : ℕ) (nearly : Bool) (a : At t) → Keeps free a (spared_after time nearly a)
  unfolding spared_after
  spared_keeps m free time true a =
      let b : At t = move_to (Shut time (close_for key_limit_error)) a in
      stopped_by (Keeps free) (keeps_here free) (keeps_next free) time key_limit_error a (λ low. keeps_plain m free (Shut time (close_for key_limit_error)) a tt) (λ none. keeps_plain m free (Give (lost.TransportError key_limit_error)) b tt)
  spared_keeps m free time false a = keeps_here free a

  held_keeps : (m : Meaning t) (free : Bool) (time : ℕ) (quiet : Quiet) (b : Batch) (a : At t) → Keeps free a (held_after m time quiet b a)
  unfolding held_after
  held_keeps m free time Pacing b a = keeps_plain m free (Hold _) a tt
  held_keeps m free time NothingOwed b a = keeps_here free a
  held_keeps m free time Silent b a = keeps_here free a
  held_keeps m free time Amplification b a = keeps_here free a
  held_keeps m free time Congestion b a = keeps_here free a
  held_keeps m free time Killed b a = keeps_here free a

  finished_keeps : (m : Meaning t) (free : Bool) (time : ℕ) (b : Batch) (a : At t) → Keeps free a (finished_after m time b a)
  unfolding finished_after told_sent
  finished_keeps m free time b a =
      let c : At t = handshake_left time b.shook a in
      let d : At t = spared_after time b.worn c in
      keeps_next free a c _ (shook_keeps m free time b.shook a) (keeps_next free c d _ (spared_keeps m free time b.worn c) (keeps_plain m free (Finish b.total _) d tt))

  -- a probe of the path's size
  held_ends : (m : Meaning t) (time : ℕ) (quiet : Quiet) (b : Batch) (a : At t) → is_drained a.state.life.state ≡ false → Ends a.state → Ends (held_after m time quiet b a).state
  unfolding held_after MayMove
  held_ends m time Pacing b a alive h = known_keeps m (Hold (paced_until m time a.state (next_segment b))) a tt alive h
  held_ends m time NothingOwed b a alive h = h
  held_ends m time Silent b a alive h = h
  held_ends m time Amplification b a alive h = h
  held_ends m time Congestion b a alive h = h
  held_ends m time Killed b a alive h = h

  asked_ends : (m : Meaning t) (id : SpaceId) (a : At t) → Ends a.state → Ends (move_to (Ask id) a).state
  unfolding MayMove
  asked_ends m id a h = known_keeps m (Ask id) a tt tt h

  probe_keeps : (m : Meaning t) (free : Bool) (time size : ℕ) (quiet : Quiet) (b : Batch) (a : At t) → Ends a.state → MayProbe m time a.state b quiet size → Keeps free a (probed_after m time size quiet b a)
  unfolding probed_after probe_sealed probe_begun_after
  probe_keeps m free time size quiet b a ends may =
      let held : At t = held_after m time quiet b a in
      let asked : At t = move_to (Ask «Data») held in
      let begun : At t = probe_begun_after m time quiet b a in
      let fs : List FrameValue = probe_frames begun.state size in
      let taken : At t = sealed_in m time form.OneRtt fs begun in
      let probe : Move t = Probe time (next_number begun.state.numbers «Data») size quiet in
      let kept : Ends begun.state = begun_ends m «Data» false asked (asked_ends m «Data» held (held_ends m time quiet b a (established_alive a.state.life.state (due_established time size a.state may.due)) ends)) in
      let keyed : has_keys_for begun.state.keys form.OneRtt ≡ true = ap (λ (k : KeyGroup t.H t.P). has_keys_for k form.OneRtt) (probe_keys m time quiet b a) ∙ due_keyed time size a.state may.due in
      keeps_next free a held _ (held_keeps m free time quiet b a)
      (keeps_next free held asked _ (keeps_plain m free (Ask «Data») held tt)
      (keeps_next free asked begun _ (holds_begun (Keeps free) (keeps_here free) (keeps_next free) «Data» false asked (λ c. keeps_plain m free (Begin «Data» false) c tt) (λ c may. keeps_plain m free Skip c tt))
      (keeps_next free begun taken _ (keeps_sealed m free time form.OneRtt fs begun kept keyed)
      (keeps_next free taken (move_to probe taken) _ (keeps_plain m free probe taken tt) (spared_keeps m free time (is_key_nearly_used_up begun.state form.OneRtt) (move_to probe taken))))))

  -- an update that is tried for a packet keeps both
  tried_ends : (m : Meaning t) (f : Form) (a : At t) → Ends a.state → Ends (tried_after m f a).state
  tried_ends m f a = holds_tried m (λ (b c : At t). Ends b.state → Ends c.state) (λ b h. h) (λ b may. known_keeps m (Update _ _) b tt may) f a

  tried_holds : (m : Meaning t) (free : Bool) (f : Form) (a : At t) → Keeps free a (tried_after m f a)
  tried_holds m free f a = holds_tried m (Keeps free) (keeps_here free) (λ b may. keeps_plain m free (Update _ _) b tt) f a

  ending_keeps : (m : Meaning t) (free : Bool) (time : ℕ) (e : Ending) (b : Batch) (a : At t) → Ends a.state → MayEnd m time e a.state b → Keeps free a (ending_after m time e b a)
  unfolding ending_after
  ending_keeps m free time Went b a ends may = finished_keeps m free time b a
  ending_keeps m free time Held b a ends may = let c : At t = held_after m time Pacing b a in keeps_next free a c _ (held_keeps m free time Pacing b a) (finished_keeps m free time b c)
  ending_keeps m free time (Hushed quiet) b a ends may = let c : At t = held_after m time quiet b a in keeps_next free a c _ (held_keeps m free time quiet b a) (keeps_plain m free (Say quiet) c tt)
  ending_keeps m free time (Probed quiet size) b a ends may =
      let c : At t = tried_after m form.OneRtt a in
      keeps_next free a c _ (tried_holds m free form.OneRtt a)
      (probe_keeps m free time size quiet b c (tried_ends m form.OneRtt a ends) (subst (λ (s : View t). MayProbe m time s b quiet size) (sym (tried_same m form.OneRtt a)) may.0))
  ending_keeps m free time (Died f why) b a ends may =
      let d : At t = tried_after m f a in
      let c : At t = killed_after why d in
      keeps_next free a d _ (tried_holds m free f a) (keeps_next free d c _ (keeps_killed m free why d) (keeps_plain m free (Say Killed) c tt))

  -- a transmit that seals nothing leaves the path
  given_paths : (why : ConnectionError) (a : At t) (b : Bool) → let c : At t = move_to (Raise state.Drained) a in (if b then move_to (Give why) c else c).state.paths ≡ a.state.paths
  unfolding move_to state_move paths_move
  given_paths why a true = refl
  given_paths why a false = refl

  killed_paths : (why : ConnectionError) (a : At t) → (killed_after why a).state.paths ≡ a.state.paths
  unfolding killed_after given_after
  killed_paths why a = given_paths why a (is_none (move_to (Raise state.Drained) a).state.life.reason)

  quiet_stays : (m : Meaning t) (time : ℕ) (e : Ending) (b : Batch) (a : At t) → b.made ≡ 0 → MayEnd m time e a.state b → is_blocked a.state.paths ≡ true → is_blocked (ending_after m time e b a).state.paths ≡ true
  unfolding ending_after move_to state_move paths_move
  quiet_stays m time Went b a none may h = let some : 0 < b.made = may.some in absurd (omega (arith, none, some))
  quiet_stays m time Held b a none may h = let some : 0 < b.made = may.0.some in absurd (omega (arith, none, some))
  quiet_stays m time (Hushed quiet) b a none may h = quiet_blocked (held_after m time quiet b a).state.paths quiet ∙ ap (λ (p : Paths t.C). is_blocked p) (held_paths m time quiet b a) ∙ h
  quiet_stays m time (Probed quiet size) b a none may h =
      let c : At t = tried_after m form.OneRtt a in
      let same : c.state.paths ≡ a.state.paths = (tried_keeps m form.OneRtt a).paths in
      let probe : MayProbe m time c.state b quiet size = subst (λ (s : View t). MayProbe m time s b quiet size) (sym (tried_same m form.OneRtt a)) may.0 in
      absurd (unblocked_at c.state.paths (due_validated time size c.state probe.due) (ap (λ (p : Paths t.C). is_blocked p) same ∙ h))
  quiet_stays m time (Died f why) b a none may h =
      let d : At t = tried_after m f a in
      quiet_blocked (killed_after why d).state.paths Killed ∙ ap (λ (p : Paths t.C). is_blocked p) (killed_paths why d ∙ (tried_keeps m f a).paths) ∙ h

  -- the moves of a packet keep what is known of the end of a connection
  unspent_known : (m : Meaning t) (x : Move t) (s : View t) → IsUnspent x → IsKnownMove m x s
  unspent_known m (Begin id opens) s r = tt
  unspent_known m Skip s r = tt
  unspent_known m (Update fresh session) s r = absurd r
  unspent_known m (Arm at) s r = tt
  unspent_known m _ s r = absurd r

  packet_ends : (m : Meaning t) (time : ℕ) (p : Sent) (g : Going t) → MayFollow m time g.now.state g.batch p → Ends g.now.state → Ends (packet_after m time p g).now.state
  unfolding spent_after MayMove
  packet_ends m time p g may =
      packet_told m (λ (b c : At t). Ends b.state → Ends c.state) (λ b h. h) (λ b c d g h e. h (g e)) (λ x r b h. known_keeps m x b (unspent_known m x b.state r) h)
      (λ at_time size b. known_keeps m (Spend _) b (record { time = at_time; size = size; is = refl }) tt) (λ at_time form fs b h. ends_seal at_time form fs b h) time p g may

  all_ends : (m : Meaning t) (time : ℕ) (ps : List Sent) (g : Going t) → MayAll m time g ps → Ends g.now.state → Ends (packets_after m time ps g).now.state
  all_ends m time [] g may ends = ends
  all_ends m time (p ∷ ps) g may ends =
      let f : Going t = going_tried m p.form g in
      all_ends m time ps (packet_after m time p f) may.1 (packet_ends m time p f may.0 (tried_ends m p.form g.now ends))

  packets_keep : (m : Meaning t) (free : Bool) (time : ℕ) (ps : List Sent) (g : Going t) → Ends g.now.state → MayAll m time g ps → Keeps free g.now (packets_after m time ps g).now
  packets_keep m free time [] g ends may = keeps_here free g.now
  packets_keep m free time (p ∷ ps) g ends may =
      let f : Going t = going_tried m p.form g in
      let h : Going t = packet_after m time p f in
      let kept : Ends f.now.state = tried_ends m p.form g.now ends in
      keeps_next free g.now f.now _ (tried_holds m free p.form g.now)
      (keeps_next free f.now h.now _ (packet_keeps m free time p f kept may.0) (packets_keep m free time ps h (packet_ends m time p f may.0 kept) may.1))

  -- the first packet of a transmit begins a datagram, so that the path isn't blocked as it begins
  first_free : (m : Meaning t) (time asked : ℕ) (p : Sent) (a : At t) → MayFollow m time (tried_after m p.form a).state (going_from asked a).batch p → is_blocked a.state.paths ≡ false
  first_free m time asked p a may =
      let b : Batch = (going_from asked a).batch in
      let c : At t = tried_after m p.form a in
      let place : MayOpen m time c.state b (number_space p.form) = subst (λ (o : Bool). MayStand m time c.state b (number_space p.form) o) (first_opens m time c.state b p may refl) may.begins.place in
      ap (λ (q : Paths t.C). is_blocked q) (sym (tried_keeps m p.form a).paths) ∙ free_unblocked m time c.state b (number_space p.form) place.free

  packets_hold : (m : Meaning t) (time asked : ℕ) (ps : List Sent) (e : Ending) (a : At t) → let g : Going t = packets_after m time ps (going_from asked a) in
      Ends a.state → MayAll m time (going_from asked a) ps → MayEnd m time e g.now.state g.batch → Holds a (ending_after m time e g.batch g.now)
  packets_hold m time asked [] e a ends may end =
      keeps_holds a _ (is_blocked a.state.paths) refl (quiet_stays m time e (going_from asked a).batch a refl end) (λ free unblocked. ending_keeps m free time e (going_from asked a).batch a ends end)
  packets_hold m time asked (p ∷ ps) e a ends may end =
      let g : Going t = packets_after m time (p ∷ ps) (going_from asked a) in
      free_holds a _ (first_free m time asked p a may.0) (keeps_next true a g.now _ (packets_keep m true time (p ∷ ps) (going_from asked a) ends may) (ending_keeps m true time e g.batch g.now (all_ends m time (p ∷ ps) (going_from asked a) may ends) end))

  transmit_holds : (m : Meaning t) (time asked : ℕ) (choice : Choice) (a : At t) → Ends a.state → MayTransmit m time asked choice a → Holds a (transmit_after m time asked choice a)
  unfolding MayTransmit transmit_after gone_after
  transmit_holds m time asked choice a ends may = packets_hold m time asked choice.packets choice.ending a ends may.0 may.1

  -- ---- inputs, steps and runs

  closed_by : (m : Meaning t) (time : ℕ) (close : Close) (a : At t) (b : Bool) → Holds a (if b then move_to (Shut time close) a else a)
  unfolding paths_move
  closed_by m time close a true = holds_plain m (Shut time close) a tt refl
  closed_by m time close a false = holds_here a

  input_holds : (m : Meaning t) (i : Input) (choice : Choice) (a : At t) → Ends a.state → IsAllowed m i choice a → Holds a (input_after m i choice a)
  unfolding IsAllowed input_after close_after paths_move
  input_holds m (input.Datagram time remote ecn bytes) choice a ends may = datagram_holds m (record { time = time; remote = remote; mark = ecn }) bytes a
  input_holds m (input.Timeout time) choice a ends may = timeout_holds m time a
  input_holds m (input.Transmit time max) choice a ends may = transmit_holds m time max choice a ends may
  input_holds m (input.Close time code reason) choice a ends may = closed_by m time _ a (is_open a.state.life.state)
  input_holds m (input.Ping time) choice a ends may = holds_plain m (Ask a.state.keys.highest) a tt refl
  input_holds m (input.Update time) choice a ends may = holds_updated m Holds holds_here (λ b may_be. holds_plain m (Update (fresh_now m b.state) (m.after_next b.state.lower.session)) b tt refl) a
  input_holds m (input.SendDatagram time body) choice a ends may = holds_plain m (Post (datagrams.Sent (datagram_limit a.state) true body)) a tt refl
  input_holds m (input.RecvDatagram time) choice a ends may = holds_plain m (Post datagrams.Taken) a tt refl
  input_holds m (input.Identifiers time given) choice a ends may = holds_plain m (Issue time given) a tt refl
  input_holds m i choice a ends may = called_input Holds holds_here holds_next (λ x b h. holds_plain m (Call x) b tt refl) i choice.read a may

  -- so of another view with the same life, path, timer, keys, setup and packets in flight
  same_view : (late : Bool) (v w : View t) → w.life ≡ v.life → w.paths ≡ v.paths → w.timers ≡ v.timers → w.lower ≡ v.lower → w.keys ≡ v.keys → w.setup ≡ v.setup → TimerHolds late v → TimerHolds late w
  unfolding awaits_ack elicits_in must_probe is_validated_by_peer has_probe_keys has_asked
  same_view late v w life paths timers lower keys setup h =
      subst (λ (x : View t). TimerHolds late x) (sym (λ i. record { numbers = w.numbers; keys = keys i; life = life i; paths = paths i; timers = timers i; waiting = w.waiting; setup = setup i; lower = lower i; issuer = w.issuer }))
      (record { stands = h.stands; spaces = λ id. record { flight = (h.spaces id).flight; keyed = (h.spaces id).keyed; below = (h.spaces id).below } })

  began_holds : (m : Meaning t) (s : View t) (time : ℕ) (late : Bool) → TimerHolds late s → TimerHolds late (began s time).state
  unfolding began deeds_move paths_move
  began_holds m s time late h = plain_view m (Clock time) s late tt refl h

  reported_holds : (m : Meaning t) (s : View t) (late : Bool) → TimerHolds late s → TimerHolds late (reported s)
  unfolding reported deeds_move paths_move state_move
  reported_holds m s late h =
      let a : View t = state_move ReportReady s in
      let b : View t = state_move ReportConnected a in
      let heard : View t = state_move ReportAllHeard b in
      let c : View t = state_move ReportStreams heard in
      let d : View t = state_move ReportLost c in
      let e : View t = state_move ReportNotices d in
      plain_view m ReportDrained e late tt refl
      (plain_view m ReportNotices d late tt refl
      (plain_view m ReportLost c late tt refl
      (plain_view m ReportStreams heard late tt refl (plain_view m ReportAllHeard b late tt refl (plain_view m ReportConnected a late tt refl (plain_view m ReportReady s late tt refl h))))))

  step_holds : (m : Meaning t) (k : ℕ) (s : View t) (i : Input) (x : Step) (s' : View t) → IsStep m k s i x s' → Ends s → KeepsTimer x.did s s'
  unfolding called began step_after
  step_holds m k s i x s' h ends =
      let a : At t = began s (time_of i) in
      let holds : Holds a (input_after m i h.choice a) = input_holds m i h.choice a (began_ends s (time_of i) ends) h.allowed in
      let deeds : x.did ≡ holds.since = h.deeds ∙ holds.appended in
      record {
        timer = λ late k. subst (λ (ds : List Did). TimerHolds (sealed_since late ds) s') (sym deeds)
            (same_view (sealed_since late holds.since) (step_after m s i h.choice) s' h.life h.paths h.timers h.lower h.keys h.setup (reported_holds m (input_after m i h.choice a).state (sealed_since late holds.since) (holds.holds late (began_holds m s (time_of i) late k))));
      }

  pub run_keeps_timer : (m : Meaning t) (k : ℕ) (s : View t) (is : List Input) (xs : List Step) (s' : View t) → Run m k s is xs s' → Ends s → KeepsTimer (deeds_of xs) s s'
  unfolding Run
  run_keeps_timer m k s [] [] s' r ends = record { timer = λ late h. subst (λ (v : View t). TimerHolds late v) (sym r) h }
  run_keeps_timer m k s (i ∷ is) (x ∷ xs) s' r ends =
      let first : KeepsTimer x.did s r.0 = step_holds m k s i x r.0 r.1 ends in
      let rest : KeepsTimer (deeds_of xs) r.0 s' = run_keeps_timer m (k + 1) r.0 is xs s' r.2 (step_ends m k s i x r.0 r.1 ends) in
      record { timer = λ late h. subst (λ (b : Bool). TimerHolds b s') (sym (since_append late x.did (deeds_of xs))) (rest.timer (sealed_since late x.did) (first.timer late h)) }
  run_keeps_timer m k s [] (x ∷ xs) s' r ends = absurd r
  run_keeps_timer m k s (i ∷ is) [] s' r ends = absurd r
