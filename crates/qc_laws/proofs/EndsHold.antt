-- Over a run the timers stand as the life has it, and a close is owed only where an end has closed.
use Rattle.std.proofs.Common.{◌≡◌, ℕ, ◌+◌, ◌<◌, List, [], ◌∷◌, refl, ap, sym, ◌∙◌, subst, Bool, true, false, Option, Some, None, if◌then◌else◌, arith}
use Rattle.std.specs.Prelude.{◌&&◌, is_none, is_some}
use Rattle.std.specs.List.{list_any}
use Rattle.qc_base.specs.declared.side.SpaceId.{SpaceId}
use Rattle.qc_base.specs.declared.side.SpaceId.TheVariants.{«Data»}
use Rattle.qc_frame.specs.Frame.{FrameValue}
use Rattle.qc_frame.specs.FrameSpelling.{elicits}
use Rattle.qc_recovery.specs.declared.calls.Fired.{Fired}
use Rattle.qc_recovery.specs.declared.calls.Fired.TheVariants as fired
use Rattle.qc_state.specs.declared.form.Form.{Form}
use Rattle.qc_state.specs.declared.input.Input.{Input}
use Rattle.qc_state.specs.declared.life.ConnectionError.{ConnectionError}
use Rattle.qc_state.specs.declared.life.Life.{Life}
use Rattle.qc_state.specs.declared.life.State.{State}
use Rattle.qc_state.specs.declared.life.State.TheVariants as state
use Rattle.qc_state.specs.declared.timers.Timers.{Timers}
use Rattle.qc_state.specs.declared.trace.Step.{Step}
use Rattle.qc_state.specs.declared.waiting.Waiting.{Waiting}
use Rattle.qc_state.specs.Acks.{is_ack}
use Rattle.qc_laws.specs.EndLaws.{EndHolds, Ends, NoTimer}
use Rattle.qc_state.specs.Forms.{number_space}
use Rattle.qc_state.specs.Life.{connected_reported, data_ready, drained_reported, identifiers_wanted, is_closed, is_drained, is_open, life_closed, life_drained, life_established, life_raised, lost_reported, rank_of, ready_reported, reason_given, token_learned, notice_reported, notices_reported, all_heard_reported, is_over}
use Rattle.qc_state.specs.Keys.{ring_of, sets_floor}
use Rattle.qc_state.specs.Moves.{Probe, Accept, Ack, Arm, Ask, Begin, Clock, Come, Confirm, PeerClosesToo, Enter, Establish, Expect, Fail, Finish, Fire, Fix, Forget, Give, Hear, IsArmed, Learn, PeerCloses, MayMove, Move, Owe, Pace, Raise, Read, Ready, Release, ReportConnected, ReportDrained, ReportLost, ReportReady, ReportNotice, ReportNotices, Say, Seal, Shut, Skip, Take, Tell, Token, Want, Write, keys_move, life_move, move_to, numbers_move, state_move, timers_move, waiting_move, Call, Hand, ReportStream, ReportStreams, Post, ReportHeard, ReportAllHeard, Insert, Switch, Retire, Issue, Outlive, Hold, Spend, Discard, Unseal, Update, Renew}
use Rattle.qc_state.specs.Numbers.{next_number}
use Rattle.qc_state.specs.Offers.{packet_begun}
use Rattle.qc_state.specs.Recovering.{loss_time, probe_timeout_now}
use Rattle.qc_state.specs.Run.{IsStep, Run, began, called, input_after, reported, step_after, time_of}
use Rattle.qc_state.specs.Sending.{packet_size}
use Rattle.qc_state.specs.Setup.{idle_limit_now}
use Rattle.qc_state.specs.Timers.{clock_set, timers_acking, timers_armed, timers_closing, timers_held, timers_paced, timers_released, timers_sealed, timers_stopped, timers_issued, timers_outlived, timers_keeping, timers_discarded}
use Rattle.qc_state.specs.Types.{Types, Meaning}
use Rattle.qc_state.specs.View.{View, At}
use Rattle.qc_state.specs.Waiting.{ack_released, bundle_next, close_begun, crypto_written, done_asked, fired_in, packet_came, packet_told, packets_acked, frames_again, packets_lost, ping_asked, probe_spent, probes_added, space_left, waiting_without, hello_again}
use Rattle.qc_laws.proofs.Inputs.{IsMade, holds_input}
use Rattle.qc_laws.proofs.KnownMoves.{IsKnownMove}
use Rattle.qc_state.proofs.Probed.{begun_holds}
use Rattle.qc_state.proofs.Telling.{open_rank}
use Rattle.qc_state.proofs.Transmitted.{IsSealable}
use Rattle.qc_state.specs.Datagrams.{tells_datagram}
use Rattle.qc_laws.proofs.StreamCalls.{heard_state, named_state, retired_state}
use Rattle.qc_cids.specs.Cids.{asks_one, next_token, token_by}
use Rattle.qc_ids.specs.LocalCids.{may_retire}
use Rattle.qc_state.specs.Ids.{active_limit}

-- an open life hasn't drained
open_alive : (s : State) → is_open s ≡ true → is_drained s ≡ false
open_alive state.Handshake h = refl
open_alive state.Established h = refl
open_alive state.Closed h = refl
open_alive state.Draining h = refl
open_alive state.Drained h = cc

drained_shut : (s : State) → is_drained s ≡ true → is_open s ≡ false
drained_shut state.Handshake h = cc
drained_shut state.Established h = cc
drained_shut state.Closed h = cc
drained_shut state.Draining h = cc
drained_shut state.Drained h = refl

-- a life that is closed has the rank 2
closed_two : (s : State) → is_closed s ≡ true → rank_of s ≡ 2
closed_two state.Handshake h = cc
closed_two state.Established h = cc
closed_two state.Closed h = refl
closed_two state.Draining h = cc
closed_two state.Drained h = cc

-- before the rise to Established the life is open
pub low_open : (s : State) → rank_of s < 1 → is_open s ≡ true
low_open state.Handshake h = refl
low_open state.Established h = refl
low_open state.Closed h = absurd (omega (arith, h))
low_open state.Draining h = absurd (omega (arith, h))
low_open state.Drained h = absurd (omega (arith, h))

-- of two tests that hold the first holds
first_holds : (a b : Bool) → (a && b) ≡ true → a ≡ true
first_holds true b h = refl
first_holds false b h = cc

-- a reason leaves the life where it stands
given_state : (v : Life) (why : ConnectionError) (b : Bool) → (if b then record v { reason = Some why; lost = Some why } else v).state ≡ v.state
given_state v why true = refl
given_state v why false = refl

-- a packet that is sealed leaves the close timer
sealed_close : (v : Timers) (limit : Option ℕ) (probe time : ℕ) (a b : Bool) → (timers_acking (if a then timers_sealed v limit probe time else v) b).close ≡ v.close
unfolding timers_acking timers_sealed
sealed_close v limit probe time true true = refl
sealed_close v limit probe time true false = refl
sealed_close v limit probe time false true = refl
sealed_close v limit probe time false false = refl

-- whether a close is owed: bundles, and what the loss timer does, leave it
bundled_owed : (v : Waiting) (next : ℕ) (b : Bool) → (if b then record v { bundled = Some next } else v).close_owed ≡ v.close_owed
bundled_owed v next true = refl
bundled_owed v next false = refl

fired_owed : (v : Waiting) (f : Fired) → (fired_in v f).close_owed ≡ v.close_owed
unfolding packets_lost probes_added
fired_owed v (fired.Lost id lost) = refl
fired_owed v (fired.Probe id count) = refl
fired_owed v fired.Nothing = refl

-- where all three stand as before
same_holds : (l l' : State) (v v' : Timers) (o o' : Bool) → l' ≡ l → v' ≡ v → o' ≡ o → EndHolds l v o → EndHolds l' v' o'
same_holds l l' v v' o o' life timers owed h = subst (λ (x : State). EndHolds x v' o') (sym life) (subst (λ (x : Timers). EndHolds l x o') (sym timers) (subst (λ (x : Bool). EndHolds l v x) (sym owed) h))

-- an open life needs no timer
open_holds : (l : State) (v v' : Timers) (o : Bool) → is_open l ≡ true → EndHolds l v o → EndHolds l v' o
open_holds l v v' o opened h = record {
  closing = λ low high. let under : rank_of l < 2 = open_rank l opened in absurd (omega (arith, low, under));
  ended = λ d. let shut : is_open l ≡ false = drained_shut l d in absurd cc;
  owed = h.owed;
}

-- a life that isn't over hasn't drained
not_drained : (l : State) → is_over l ≡ false → is_drained l ≡ false
not_drained state.Handshake h = refl
not_drained state.Established h = refl
not_drained state.Closed h = refl
not_drained state.Draining h = refl
not_drained state.Drained h = cc

-- where no timer stands, none does once one of them is set to no time, or the clock is
none_armed : (v : Timers) (due : Option ℕ) → due ≡ None → NoTimer v → NoTimer (timers_armed v due)
unfolding timers_armed
none_armed v due is h = record { loss_detection = is; idle = h.idle; close = h.close; key_discard = h.key_discard; path_validation = h.path_validation; keep_alive = h.keep_alive; pacing = h.pacing; push_new_cid = h.push_new_cid; max_ack_delay = h.max_ack_delay }

none_paced : (v : Timers) → NoTimer v → NoTimer (timers_paced v)
unfolding timers_paced
none_paced v h = record { loss_detection = h.loss_detection; idle = h.idle; close = h.close; key_discard = h.key_discard; path_validation = h.path_validation; keep_alive = h.keep_alive; pacing = refl; push_new_cid = h.push_new_cid; max_ack_delay = h.max_ack_delay }

none_discarded : (v : Timers) → NoTimer v → NoTimer (timers_discarded v)
unfolding timers_discarded
none_discarded v h = record { loss_detection = h.loss_detection; idle = h.idle; close = h.close; key_discard = refl; path_validation = h.path_validation; keep_alive = h.keep_alive; pacing = h.pacing; push_new_cid = h.push_new_cid; max_ack_delay = h.max_ack_delay }

-- old keys that are kept for some time set a timer of their own, where the connection isn't over
kept_holds : (b : Bool) (l : State) (v : Timers) (probe time : ℕ) (o : Bool) → is_drained l ≡ false → EndHolds l v o → EndHolds l (if b then timers_keeping v probe time else v) o
unfolding timers_keeping
kept_holds true l v probe time o alive h = record { closing = h.closing; ended = λ d. absurd cc; owed = h.owed }
kept_holds false l v probe time o alive h = h

none_released : (v : Timers) → NoTimer v → NoTimer (timers_released v)
unfolding timers_released
none_released v h = record { loss_detection = h.loss_detection; idle = h.idle; close = h.close; key_discard = h.key_discard; path_validation = h.path_validation; keep_alive = h.keep_alive; pacing = h.pacing; push_new_cid = h.push_new_cid; max_ack_delay = refl }

none_outlived : (v : Timers) → NoTimer v → NoTimer (timers_outlived v)
unfolding timers_outlived
none_outlived v h = record { loss_detection = h.loss_detection; idle = h.idle; close = h.close; key_discard = h.key_discard; path_validation = h.path_validation; keep_alive = h.keep_alive; pacing = h.pacing; push_new_cid = refl; max_ack_delay = h.max_ack_delay }

-- ids that are given set a timer of their own, unless the connection has drained
issued_holds : (b : Bool) (l : State) (v : Timers) (oldest : Option ℕ) (time : ℕ) (o : Bool) → is_drained l ≡ b → EndHolds l v o → EndHolds l (if b then v else timers_issued v oldest time) o
unfolding timers_issued
issued_holds true l v oldest time o is h = h
issued_holds false l v oldest time o is h = record { closing = h.closing; ended = λ d. absurd cc; owed = h.owed }

none_clocked : (v : Timers) (time : ℕ) → NoTimer v → NoTimer (clock_set v time)
unfolding clock_set
none_clocked v time h = record { loss_detection = h.loss_detection; idle = h.idle; close = h.close; key_discard = h.key_discard; path_validation = h.path_validation; keep_alive = h.keep_alive; pacing = h.pacing; push_new_cid = h.push_new_cid; max_ack_delay = h.max_ack_delay }

none_stopped : (v : Timers) → NoTimer (timers_stopped v)
unfolding timers_stopped
none_stopped v = record { loss_detection = refl; idle = refl; close = refl; key_discard = refl; path_validation = refl; keep_alive = refl; pacing = refl; push_new_cid = refl; max_ack_delay = refl }

module _ {t : Types} where
  abbrev Keeps : At t → At t → Type 0
  Keeps a b = Ends a.state → Ends b.state

  here : (a : At t) → Keeps a a
  here a = λ h. h

  next : (a b c : At t) → Keeps a b → Keeps b c → Keeps a c
  next a b c g k = λ h. k (g h)

  -- the loss timer is stopped once an end has closed
  armed_none : (due : Option ℕ) (s : View t) → IsArmed due s → is_open s.life.state ≡ false → due ≡ None
  unfolding loss_time
  armed_none due s h shut = h.set ∙ rw shut refl

  -- a packet that is begun leaves whether a close is owed
  begun_owed : (s : View t) (id : SpaceId) (opens : Bool) → (packet_begun id opens s).waiting.close_owed ≡ s.waiting.close_owed
  unfolding probe_spent frames_again ping_asked
  begun_owed s id opens = begun_holds (λ (v : Waiting). v.close_owed ≡ s.waiting.close_owed) (λ w space h. h) (λ w space fs h. h) (λ w space h. h) id opens s refl

  -- a packet is sealed
  seal_holds : (s : View t) (time n size : ℕ) (form : Form) (fs : List FrameValue) → is_drained s.life.state ≡ false → Ends s → Ends (state_move (Seal time form n size fs) s)
  unfolding state_move life_move timers_move waiting_move bundle_next packet_told
  seal_holds s time n size form fs alive h =
      let close : (timers_move (Seal time form n size fs) s).close ≡ s.timers.close =
      sealed_close s.timers (idle_limit_now s.setup) (probe_timeout_now s (number_space form)) time (list_any elicits fs) (list_any is_ack fs) in
      record {
        closing = λ low high. ap is_some close ∙ h.closing low high;
        ended = λ d. absurd cc;
        owed = λ e. h.owed (first_holds s.waiting.close_owed _ (sym (bundled_owed _ _ (list_any is_ack fs)) ∙ e));
      }

  move_keeps : (x : Move t) → IsMade x → (a : At t) → MayMove x a.state → Keeps a (move_to x a)
  unfolding MayMove move_to state_move life_move timers_move waiting_move ping_asked waiting_without space_left packet_came packets_lost packets_acked ack_released crypto_written done_asked life_established life_drained life_closed life_raised data_ready token_learned identifiers_wanted reason_given timers_armed timers_paced timers_held timers_released timers_outlived timers_stopped timers_closing timers_discarded close_begun hello_again
  move_keeps (Clock time) r a may = absurd may
  move_keeps (Ask id) r a may = λ h. h
  move_keeps (Take id fs) r a may = λ h. h
  move_keeps (Seal time form n size fs) r a may = λ h. seal_holds a.state time n size form fs may.2 h
  move_keeps (Forget id) r a may = λ h. h
  move_keeps (Enter id n v) r a may = λ h. h
  move_keeps (Expect token) r a may = λ h. h
  move_keeps Fail r a may = λ h. h
  move_keeps (Renew time cid token keys) r a may = λ h. h
  move_keeps (Unseal time n which fresh session) r a may = λ h. kept_holds (sets_floor which fresh (ring_of a.state.keys)) a.state.life.state a.state.timers (probe_timeout_now a.state «Data») time a.state.waiting.close_owed (not_drained a.state.life.state may) h
  move_keeps (Update fresh session) r a may = λ h. h
  move_keeps Discard r a may = λ h. record { closing = h.closing; ended = λ d. none_discarded a.state.timers (h.ended d); owed = h.owed }
  move_keeps (Accept time id n e g v) r a may = λ h. open_holds a.state.life.state a.state.timers _ a.state.waiting.close_owed may.2 h
  move_keeps (Fix cid) r a may = λ h. h
  move_keeps (Hear bytes) r a may = λ h. h
  move_keeps (Ack id n after) r a may = λ h. h
  move_keeps (Fire after) r a may = λ h. same_holds _ _ _ _ _ _ refl refl (fired_owed a.state.waiting after.fired) h
  move_keeps (Arm due) r a may = λ h. record { closing = h.closing; ended = λ d. none_armed a.state.timers due (armed_none due a.state may (drained_shut a.state.life.state d)) (h.ended d); owed = h.owed }
  move_keeps Pace r a may = λ h. record { closing = h.closing; ended = λ d. none_paced a.state.timers (h.ended d); owed = h.owed }
  move_keeps Release r a may = λ h. record { closing = h.closing; ended = λ d. none_released a.state.timers (h.ended d); owed = h.owed }
  move_keeps (Begin id opens) r a may = λ h. same_holds _ _ _ _ _ _ refl refl (begun_owed a.state id opens) h
  move_keeps Skip r a may = λ h. h
  move_keeps (Come id offset bytes) r a may = λ h. h
  move_keeps (Read id count session) r a may = λ h. h
  move_keeps (Write bytes keys session) r a may = λ h. h
  move_keeps Ready r a may = λ h. h
  move_keeps (Token token) r a may = λ h. h
  move_keeps (Learn parameters) r a may = λ h. h
  move_keeps (Want time count) r a may = λ h. h
  move_keeps Confirm r a may = λ h. h
  move_keeps Establish r a may = λ h. record {
    closing = λ low high. absurd (omega (arith, low));
    ended = λ d. absurd cc;
    owed = λ e. let shut : is_open a.state.life.state ≡ false = h.owed e in let opened : is_open a.state.life.state ≡ true = low_open a.state.life.state may in absurd cc;
  }
  move_keeps (Tell d) r a may = λ h. h
  move_keeps PeerClosesToo r a may = λ h. record {
    closing = λ low high. let two : rank_of a.state.life.state ≡ 2 = closed_two a.state.life.state may in h.closing (omega (arith, two)) (omega (arith, two));
    ended = λ d. absurd cc;
    owed = λ e. refl;
  }
  move_keeps (PeerCloses time) r a may = λ h. record { closing = λ low high. refl; ended = λ d. absurd cc; owed = λ e. refl }
  move_keeps Owe r a may = λ h. record { closing = h.closing; ended = h.ended; owed = λ e. may }
  move_keeps (Shut time close) r a may = λ h. record { closing = λ low high. refl; ended = λ d. absurd cc; owed = λ e. refl }
  move_keeps (Raise to) r a may = λ h. subst (λ (x : State). EndHolds x (timers_stopped a.state.timers) a.state.waiting.close_owed) (sym r)
      (record { closing = λ low high. absurd (omega (arith, high)); ended = λ d. none_stopped a.state.timers; owed = λ e. refl })
  move_keeps (Give why) r a may = λ h. same_holds _ _ _ _ _ _ (given_state a.state.life why (is_none a.state.life.reason)) refl refl h
  move_keeps (Spend tokens) r a may = λ h. h
  move_keeps (Hold until) r a may = λ h. record { closing = h.closing; ended = λ d. absurd cc; owed = h.owed }
  move_keeps (Finish bytes control) r a may = λ h. h
  move_keeps (Probe time n bytes q) r a may = λ h. h
  move_keeps (Say q) r a may = λ h. h
  move_keeps (Hand frame) r a may = λ h. same_holds _ _ _ _ _ _ (heard_state (tells_datagram frame a.state.lower.datagrams) a.state.life) refl refl h
  move_keeps (Call x) r a may = λ h. h
  move_keeps (Post x) r a may = λ h. h
  move_keeps (Insert new) r a may = λ h. same_holds _ _ _ _ _ _ (named_state (token_by new a.state.lower.ids.remote) a.state.life a.state.paths.current.remote) refl refl h
  move_keeps Switch r a may = λ h. same_holds _ _ _ _ _ _ (named_state (next_token a.state.lower.ids.remote) a.state.life a.state.paths.current.remote) refl refl h
  move_keeps (Retire time n) r a may = λ h.
      same_holds _ _ _ _ _ _ (retired_state (may_retire n a.state.lower.ids.local) a.state.life time n (asks_one (active_limit a.state.setup.peer) n a.state.lower.ids)) refl refl h
  move_keeps (Issue time given) r a may = λ h. issued_holds (is_drained a.state.life.state) a.state.life.state a.state.timers _ time a.state.waiting.close_owed refl h
  move_keeps Outlive r a may = λ h. record { closing = h.closing; ended = λ d. none_outlived a.state.timers (h.ended d); owed = h.owed }
  move_keeps _ r a may = absurd r

  -- so do the moves that are known of an input, and those with which a packet is taken and sealed
  known_made : (m : Meaning t) (x : Move t) (s : View t) → IsKnownMove m x s → IsMade x
  known_made m (Clock time) s h = h
  known_made m (Raise to) s h = h
  known_made m ReportReady s h = h
  known_made m ReportConnected s h = h
  known_made m ReportHeard s h = h
  known_made m ReportAllHeard s h = h
  known_made m ReportStream s h = h
  known_made m ReportStreams s h = h
  known_made m ReportLost s h = h
  known_made m ReportNotice s h = h
  known_made m ReportNotices s h = h
  known_made m ReportDrained s h = h
  known_made m _ s h = tt

  pub known_keeps : (m : Meaning t) (x : Move t) (a : At t) → IsKnownMove m x a.state → MayMove x a.state → Keeps a (move_to x a)
  known_keeps m x a known may = move_keeps x (known_made m x a.state known) a may

  pub ends_seal : (time : ℕ) (form : Form) (fs : List FrameValue) (a : At t) → IsSealable time a.state form fs → Keeps a (move_to (Seal time form (next_number a.state.numbers (number_space form)) (packet_size a.state form fs) fs) (move_to (Take (number_space form) fs) a))
  unfolding MayMove move_to state_move numbers_move keys_move life_move
  ends_seal time form fs a may =
      let b : At t = move_to (Take (number_space form) fs) a in
      let seal : Move t = Seal time form (next_number a.state.numbers (number_space form)) (packet_size a.state form fs) fs in
      next a b (move_to seal b) (move_keeps (Take (number_space form) fs) tt a may.takes) (move_keeps seal tt b (refl, may.closes, may.alive, may.keyed))

  -- a call that begins
  pub began_ends : (s : View t) (time : ℕ) → Ends s → Ends (began s time).state
  unfolding began state_move life_move timers_move waiting_move clock_set
  began_ends s time h = record { closing = h.closing; ended = λ d. none_clocked s.timers time (h.ended d); owed = h.owed }

  -- a step
  pub step_ends : (m : Meaning t) (k : ℕ) (s : View t) (i : Input) (x : Step) (s' : View t) → IsStep m k s i x s' → Ends s → Ends s'
  unfolding called began step_after reported state_move life_move timers_move waiting_move clock_set ready_reported connected_reported all_heard_reported lost_reported notice_reported notices_reported drained_reported
  step_ends m k s i x s' h holds =
      let b : At t = input_after m i h.choice (began s (time_of i)) in
      let behind : Ends b.state = holds_input Keeps here next move_keeps m i h.choice (began s (time_of i)) h.allowed
      (began_ends s (time_of i) holds) in
      same_holds _ _ _ _ _ _ (ap (λ (l : Life). l.state) h.life) h.timers (ap (λ (w : Waiting). w.close_owed) h.waiting) behind

  -- a run, one step after the other
  pub run_ends : (m : Meaning t) (k : ℕ) (s : View t) (is : List Input) (xs : List Step) (s' : View t) → Run m k s is xs s' → Ends s → Ends s'
  unfolding Run
  run_ends m k s [] [] s' r h = subst (λ (v : View t). Ends v) (sym r) h
  run_ends m k s (i ∷ is) (x ∷ xs) s' r h = run_ends m (k + 1) r.0 is xs s' r.2 (step_ends m k s i x r.0 r.1 h)
  run_ends m k s [] (x ∷ xs) s' r h = absurd r
  run_ends m k s (i ∷ is) [] s' r h = absurd r
