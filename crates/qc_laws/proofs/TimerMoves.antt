-- What each move leaves of the loss timer, and of the packets in flight for which it stands.
use Rattle.std.proofs.Common.{◌≡◌, ℕ, ◌<◌, List, [], ◌∷◌, ◌++◌, refl, ap, sym, ◌∙◌, subst, Bool, true, false, Option, Some, None, if◌then◌else◌}
use Rattle.std.specs.Prelude.{◌==◌, ◌&&◌, ◌||◌, not, is_none, is_some}
use Rattle.std.specs.List.{list_any}
use Rattle.std.proofs.lemmas.List.Folds.{list_any-append}
use Rattle.qc_base.specs.declared.side.Side.{Side}
use Rattle.qc_base.specs.declared.side.SpaceId.{SpaceId}
use Rattle.qc_base.specs.declared.side.SpaceId.TheVariants.{Initial, Handshake, «Data»}
use Rattle.qc_flight.specs.Packets.{Entry}
use Rattle.qc_flight.specs.declared.sent.SentPacket.{SentPacket}
use Rattle.qc_frame.specs.Frame.{FrameValue}
use Rattle.qc_frame.specs.FrameSpelling.{elicits}
use Rattle.qc_recovery.specs.Calls.{dropped_after}
use Rattle.qc_recovery.specs.Steps.{After, FiredAfter, armed_at, has_eliciting, sent_after, space_dropped, space_sent}
use Rattle.qc_recovery.specs.Steps as recovery
use Rattle.qc_recovery.specs.declared.recovery.Recovery.{Recovery}
use Rattle.qc_recovery.specs.declared.space.SpaceRecovery.{SpaceRecovery}
use Rattle.qc_state.specs.declared.deeds.Did.{Did}
use Rattle.qc_state.specs.declared.deeds.Did.TheVariants as did
use Rattle.qc_state.specs.declared.deeds.Verdict.{Verdict}
use Rattle.qc_state.specs.declared.deeds.Verdict.TheVariants as verdict
use Rattle.qc_state.specs.declared.form.Form.{Form}
use Rattle.qc_state.specs.declared.life.ConnectionError.{ConnectionError}
use Rattle.qc_state.specs.declared.life.Life.{Life}
use Rattle.qc_state.specs.declared.life.State.{State}
use Rattle.qc_state.specs.declared.life.State.TheVariants as state
use Rattle.qc_state.specs.declared.lower.Lower.{Lower}
use Rattle.qc_state.specs.declared.paths.Paths.{Paths}
use Rattle.qc_state.specs.declared.timers.Timers.{Timers}
use Rattle.qc_state.specs.Acks.{is_ack}
use Rattle.qc_state.specs.Flight.{counts_in_flight, flown_packet, is_padding}
use Rattle.qc_state.specs.Forms.{number_space}
use Rattle.qc_state.specs.Life.{connected_reported, data_ready, drained_reported, identifiers_wanted, is_established, is_handshake, is_open, life_closed, life_drained, life_established, life_raised, lost_reported, notice_reported, notices_reported, rank_of, ready_reported, reason_given, token_learned, all_heard_reported, heard_reported, datagram_heard, is_drained}
use Rattle.qc_state.specs.Lower.{bytes_came, flight_dropped, packet_flown, packets_settled, session_read, session_wrote, timer_fired, limits_learned, frame_handed, streams_closed, streams_stepped, event_told, events_told, datagrams_stepped, frames_sealed, ids_stepped}
use Rattle.qc_state.specs.Moves.{Accept, Ack, AreNext, Arm, Begin, Establish, Fail, Finish, Fire, Forget, Give, Hear, IsTold, Move, PeerCloses, PeerClosesToo, Probe, Raise, Seal, Shut, Take, Tell, Write, armed_with, deeds_move, keys_move, life_move, lower_move, move_to, paths_move, setup_move, state_move, timers_move, waiting_move, Hand, told_to_streams, Insert, Switch, Retire, Issue, Say, Spend, Unseal, Discard, Update, Renew}
use Rattle.qc_state.specs.Paths.{is_blocked, path_accepted, path_kept, path_spun, peer_fixed, path_named, path_capped}
use Rattle.qc_state.specs.Recovering.{around_of, fired_by, is_validated_by_peer, loss_time, settled_by, probe_timeout_now}
use Rattle.qc_state.specs.Sending.{flown_after, is_flown, packet_size, sealed_in, spent_after}
use Rattle.qc_laws.specs.TimerLaws.{FlightHolds, SpaceHolds, TimerHolds, awaits_ack, elicits_in, has_asked, has_probe_keys, must_probe, sealed_since}
use Rattle.qc_state.specs.Timers.{clock_set, timers_accepted, timers_acking, timers_armed, timers_held, timers_holding, timers_paced, timers_released, timers_sealed, timers_issued, timers_outlived, timers_keeping, timers_discarded}
use Rattle.qc_state.specs.Types.{Types, Meaning}
use Rattle.qc_state.specs.View.{View, At, at}
use Rattle.qc_state.specs.Waiting.{waiting_without}
use Rattle.rand_core.specs.Stream.{Stream}
use Rattle.qc_state.specs.declared.keys.KeyGroup.{KeyGroup}
use Rattle.qc_state.specs.declared.keys.SpaceKeys.{SpaceKeys}
use Rattle.qc_state.specs.declared.setup.Setup.{Setup}
use Rattle.qc_state.specs.Keys.{NewKeys, failure_counted, form_in, has_keys, has_keys_for, key_used, ring_of, sets_floor}
use Rattle.qc_state.specs.Numbers.{next_number}
use Rattle.qc_state.specs.Receiving.{is_below}
use Rattle.qc_state.specs.Setup.{packet_drawn, parameters_known, retry_taken, token_expected, word_drawn}
use Rattle.qc_state.specs.Spaces.{is_space}
use Rattle.qc_state.proofs.Quieted.{quiet_blocked}
use Rattle.qc_state.proofs.KeySteps.{RingMoves, acked_moves, discarded_moves, keeping_same, no_ring_moves, opened_moves, same_keys, updated_moves, renewed_highest, renewed_keys}
use Rattle.qc_state.proofs.Probed.{begun_streams}
use Rattle.qc_laws.proofs.CryptoPlaces.{dropped_highest, dropped_keys, used_highest}
use Rattle.qc_laws.proofs.TimerProbes.{Before, before_probes, dropped_keyed, failed_same, forget_before, form_keyed, given_below, given_confirmed, given_more, given_probe, probe_parts, renew_before, unknown_confirmed, used_same}
use Rattle.qc_laws.proofs.CryptoBuffers.{or_either, or_left, or_right}
use Rattle.qc_laws.proofs.EndsHold.{low_open}
use Rattle.qc_laws.proofs.KnownMoves.{IsFiredBy, IsSettledBy}
use Rattle.qc_laws.proofs.TimerFlights.{Less, ack_less, armed_alone, armed_some, dropped_each, fire_less, kept_asked, kept_greatest, less_holds, sent_each, less_here}
use Rattle.qc_laws.proofs.StreamCalls.{handed_told, heard_state, named_state, retired_state}
use Rattle.qc_state.specs.Datagrams.{tells_datagram}
use Rattle.qc_cids.specs.Cids.{asks_one, next_token, token_by}
use Rattle.qc_ids.specs.LocalCids.{may_retire}
use Rattle.qc_state.specs.Ids.{active_limit}

-- ---- deeds

pub since_append : (since : Bool) (ds es : List Did) → sealed_since since (ds ++ es) ≡ sealed_since (sealed_since since ds) es
since_append since [] es = refl
since_append since (did.Sealed space n epoch early fs ∷ ds) es = since_append (since || counts_in_flight fs) ds es
since_append since (did.Rose life ∷ ds) es = since_append (if life == 1 then false else since) ds es
since_append since (did.Piece space number v ∷ ds) es = since_append since ds es
since_append since (did.Gave layer body ∷ ds) es = since_append since ds es
since_append since (did.Lost why ∷ ds) es = since_append since ds es
since_append since (did.Quiet why ∷ ds) es = since_append since ds es

told_since : (since : Bool) (d : Did) → IsTold d → sealed_since since (d ∷ []) ≡ since
told_since since (did.Piece space number v) h = refl
told_since since (did.Gave layer body) h = refl
told_since since _ h = absurd h

-- ---- tests

and_more : (a b a' b' : Bool) → ((a' && b') ≡ true → (a && b) ≡ true) → (c c' : Bool) → (c' ≡ true → c ≡ true) → ((a' && b') && c') ≡ true → ((a && b) && c) ≡ true
and_more a b a' b' f c c' g h = both (a && b) c (f (first (a' && b') c' h)) (g (second (a' && b') c' h))
  where
    both : (x y : Bool) → x ≡ true → y ≡ true → (x && y) ≡ true
    both true y p q = q
    both false y p q = cc

    first : (x y : Bool) → (x && y) ≡ true → x ≡ true
    first true y p = refl
    first false y p = cc

    second : (x y : Bool) → (x && y) ≡ true → y ≡ true
    second true y p = p
    second false y p = cc

never : (b c d : Bool) → c ≡ false → (b && c) ≡ true → d ≡ true
never true true d shut e = cc
never true false d shut e = cc
never false c d shut e = cc

or_more : (a b a' b' : Bool) → (a' ≡ true → a ≡ true) → (b' ≡ true → b ≡ true) → (a' || b') ≡ true → (a || b) ≡ true
or_more a b true b' f g h = or_left a b (f refl)
or_more a b false b' f g h = or_right a b (g h)

-- ---- parts of a view

-- the time for which packets wait, or an ACK is held back, leaves the loss timer
held_loss : (v : Timers) (b : Bool) (time : ℕ) → (timers_holding v b time).loss_detection ≡ v.loss_detection
unfolding timers_holding
held_loss v true time = refl
held_loss v false time = refl

sealed_loss : (v : Timers) (limit : Option ℕ) (probe time : ℕ) (a b : Bool) → (timers_acking (if a then timers_sealed v limit probe time else v) b).loss_detection ≡ v.loss_detection
unfolding timers_acking timers_sealed
sealed_loss v limit probe time true true = refl
sealed_loss v limit probe time true false = refl
sealed_loss v limit probe time false true = refl
sealed_loss v limit probe time false false = refl

given_same : (v : Life) (why : ConnectionError) (b : Bool) → (if b then record v { reason = Some why; lost = Some why } else v).state ≡ v.state
given_same v why true = refl
given_same v why false = refl

-- a space is put in its place
put_elicits : (id space : SpaceId) (s : SpaceRecovery) (r : Recovery) → (has_eliciting s.flight ≡ true → has_eliciting (recovery.space_of space r).flight ≡ true) → has_eliciting (recovery.space_of id (recovery.with_space space s r)).flight ≡ true → has_eliciting (recovery.space_of id r).flight ≡ true
put_elicits Initial Initial s r f h = f h
put_elicits Initial Handshake s r f h = h
put_elicits Initial Data s r f h = h
put_elicits Handshake Initial s r f h = h
put_elicits Handshake Handshake s r f h = f h
put_elicits Handshake Data s r f h = h
put_elicits Data Initial s r f h = h
put_elicits Data Handshake s r f h = h
put_elicits Data Data s r f h = f h

-- a packet that was accepted blocks no path, and neither does the peer's id
module _ {C : Type 0} where
  accepted_free : (p : Paths C) (id : SpaceId) (v : Verdict) → is_blocked p ≡ false → is_blocked (path_accepted p id v) ≡ false
  unfolding path_accepted is_blocked
  accepted_free p Handshake verdict.Admitted h = refl
  accepted_free p _ v h = h

  spun_free : (p : Paths C) (side : Side) (greatest bit : Bool) → is_blocked p ≡ false → is_blocked (path_spun p side greatest bit) ≡ false
  unfolding path_spun is_blocked
  spun_free p side true bit h = h
  spun_free p side false bit h = h

-- once the handshake is over it goes on no longer
open_over : (s : State) → is_established s ≡ true → not (is_handshake s) ≡ true
open_over state.Established h = refl
open_over _ h = cc

-- a packet that doesn't count elicits nothing
silent_fs : (fs : List FrameValue) → counts_in_flight fs ≡ false → list_any elicits fs ≡ false
unfolding counts_in_flight
silent_fs fs none = silent (list_any elicits fs) (list_any is_padding fs) none
  where
    silent : (a b : Bool) → (a || b) ≡ false → a ≡ false
    silent true b e = cc
    silent false b e = refl

unasked_at : (b : Bool) (at : ℕ) (old : Option ℕ) → b ≡ false → (if b then Some at else old) ≡ old
unasked_at true at old is = cc
unasked_at false at old is = refl

-- a packet in flight is one of a space with keys
flown_keyed : (id space : SpaceId) (n : ℕ) (packet : SentPacket) (r : Recovery) (Q : Type 0) → (id ≡ space → Q) → (is_some (recovery.space_of id r).eliciting_at ≡ true → Q) → is_some (recovery.space_of id (sent_after space n packet r)).eliciting_at ≡ true → Q
unfolding sent_after space_sent
flown_keyed Initial Initial n packet r Q here old e = here refl
flown_keyed Initial Handshake n packet r Q here old e = old e
flown_keyed Initial Data n packet r Q here old e = old e
flown_keyed Handshake Initial n packet r Q here old e = old e
flown_keyed Handshake Handshake n packet r Q here old e = here refl
flown_keyed Handshake Data n packet r Q here old e = old e
flown_keyed Data Initial n packet r Q here old e = old e
flown_keyed Data Handshake n packet r Q here old e = old e
flown_keyed Data Data n packet r Q here old e = here refl

-- what a packet that is sealed leaves of recovery
flown_recovery : {S : Type 0} → (owed : Bool) (l : Lower S) (id : SpaceId) (n : ℕ) (packet : SentPacket) → (if owed then l else packet_flown l id n packet).recovery ≡ (if owed then l.recovery else sent_after id n packet l.recovery)
unfolding packet_flown
flown_recovery true l id n packet = refl
flown_recovery false l id n packet = refl

-- keys reach as far up as before once a packet was sealed
module _ {H P : Type 0} where
  used_space : (v w : KeyGroup H P) (f : Form) (n : ℕ) (id : SpaceId) → w ≡ key_used v f n → (has_keys v id ≡ true → is_below v.highest id ≡ false) → has_keys w id ≡ true → is_below w.highest id ≡ false
  used_space v w f n id is h e =
      ap (λ (k : KeyGroup H P). is_below k.highest id) is ∙ ap (λ (x : SpaceId). is_below x id) (used_highest v f n) ∙ h (sym (used_same v f n id) ∙ ap (λ (k : KeyGroup H P). has_keys k id) (sym is) ∙ e)

-- ids that are given leave the loss timer
issued_loss : (b : Bool) (v : Timers) (oldest : Option ℕ) (time : ℕ) → (if b then v else timers_issued v oldest time).loss_detection ≡ v.loss_detection
unfolding timers_issued
issued_loss true v oldest time = refl
issued_loss false v oldest time = refl

module _ {t : Types} where
  abbrev pub Spaces : View t → Type 0
  Spaces s = (id : SpaceId) → SpaceHolds s id

  -- the law, said of a time in which datagrams may be begun, or not
  pub record HoldsIf (free since : Bool) (s : View t) : Type 0 where
    pub stands : free ≡ true → is_open s.life.state ≡ true → (awaits_ack since s || must_probe s) ≡ true → is_some s.timers.loss_detection ≡ true
    pub spaces : Spaces s

  pub holds_if : (free since : Bool) (s : View t) → (free ≡ true → is_blocked s.paths ≡ false) → TimerHolds since s → HoldsIf free since s
  holds_if free since s unblocked h = record { stands = λ f o w. h.stands o (unblocked f) w; spaces = h.spaces }

  pub timer_holds : (free since : Bool) (s : View t) → (is_blocked s.paths ≡ false → free ≡ true) → HoldsIf free since s → TimerHolds since s
  timer_holds free since s is_free h = record { stands = λ o u w. h.stands (is_free u) o w; spaces = h.spaces }

  -- ---- a timer that is set

  -- where an acknowledgement is waited for, the timer that is set stands
  awaited_some : (since : Bool) (time : ℕ) (s : View t) → Spaces s → awaits_ack since s ≡ true → is_some (armed_at time (around_of s false false) s.paths.current.kept.rtt s.lower.recovery) ≡ true
  unfolding around_of awaits_ack elicits_in
  awaited_some since time s spaces awaits =
      let r : Recovery = s.lower.recovery in
      by_space (has_eliciting r.initial.flight) (has_eliciting r.handshake.flight) (since && is_established s.life.state) (has_eliciting r.application.flight) refl refl refl refl awaits
    where
      last : (x y : Bool) → (x && y) ≡ true → y ≡ true
      last true y p = p
      last false y p = cc

      by_space : (a b c d : Bool) → has_eliciting s.lower.recovery.initial.flight ≡ a → has_eliciting s.lower.recovery.handshake.flight ≡ b → (since && is_established s.life.state) ≡ c → has_eliciting s.lower.recovery.application.flight ≡ d →
          (a || (b || (c && d))) ≡ true → is_some (armed_at time (around_of s false false) s.paths.current.kept.rtt s.lower.recovery) ≡ true
      by_space true b c d ia ib ic id h = armed_some Initial time (around_of s false false) s.paths.current.kept.rtt s.lower.recovery refl (spaces Initial).flight ia (λ is. absurd cc)
      by_space false true c d ia ib ic id h = armed_some Handshake time (around_of s false false) s.paths.current.kept.rtt s.lower.recovery refl (spaces Handshake).flight ib (λ is. absurd cc)
      by_space false false true true ia ib ic id h =
          armed_some «Data» time (around_of s false false) s.paths.current.kept.rtt s.lower.recovery refl (spaces «Data»).flight id (λ is. open_over s.life.state (last since (is_established s.life.state) ic))
      by_space false false true false ia ib ic id h = cc
      by_space false false false d ia ib ic id h = cc

  -- and so it does where a client has to probe
  probing_some : (time : ℕ) (s : View t) → Spaces s → must_probe s ≡ true → is_some (armed_at time (around_of s false false) s.paths.current.kept.rtt s.lower.recovery) ≡ true
  unfolding around_of has_probe_keys has_asked has_keys form_in
  probing_some time s spaces h =
      let r : Recovery = s.lower.recovery in
      let p = probe_parts s h in
      by_space (has_eliciting r.initial.flight) (has_eliciting r.handshake.flight) (has_eliciting r.application.flight) refl refl refl p.0 p.1
      (λ e. (spaces «Data»).flight.asked e) (unasked (has_asked s Initial || has_asked s Handshake) (has_asked s «Data») p.2)
    where
      unasked : (x y : Bool) → (x && not y) ≡ true → y ≡ false
      unasked true true e = cc
      unasked true false e = refl
      unasked false y e = cc

      by_space : (a b c : Bool) → has_eliciting s.lower.recovery.initial.flight ≡ a → has_eliciting s.lower.recovery.handshake.flight ≡ b → has_eliciting s.lower.recovery.application.flight ≡ c → is_validated_by_peer s false ≡ false →
          (if recovery.is_handshake s.keys.highest then has_keys s.keys Handshake else has_keys s.keys Initial) ≡ true → (has_eliciting s.lower.recovery.application.flight ≡ true → is_some s.lower.recovery.application.eliciting_at ≡ true) →
          is_some s.lower.recovery.application.eliciting_at ≡ false → is_some (armed_at time (around_of s false false) s.paths.current.kept.rtt s.lower.recovery) ≡ true
      by_space true b c ia ib ic unknown keys asks never_asked = armed_some Initial time (around_of s false false) s.paths.current.kept.rtt s.lower.recovery refl (spaces Initial).flight ia (λ is. absurd cc)
      by_space false true c ia ib ic unknown keys asks never_asked = armed_some Handshake time (around_of s false false) s.paths.current.kept.rtt s.lower.recovery refl (spaces Handshake).flight ib (λ is. absurd cc)
      by_space false false true ia ib ic unknown keys asks never_asked = let asked : is_some s.lower.recovery.application.eliciting_at ≡ true = asks ic in absurd cc
      by_space false false false ia ib ic unknown keys asks never_asked = armed_alone time (around_of s false false) s.paths.current.kept.rtt s.lower.recovery refl unknown keys ia ib ic

  due_some : (since : Bool) (time : ℕ) (s : View t) → Spaces s → is_open s.life.state ≡ true → (awaits_ack since s || must_probe s) ≡ true → is_some (loss_time s false time) ≡ true
  unfolding loss_time
  due_some since time s spaces opened either =
      ap (λ (b : Bool). is_some (if b then armed_at time (around_of s false false) s.paths.current.kept.rtt s.lower.recovery else None)) opened
      ∙ or_either (awaits_ack since s) (must_probe s) _ (awaited_some since time s spaces) (probing_some time s spaces) either

  -- a timer that is set changes nothing else
  armed_same : (due : Option ℕ) (since : Bool) (s : View t) → (awaits_ack since (state_move (Arm due) s) || must_probe (state_move (Arm due) s)) ≡ (awaits_ack since s || must_probe s)
  unfolding state_move life_move lower_move keys_move setup_move awaits_ack elicits_in must_probe is_validated_by_peer has_probe_keys has_asked frames_sealed ids_stepped
  armed_same due since s = refl

  armed_spaces : (due : Option ℕ) (s : View t) → Spaces s → Spaces (state_move (Arm due) s)
  unfolding state_move lower_move keys_move frames_sealed ids_stepped
  armed_spaces due s h = λ id. record { flight = (h id).flight; keyed = (h id).keyed; below = (h id).below }

  pub arm_holds : (free since blocked : Bool) (time : ℕ) (s : View t) → (free ≡ true → blocked ≡ false) → Spaces s → HoldsIf free since (state_move (Arm (loss_time s blocked time)) s)
  unfolding state_move timers_move timers_armed life_move
  arm_holds free since blocked time s unblocked spaces = record {
    stands = λ f o w. ap (λ (b : Bool). is_some (loss_time s b time)) (unblocked f) ∙ due_some since time s spaces o (sym (armed_same (loss_time s blocked time) since s) ∙ w);
    spaces = armed_spaces (loss_time s blocked time) s spaces;
  }

  -- ---- other moves

  -- the moves that leave the timer, beside those with which a packet is sealed or the timer is set
  abbrev pub IsPlain : Meaning t → Move t → View t → Type 0
  IsPlain m (Seal time form n size fs) s = ⊥
  IsPlain m (Arm at) s = ⊥
  IsPlain m (Ack id n after) s = IsSettledBy m id after s
  IsPlain m (Fire after) s = IsFiredBy m after s
  IsPlain m (Raise to) s = to ≡ state.Drained
  IsPlain m (Forget id) s = is_space id «Data» ≡ false
  IsPlain m (Write bytes keys session) s = AreNext keys s.keys.highest
  IsPlain m (Tell d) s = IsTold d
  IsPlain m Establish s = rank_of s.life.state < 1
  IsPlain m _ s = Unit {0}

  plain_timer : (m : Meaning t) (x : Move t) (s : View t) → IsPlain m x s → is_open (life_move x s).state ≡ true → (timers_move x s).loss_detection ≡ s.timers.loss_detection
  unfolding timers_move life_move life_closed life_drained life_raised clock_set timers_paced timers_held timers_released timers_accepted timers_outlived timers_keeping timers_discarded
  plain_timer m (Seal time form n size fs) s h o = absurd h
  plain_timer m (Arm at) s h o = absurd h
  plain_timer m (Accept time id n e g v) s h o = held_loss _ _ time
  plain_timer m (Issue time given) s h o = issued_loss (is_drained s.life.state) s.timers _ time
  plain_timer m (Shut time close) s h o = cc
  plain_timer m (PeerCloses time) s h o = cc
  plain_timer m (Unseal time n which fresh session) s h o = keeping_same (λ (v : Timers). v.loss_detection) (sets_floor which fresh (ring_of s.keys)) s.timers (probe_timeout_now s «Data») time (λ v probe at. refl)
  plain_timer m (Raise to) s h o = let end : is_open to ≡ false = ap is_open h in cc
  plain_timer m _ s h o = refl

  pub plain_open : (m : Meaning t) (x : Move t) (s : View t) → IsPlain m x s → is_open (life_move x s).state ≡ true → is_open s.life.state ≡ true
  unfolding life_move life_closed life_drained data_ready life_established token_learned identifiers_wanted life_raised reason_given ready_reported connected_reported heard_reported all_heard_reported lost_reported notice_reported notices_reported drained_reported
  plain_open m (Shut time close) s k h = cc
  plain_open m (PeerCloses time) s k h = cc
  plain_open m PeerClosesToo s k h = cc
  plain_open m Establish s k h = low_open s.life.state k
  plain_open m (Raise to) s k h = let end : is_open to ≡ false = ap is_open k in cc
  plain_open m (Give why) s k h = ap is_open (sym (given_same s.life why (is_none s.life.reason))) ∙ h
  plain_open m (Hand frame) s k h = ap is_open (sym (heard_state (tells_datagram frame s.lower.datagrams) s.life)) ∙ h
  plain_open m (Insert new) s k h = ap is_open (sym (named_state (token_by new s.lower.ids.remote) s.life s.paths.current.remote)) ∙ h
  plain_open m Switch s k h = ap is_open (sym (named_state (next_token s.lower.ids.remote) s.life s.paths.current.remote)) ∙ h
  plain_open m (Retire time n) s k h = ap is_open (sym (retired_state (may_retire n s.lower.ids.local) s.life time n (asks_one (active_limit s.setup.peer) n s.lower.ids))) ∙ h
  plain_open m _ s k h = h

  -- what was sealed since the handshake was over was sealed before, and then it was over
  plain_since : (m : Meaning t) (x : Move t) (s : View t) (since : Bool) → IsPlain m x s → (sealed_since since (deeds_move x s) && is_established (life_move x s).state) ≡ true → (since && is_established s.life.state) ≡ true
  unfolding deeds_move life_move life_closed life_drained data_ready life_established token_learned identifiers_wanted life_raised reason_given ready_reported connected_reported heard_reported all_heard_reported lost_reported notice_reported notices_reported drained_reported
  plain_since m (Seal time form n size fs) s since k h = absurd k
  plain_since m (Shut time close) s since k h = never since false _ refl h
  plain_since m (PeerCloses time) s since k h = never since false _ refl h
  plain_since m PeerClosesToo s since k h = never since false _ refl h
  plain_since m Establish s since k h = cc
  plain_since m (Raise to) s since k h = never (sealed_since since (did.Rose (rank_of to) ∷ [])) (is_established to) _ (ap is_established k) h
  plain_since m (Give why) s since k h = ap (λ (x : State). since && is_established x) (sym (given_same s.life why (is_none s.life.reason))) ∙ h
  plain_since m (Tell d) s since k h = ap (λ (b : Bool). b && is_established s.life.state) (sym (told_since since d k)) ∙ h
  plain_since m (Hand frame) s since k h =
      let same : sealed_since since (told_to_streams frame) ≡ since = handed_told (λ ds. sealed_since since ds ≡ since) frame refl (λ body. refl) in
      let life : (datagram_heard (tells_datagram frame s.lower.datagrams) s.life).state ≡ s.life.state = heard_state (tells_datagram frame s.lower.datagrams) s.life in
      sym (λ i. same i && is_established (life i)) ∙ h
  plain_since m (Insert new) s since k h = ap (λ (x : State). since && is_established x) (sym (named_state (token_by new s.lower.ids.remote) s.life s.paths.current.remote)) ∙ h
  plain_since m Switch s since k h = ap (λ (x : State). since && is_established x) (sym (named_state (next_token s.lower.ids.remote) s.life s.paths.current.remote)) ∙ h
  plain_since m (Retire time n) s since k h =
      ap (λ (x : State). since && is_established x) (sym (retired_state (may_retire n s.lower.ids.local) s.life time n (asks_one (active_limit s.setup.peer) n s.lower.ids))) ∙ h
  plain_since m _ s since k h = h

  plain_elicits : (m : Meaning t) (x : Move t) (s : View t) (id : SpaceId) → IsPlain m x s → elicits_in (state_move x s) id ≡ true → elicits_in s id ≡ true
  unfolding elicits_in state_move lower_move packets_settled timer_fired flight_dropped bytes_came session_read session_wrote limits_learned frame_handed streams_closed streams_stepped datagrams_stepped event_told events_told settled_by fired_by dropped_after space_dropped frames_sealed ids_stepped
  plain_elicits m (Seal time form n size fs) s id k h = absurd k
  plain_elicits m (Ack space n after) s id k h =
      (ack_less m.control _ id space _ _ _ _ _ s.lower.recovery s.paths.current.kept).any (λ (e : Entry). e.1.ack_eliciting) (subst (λ (a : After t.C). has_eliciting (recovery.space_of id a.recovery).flight ≡ true) k.is h)
  plain_elicits m (Fire after) s id k h =
      (fire_less m.control _ id _ s.lower.recovery s.paths.current.kept).any (λ (e : Entry). e.1.ack_eliciting) (subst (λ (a : FiredAfter t.C). has_eliciting (recovery.space_of id a.recovery).flight ≡ true) k.is h)
  plain_elicits m (Begin space opens) s id k h = ap (λ (l : Lower t.S). has_eliciting (recovery.space_of id l.recovery).flight) (sym (begun_streams space opens s)) ∙ h
  plain_elicits m (Forget space) s id k h = put_elicits id space (space_dropped (recovery.space_of space s.lower.recovery)) s.lower.recovery (λ e. absurd cc) h
  plain_elicits m (Renew time cid token keys) s id k h = put_elicits id Initial (space_dropped (recovery.space_of Initial s.lower.recovery)) s.lower.recovery (λ e. absurd cc) h
  plain_elicits m _ s id k h = h

  -- ---- what stays of each space

  less_space : (s s' : View t) (id : SpaceId) → RingMoves s.keys s'.keys → Less (recovery.space_of id s.lower.recovery) (recovery.space_of id s'.lower.recovery) → SpaceHolds s id → SpaceHolds s' id
  less_space s s' id keys less h = record {
    flight = less_holds (recovery.space_of id s.lower.recovery) (recovery.space_of id s'.lower.recovery) less h.flight;
    keyed = λ e. same_keys s.keys s'.keys keys id ∙ h.keyed (ap (λ (x : Option ℕ). is_some x) (sym less.asked) ∙ e);
    below = λ e. ap (λ (x : SpaceId). is_below x id) keys.highest ∙ h.below (sym (same_keys s.keys s'.keys keys id) ∙ e);
  }

  settled_less : (m : Meaning t) (space id : SpaceId) (n : ℕ) (after : After t.C) (s : View t) → IsSettledBy m space after s → Less (recovery.space_of id s.lower.recovery) (recovery.space_of id (state_move (Ack space n after) s).lower.recovery)
  unfolding state_move lower_move datagrams_stepped streams_stepped packets_settled settled_by frames_sealed ids_stepped
  settled_less m space id n after s k = subst (λ (a : After t.C). Less (recovery.space_of id s.lower.recovery) (recovery.space_of id a.recovery)) (sym k.is) (ack_less m.control _ id space _ _ _ _ _ s.lower.recovery s.paths.current.kept)

  fired_less : (m : Meaning t) (id : SpaceId) (after : FiredAfter t.C) (s : View t) → IsFiredBy m after s → Less (recovery.space_of id s.lower.recovery) (recovery.space_of id (state_move (Fire after) s).lower.recovery)
  unfolding state_move lower_move datagrams_stepped streams_stepped timer_fired fired_by frames_sealed ids_stepped
  fired_less m id after s k = subst (λ (a : FiredAfter t.C). Less (recovery.space_of id s.lower.recovery) (recovery.space_of id a.recovery)) (sym k.is) (fire_less m.control _ id _ s.lower.recovery s.paths.current.kept)

  forget_space : (space : SpaceId) (s : View t) → Spaces s → (id : SpaceId) → SpaceHolds (state_move (Forget space) s) id
  unfolding state_move lower_move keys_move flight_dropped frames_sealed ids_stepped
  forget_space space s h id = record {
    flight = dropped_each id space s.lower.recovery (λ x. (h x).flight);
    keyed = dropped_keyed s.keys s.lower.recovery id space (h id).keyed;
    below = λ e. ap (λ (x : SpaceId). is_below x id) (dropped_highest s.keys space) ∙ (h id).below (dropped_keys s.keys id space e).1;
  }

  renew_space : (time : ℕ) (cid token : List ℕ) (keys : SpaceKeys t.H t.P) (s : View t) → Spaces s → (id : SpaceId) → SpaceHolds (state_move (Renew time cid token keys) s) id
  unfolding state_move lower_move keys_move flight_dropped dropped_after space_dropped frames_sealed ids_stepped
  renew_space time cid token keys s h Initial = record {
    flight = dropped_each Initial Initial s.lower.recovery (λ x. (h x).flight);
    keyed = λ e. absurd cc;
    below = λ e. ap (λ (x : SpaceId). is_below x Initial) (renewed_highest s.keys keys) ∙ (h Initial).below (sym (renewed_keys s.keys keys Initial) ∙ e);
  }
  renew_space time cid token keys s h Handshake = record {
    flight = dropped_each Handshake Initial s.lower.recovery (λ x. (h x).flight);
    keyed = λ e. renewed_keys s.keys keys Handshake ∙ (h Handshake).keyed e;
    below = λ e. ap (λ (x : SpaceId). is_below x Handshake) (renewed_highest s.keys keys) ∙ (h Handshake).below (sym (renewed_keys s.keys keys Handshake) ∙ e);
  }
  renew_space time cid token keys s h «Data» = record {
    flight = dropped_each «Data» Initial s.lower.recovery (λ x. (h x).flight);
    keyed = λ e. renewed_keys s.keys keys «Data» ∙ (h «Data»).keyed e;
    below = λ e. ap (λ (x : SpaceId). is_below x «Data») (renewed_highest s.keys keys) ∙ (h «Data»).below (sym (renewed_keys s.keys keys «Data») ∙ e);
  }

  write_space : (bytes : List ℕ) (keys : NewKeys t.H t.P) (session : t.S) (s : View t) → AreNext keys s.keys.highest → (id : SpaceId) → SpaceHolds s id → SpaceHolds (state_move (Write bytes keys session) s) id
  unfolding state_move lower_move keys_move session_wrote frames_sealed ids_stepped
  write_space bytes keys session s next id h = record { flight = h.flight; keyed = λ e. given_more s.keys keys id (h.keyed e); below = given_below s.keys keys id next h.below }

  fail_space : (s : View t) (id : SpaceId) → SpaceHolds s id → SpaceHolds (state_move Fail s) id
  unfolding state_move lower_move keys_move failure_counted frames_sealed ids_stepped
  fail_space s id h = record { flight = h.flight; keyed = λ e. failed_same s.keys id ∙ h.keyed e; below = λ e. h.below (sym (failed_same s.keys id) ∙ e) }

  begun_space : (space : SpaceId) (opens : Bool) (s : View t) (id : SpaceId) → SpaceHolds s id → SpaceHolds (state_move (Begin space opens) s) id
  unfolding state_move lower_move streams_stepped keys_move frames_sealed ids_stepped
  begun_space space opens s id h = record {
    flight = subst (λ (l : Lower t.S). FlightHolds (recovery.space_of id l.recovery)) (sym (begun_streams space opens s)) h.flight;
    keyed = λ e. h.keyed (ap (λ (l : Lower t.S). is_some (recovery.space_of id l.recovery).eliciting_at) (sym (begun_streams space opens s)) ∙ e);
    below = h.below;
  }

  plain_spaces : (m : Meaning t) (x : Move t) (s : View t) → IsPlain m x s → Spaces s → Spaces (state_move x s)
  unfolding state_move lower_move keys_move bytes_came session_read limits_learned frame_handed streams_closed streams_stepped datagrams_stepped event_told events_told frames_sealed ids_stepped
  plain_spaces m (Seal time form n size fs) s k h = absurd k
  plain_spaces m (Ack space n after) s k h = λ id. less_space s (state_move (Ack space n after) s) id (acked_moves s.keys space n) (settled_less m space id n after s k) (h id)
  plain_spaces m (Fire after) s k h = λ id. less_space s (state_move (Fire after) s) id (no_ring_moves s.keys s.keys refl) (fired_less m id after s k) (h id)
  plain_spaces m (Forget space) s k h = forget_space space s h
  plain_spaces m (Write bytes keys session) s k h = λ id. write_space bytes keys session s k id (h id)
  plain_spaces m (Begin space opens) s k h = λ id. begun_space space opens s id (h id)
  plain_spaces m Fail s k h = λ id. fail_space s id (h id)
  plain_spaces m (Renew time cid token keys) s k h = renew_space time cid token keys s h
  plain_spaces m (Unseal time n which fresh session) s k h = λ id. less_space s (state_move (Unseal time n which fresh session) s) id (opened_moves s.keys which n fresh) (less_here (recovery.space_of id s.lower.recovery)) (h id)
  plain_spaces m (Update fresh session) s k h = λ id. less_space s (state_move (Update fresh session) s) id (updated_moves s.keys fresh) (less_here (recovery.space_of id s.lower.recovery)) (h id)
  plain_spaces m Discard s k h = λ id. less_space s (state_move Discard s) id (discarded_moves s.keys) (less_here (recovery.space_of id s.lower.recovery)) (h id)
  plain_spaces m _ s k h = λ id. record { flight = (h id).flight; keyed = (h id).keyed; below = (h id).below }

  -- ---- where a client has to probe, it had to before

  less_before : (s s' : View t) → s'.setup ≡ s.setup → RingMoves s.keys s'.keys → ((id : SpaceId) → Less (recovery.space_of id s.lower.recovery) (recovery.space_of id s'.lower.recovery)) → Before s s'
  unfolding has_asked has_probe_keys
  less_before s s' setup keys less = record {
    side = ap (λ (x : Setup Stream). x.fixed.side) setup;
    greatest = λ id g. (less id).greatest g;
    asked = λ e. sym (λ i. (is_some ((less Initial).asked i) || is_some ((less Handshake).asked i)) && not (is_some ((less «Data»).asked i))) ∙ e;
    confirmed = λ e. (λ i. same_keys s.keys s'.keys keys «Data» i && not (same_keys s.keys s'.keys keys Handshake i)) ∙ e;
    keys = λ e a u. sym (λ i. if recovery.is_handshake (keys.highest i) then same_keys s.keys s'.keys keys Handshake i else same_keys s.keys s'.keys keys Initial i) ∙ e;
  }

  write_before : (bytes : List ℕ) (keys : NewKeys t.H t.P) (session : t.S) (s : View t) → AreNext keys s.keys.highest → Spaces s → Before s (state_move (Write bytes keys session) s)
  unfolding state_move lower_move keys_move setup_move session_wrote has_asked has_probe_keys frames_sealed ids_stepped
  write_before bytes keys session s next h = record {
    side = refl;
    greatest = λ id g. g;
    asked = λ e. e;
    confirmed = given_confirmed s.keys keys next (h «Data»).below;
    keys = λ e a u. given_probe s.keys keys (has_asked s Initial) (has_asked s Handshake) next (h Initial).keyed (h Handshake).keyed (h Handshake).below
        (asked_either (has_asked s Initial || has_asked s Handshake) (not (has_asked s «Data»)) a) (unknown_confirmed (state_move (Write bytes keys session) s) u) e;
  }
    where
      asked_either : (x y : Bool) → (x && y) ≡ true → x ≡ true
      asked_either true y e = refl
      asked_either false y e = cc

  forget_move : (space : SpaceId) (s : View t) → is_space space «Data» ≡ false → Before s (state_move (Forget space) s)
  unfolding state_move lower_move keys_move setup_move flight_dropped frames_sealed ids_stepped
  forget_move space s other = forget_before space s (state_move (Forget space) s) other refl refl refl

  renew_move : (time : ℕ) (cid token : List ℕ) (keys : SpaceKeys t.H t.P) (s : View t) → Before s (state_move (Renew time cid token keys) s)
  unfolding state_move lower_move keys_move setup_move retry_taken flight_dropped frames_sealed ids_stepped
  renew_move time cid token keys s = renew_before keys s (state_move (Renew time cid token keys) s) refl refl refl

  settled_before : (m : Meaning t) (space : SpaceId) (n : ℕ) (after : After t.C) (s : View t) → IsSettledBy m space after s → Before s (state_move (Ack space n after) s)
  unfolding state_move keys_move setup_move
  settled_before m space n after s k = less_before s (state_move (Ack space n after) s) refl (acked_moves s.keys space n) (λ id. settled_less m space id n after s k)

  fired_before : (m : Meaning t) (after : FiredAfter t.C) (s : View t) → IsFiredBy m after s → Before s (state_move (Fire after) s)
  unfolding state_move keys_move setup_move
  fired_before m after s k = less_before s (state_move (Fire after) s) refl (no_ring_moves s.keys s.keys refl) (λ id. fired_less m id after s k)

  plain_probe : (m : Meaning t) (x : Move t) (s : View t) → IsPlain m x s → Spaces s → must_probe (state_move x s) ≡ true → must_probe s ≡ true
  unfolding must_probe is_validated_by_peer has_probe_keys has_asked state_move lower_move keys_move setup_move bytes_came session_read limits_learned frame_handed streams_closed streams_stepped datagrams_stepped event_told events_told failure_counted has_keys has_keys_for form_in token_expected parameters_known word_drawn packet_drawn frames_sealed ids_stepped
  plain_probe m (Seal time form n size fs) s k h e = absurd k
  plain_probe m (Ack space n after) s k h e = before_probes s (state_move (Ack space n after) s) (settled_before m space n after s k) e
  plain_probe m (Fire after) s k h e = before_probes s (state_move (Fire after) s) (fired_before m after s k) e
  plain_probe m (Forget space) s k h e = before_probes s (state_move (Forget space) s) (forget_move space s k) e
  plain_probe m (Renew time cid token keys) s k h e = before_probes s (state_move (Renew time cid token keys) s) (renew_move time cid token keys s) e
  plain_probe m (Write bytes keys session) s k h e = before_probes s (state_move (Write bytes keys session) s) (write_before bytes keys session s k h) e
  plain_probe m (Unseal time n which fresh session) s k h e = before_probes s (state_move (Unseal time n which fresh session) s) (less_before s (state_move (Unseal time n which fresh session) s) refl (opened_moves s.keys which n fresh) (λ id. less_here (recovery.space_of id s.lower.recovery))) e
  plain_probe m (Update fresh session) s k h e = before_probes s (state_move (Update fresh session) s) (less_before s (state_move (Update fresh session) s) refl (updated_moves s.keys fresh) (λ id. less_here (recovery.space_of id s.lower.recovery))) e
  plain_probe m Discard s k h e = before_probes s (state_move Discard s) (less_before s (state_move Discard s) refl (discarded_moves s.keys) (λ id. less_here (recovery.space_of id s.lower.recovery))) e
  plain_probe m (Begin space opens) s k h e = subst (λ (l : Lower t.S). must_probe (record s { lower = l }) ≡ true) (begun_streams space opens s) e
  plain_probe m _ s k h e = e

  plain_awaits : (m : Meaning t) (x : Move t) (s : View t) (since : Bool) → IsPlain m x s → awaits_ack (sealed_since since (deeds_move x s)) (state_move x s) ≡ true → awaits_ack since s ≡ true
  unfolding state_move awaits_ack
  plain_awaits m x s since k w =
      or_more (elicits_in s Initial) _ (elicits_in (state_move x s) Initial) _ (plain_elicits m x s Initial k)
      (or_more (elicits_in s Handshake) _ (elicits_in (state_move x s) Handshake) _ (plain_elicits m x s Handshake k)
      (and_more since (is_established s.life.state) (sealed_since since (deeds_move x s)) (is_established (life_move x s).state) (plain_since m x s since k) (elicits_in s «Data») (elicits_in (state_move x s) «Data») (plain_elicits m x s «Data» k))) w

  pub plain_holds : (m : Meaning t) (x : Move t) (s : View t) (free since : Bool) → IsPlain m x s → HoldsIf free since s → HoldsIf free (sealed_since since (deeds_move x s)) (state_move x s)
  unfolding state_move
  plain_holds m x s free since k h = record {
    stands = λ f o w. ap (λ (v : Option ℕ). is_some v) (plain_timer m x s k o) ∙ h.stands f (plain_open m x s k o)
        (or_more (awaits_ack since s) (must_probe s) (awaits_ack (sealed_since since (deeds_move x s)) (state_move x s)) (must_probe (state_move x s)) (plain_awaits m x s since k) (plain_probe m x s k h.spaces) w);
    spaces = plain_spaces m x s k h.spaces;
  }

  -- they leave a path free that is free, but for bytes that are sent or come
  abbrev pub IsFree : Move t → Type 0
  IsFree (Finish bytes control) = ⊥
  IsFree (Probe time n bytes q) = ⊥
  IsFree (Hear bytes) = ⊥
  IsFree _ = Unit {0}

  pub plain_free : (x : Move t) (s : View t) → IsFree x → is_blocked s.paths ≡ false → is_blocked (paths_move x s) ≡ false
  unfolding paths_move peer_fixed path_kept path_named is_blocked path_capped
  plain_free (Finish bytes control) s k h = absurd k
  plain_free (Probe time n bytes q) s k h = absurd k
  plain_free (Hear bytes) s k h = absurd k
  plain_free (Accept time id n e g v) s k h = spun_free (path_accepted s.paths id v) s.setup.fixed.side _ g.spin (accepted_free s.paths id v h)
  plain_free (Say quiet) s k h = quiet_blocked s.paths quiet ∙ h
  plain_free _ s k h = h

  -- ---- a packet that is sealed

  -- what is known of the view behind a packet of this form that is sealed
  record IsSealedFrom (s s1 : View t) (owed : Bool) (time size n : ℕ) (f : Form) (fs : List FrameValue) : Type 0 where
    pub life : s1.life.state ≡ s.life.state
    pub recovery : s1.lower.recovery ≡ (if owed then s.lower.recovery else sent_after (number_space f) n (flown_packet time size fs) s.lower.recovery)
    pub timer : s1.timers.loss_detection ≡ s.timers.loss_detection
    pub keys : s1.keys ≡ key_used s.keys f n
    pub side : s1.setup.fixed.side ≡ s.setup.fixed.side

  -- while a close is owed
  owed_holds : (free later : Bool) (time size n : ℕ) (f : Form) (fs : List FrameValue) (s s1 : View t) → is_open s.life.state ≡ false → IsSealedFrom s s1 true time size n f fs → Spaces s → HoldsIf free later s1
  owed_holds free later time size n f fs s s1 shut is spaces = record {
    stands = λ x o w. let opened : is_open s.life.state ≡ true = ap is_open (sym is.life) ∙ o in absurd cc;
    spaces = λ id. record {
      flight = subst (λ (r : Recovery). FlightHolds (recovery.space_of id r)) (sym is.recovery) (spaces id).flight;
      keyed = λ e. ap (λ (k : KeyGroup t.H t.P). has_keys k id) is.keys ∙ used_same s.keys f n id ∙ (spaces id).keyed (ap (λ (r : Recovery). is_some (recovery.space_of id r).eliciting_at) (sym is.recovery) ∙ e);
      below = used_space s.keys s1.keys f n id is.keys (spaces id).below;
    };
  }

  flown_spaces : (s s1 : View t) (time size n : ℕ) (f : Form) (fs : List FrameValue) → has_keys_for s.keys f ≡ true → IsSealedFrom s s1 false time size n f fs → Spaces s → Spaces s1
  unfolding flown_packet counts_in_flight
  flown_spaces s s1 time size n f fs keyed is spaces = λ id. record {
    flight = subst (λ (r : Recovery). FlightHolds (recovery.space_of id r)) (sym is.recovery)
        (sent_each id (number_space f) n (flown_packet time size fs) s.lower.recovery (counted (list_any elicits fs) (list_any is_padding fs)) (λ x. (spaces x).flight));
    keyed = λ e. ap (λ (k : KeyGroup t.H t.P). has_keys k id) is.keys ∙ used_same s.keys f n id
        ∙ flown_keyed id (number_space f) n (flown_packet time size fs) s.lower.recovery (has_keys s.keys id ≡ true) (λ here. subst (λ (x : SpaceId). has_keys s.keys x ≡ true) (sym here) (form_keyed s.keys f keyed)) (spaces id).keyed
        (ap (λ (r : Recovery). is_some (recovery.space_of id r).eliciting_at) (sym is.recovery) ∙ e);
    below = used_space s.keys s1.keys f n id is.keys (spaces id).below;
  }
    where
      counted : (a b : Bool) → (a && not (a || b)) ≡ false
      counted true b = refl
      counted false b = refl

  -- a packet that doesn't count elicits nothing, and leaves where a client has to probe
  flown_elicits : (s s1 : View t) (time size n : ℕ) (f : Form) (fs : List FrameValue) → IsSealedFrom s s1 false time size n f fs → list_any elicits fs ≡ false → (id : SpaceId) → elicits_in s1 id ≡ true → elicits_in s id ≡ true
  unfolding flown_packet elicits_in sent_after space_sent
  flown_elicits s s1 time size n f fs is none id h =
      let space : SpaceId = number_space f in
      put_elicits id space (space_sent n (flown_packet time size fs) (recovery.space_of space s.lower.recovery)) s.lower.recovery
      (λ e. before (has_eliciting (recovery.space_of space s.lower.recovery).flight) (list_any elicits fs) none (sym (list_any-append (λ (x : Entry). x.1.ack_eliciting) (recovery.space_of space s.lower.recovery).flight ((n, flown_packet time size fs) ∷ [])) ∙ e))
      (subst (λ (r : Recovery). has_eliciting (recovery.space_of id r).flight ≡ true) is.recovery h)
    where
      before : (a b : Bool) → b ≡ false → (a || (b || false)) ≡ true → a ≡ true
      before true b silent_is e = refl
      before false true silent_is e = cc
      before false false silent_is e = cc

  flown_before : (s s1 : View t) (time size n : ℕ) (f : Form) (fs : List FrameValue) → IsSealedFrom s s1 false time size n f fs → list_any elicits fs ≡ false → Before s s1
  unfolding flown_packet sent_after space_sent has_asked has_probe_keys
  flown_before s s1 time size n f fs is none =
      let space : SpaceId = number_space f in
      let r : Recovery = s.lower.recovery in
      let sent : SpaceRecovery = space_sent n (flown_packet time size fs) (recovery.space_of space r) in
      let asked : (id : SpaceId) → (recovery.space_of id s1.lower.recovery).eliciting_at ≡ (recovery.space_of id r).eliciting_at =
      λ id. ap (λ (r : Recovery). (recovery.space_of id r).eliciting_at) is.recovery ∙ kept_asked id space sent r (unasked_at (list_any elicits fs) time (recovery.space_of space r).eliciting_at none) in
      let same : (id : SpaceId) → has_keys s1.keys id ≡ has_keys s.keys id = λ id. ap (λ (k : KeyGroup t.H t.P). has_keys k id) is.keys ∙ used_same s.keys f n id in
      let highest : s1.keys.highest ≡ s.keys.highest = ap (λ (k : KeyGroup t.H t.P). k.highest) is.keys ∙ used_highest s.keys f n in
      record {
        side = is.side;
        greatest = λ id g. subst (λ (r : Recovery). is_some (recovery.space_of id r).greatest ≡ true) (sym is.recovery) (kept_greatest id space sent r (λ e. e) g);
        asked = λ e. sym (λ i. (is_some (asked Initial i) || is_some (asked Handshake i)) && not (is_some (asked «Data» i))) ∙ e;
        confirmed = λ e. (λ i. same «Data» i && not (same Handshake i)) ∙ e;
        keys = λ e a u. sym (λ i. if recovery.is_handshake (highest i) then same Handshake i else same Initial i) ∙ e;
      }

  seal_by : (m : Meaning t) (free since owed counts : Bool) (time size n : ℕ) (f : Form) (fs : List FrameValue) (s s1 : View t) (ds : List Did) → (owed ≡ true → is_open s.life.state ≡ false) → counts_in_flight fs ≡ counts → has_keys_for s.keys f ≡ true →
      IsSealedFrom s s1 owed time size n f fs → HoldsIf free since s → HoldsIf free (since || counts) (flown_after m time size (not owed && counts) (at s1 ds)).state
  unfolding armed_with spent_after move_to awaits_ack
  seal_by m free since true counts time size n f fs s s1 ds shut is keyed sealed h = owed_holds free (since || counts) time size n f fs s s1 (shut refl) sealed h.spaces
  seal_by m free since false true time size n f fs s s1 ds shut is keyed sealed h =
      arm_holds free (since || true) false time (state_move (Spend _) s1) (λ x. refl) (plain_spaces m (Spend _) s1 tt (flown_spaces s s1 time size n f fs keyed sealed h.spaces))
  seal_by m free since false false time size n f fs s s1 ds shut is keyed sealed h = record {
    stands = λ x o w. ap (λ (v : Option ℕ). is_some v) sealed.timer ∙ h.stands x (ap is_open (sym sealed.life) ∙ o)
        (or_more (awaits_ack since s) (must_probe s) (awaits_ack (since || false) s1) (must_probe s1) less_awaits (before_probes s s1 (flown_before s s1 time size n f fs sealed (silent_fs fs is))) w);
    spaces = flown_spaces s s1 time size n f fs keyed sealed h.spaces;
  }
    where
      or_none : (b : Bool) → (b || false) ≡ b
      or_none true = refl
      or_none false = refl

      less_awaits : awaits_ack (since || false) s1 ≡ true → awaits_ack since s ≡ true
      less_awaits w =
          or_more (elicits_in s Initial) _ (elicits_in s1 Initial) _ (flown_elicits s s1 time size n f fs sealed (silent_fs fs is) Initial)
          (or_more (elicits_in s Handshake) _ (elicits_in s1 Handshake) _ (flown_elicits s s1 time size n f fs sealed (silent_fs fs is) Handshake)
          (and_more since (is_established s.life.state) (since || false) (is_established s1.life.state) (λ e. ap (λ (b : Bool). b && is_established s.life.state) (sym (or_none since)) ∙ ap (λ (x : State). (since || false) && is_established x) (sym sealed.life) ∙ e)
          (elicits_in s «Data») (elicits_in s1 «Data») (flown_elicits s s1 time size n f fs sealed (silent_fs fs is) «Data»))) w

  sealed_from : (time n size : ℕ) (f : Form) (fs : List FrameValue) (s : View t) → IsSealedFrom s (state_move (Seal time f n size fs) (state_move (Take (number_space f) fs) s)) s.waiting.close_owed time size n f fs
  unfolding state_move life_move lower_move streams_stepped datagrams_stepped timers_move waiting_move waiting_without keys_move setup_move packet_drawn frames_sealed ids_stepped
  sealed_from time n size f fs s = record { life = refl; recovery = flown_recovery s.waiting.close_owed (frames_sealed fs s.lower) (number_space f) n (flown_packet time size fs); timer = sealed_loss s.timers _ _ time (list_any elicits fs) (list_any is_ack fs); keys = refl; side = refl }

  pub sealed_holds : (m : Meaning t) (free since : Bool) (time : ℕ) (f : Form) (fs : List FrameValue) (a : At t) → (a.state.waiting.close_owed ≡ true → is_open a.state.life.state ≡ false) → has_keys_for a.state.keys f ≡ true → HoldsIf free since a.state →
      HoldsIf free (since || counts_in_flight fs) (sealed_in m time f fs a).state
  unfolding sealed_in is_flown move_to
  sealed_holds m free since time f fs a shut keyed h =
      seal_by m free since a.state.waiting.close_owed (counts_in_flight fs) time (packet_size a.state f fs) (next_number a.state.numbers (number_space f)) f fs a.state _ _ shut refl keyed
      (sealed_from time (next_number a.state.numbers (number_space f)) (packet_size a.state f fs) f fs a.state) h
