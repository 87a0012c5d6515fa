-- Over a run no Initial packet is sealed by an end that has left the Initial space.
use Rattle.std.proofs.Common.{◌≡◌, ◌⊎◌, inl, inr, ℕ, ◌+◌, ◌<◌, ◌≤◌, List, [], ◌∷◌, ◌++◌, refl, ap, sym, ◌∙◌, subst, Bool, true, false, Option, Some, None, if◌then◌else◌, append_assoc, append-nil, arith}
use Rattle.std.specs.Prelude.{◌&&◌, ◌||◌, ◌==◌, not, is_none, is_some, option_map}
use Rattle.std.specs.List.{list_any}
use Rattle.qc_base.specs.declared.side.Side.{Side}
use Rattle.qc_base.specs.declared.side.Side.TheVariants.{Client, Server}
use Rattle.qc_base.specs.declared.side.SpaceId.{SpaceId}
use Rattle.qc_base.specs.declared.side.SpaceId.TheVariants.{Initial, Handshake, «Data»}
use Rattle.qc_frame.specs.Frame.{FrameValue}
use Rattle.qc_frame.specs.Payload.{items_of}
use Rattle.qc_rings.specs.declared.which.Which.{Which}
use Rattle.qc_state.specs.declared.form.Form.{Form}
use Rattle.qc_state.specs.declared.form.Form.TheVariants as form
use Rattle.qc_state.specs.declared.keys.Fresh.{Fresh}
use Rattle.qc_state.specs.declared.coming.Coming.{Coming}
use Rattle.qc_state.specs.declared.deeds.Did.{Did}
use Rattle.qc_state.specs.declared.deeds.Did.TheVariants as did
use Rattle.qc_state.specs.declared.deeds.Quiet.TheVariants.{Killed, Pacing}
use Rattle.qc_state.specs.declared.deeds.Verdict.{Verdict}
use Rattle.qc_state.specs.declared.deeds.Verdict.TheVariants as verdict
use Rattle.qc_state.specs.declared.input.Input.{Input}
use Rattle.qc_state.specs.declared.input.Input.TheVariants as input
use Rattle.qc_state.specs.declared.keys.KeyGroup.{KeyGroup}
use Rattle.qc_state.specs.declared.keys.SpaceKeys.{SpaceKeys}
use Rattle.qc_state.specs.declared.life.Close.{Close}
use Rattle.qc_state.specs.declared.life.ConnectionError.{ConnectionError}
use Rattle.qc_state.specs.declared.life.Life.{Life}
use Rattle.qc_state.specs.declared.life.State.TheVariants as state
use Rattle.qc_state.specs.declared.trace.Step.{Step}
use Rattle.qc_state.specs.declared.transmit.Batch.{Batch}
use Rattle.qc_state.specs.Forms.{number_space, is_early}
use Rattle.qc_state.specs.Headline.{deeds_of}
use Rattle.qc_laws.specs.InitialLaws.{LeavesInitial, NoneInitial, has_left, is_left, leaves_with, seals_initial}
use Rattle.qc_state.specs.Keys.{NewKeys, NoKeys, HandshakeKeys, DataKeys, count_one, failure_counted, has_keys, key_used, keys_dropped, keys_given, epoch_in, form_in, has_keys_for, key_acked, key_discarded, key_opened, key_updated, initial_renewed}
use Rattle.qc_state.specs.Life.{all_heard_reported, connected_reported, drained_reported, is_drained, is_open, is_over, life_raised, lost_reported, notice_reported, notices_reported, rank_of, ready_reported, reason_given}
use Rattle.qc_state.specs.Moves.{Accept, Arm, Ask, Begin, PeerClosesToo, Enter, Establish, Expect, Fail, Finish, Forget, Give, Hold, IsTold, Learn, PeerCloses, MayMove, Move, Owe, Raise, Say, Seal, Shut, Skip, Spend, Take, Tell, Write, accepts, armed_with, deeds_move, keys_move, life_move, move_to, setup_move, state_move, Hand, Call, Post, Insert, Retire, Issue, Unseal, Ack, Discard, Update, Renew}
use Rattle.qc_state.specs.Numbers.{is_skipped, next_number}
use Rattle.qc_state.specs.Paths.{is_blocked}
use Rattle.qc_state.specs.Receiving.{accepted_after, admitted_after, datagram_after, fixed_after, is_close_item, is_eliciting_item, read_for_close, received_after, signs_of, verdict_after}
use Rattle.qc_state.specs.Run.{IsAllowed, IsStep, Run, began, called, close_after, input_after, reported, step_after, time_of, datagram_limit}
use Rattle.qc_state.specs.Batches.{batch_grown, is_in_order}
use Rattle.qc_state.specs.Sending.{Choice, Died, Ending, Going, Held, Hushed, MayAll, MayEnd, MayFollow, MayTransmit, Probed, Sent, Went, begun_after, begun_batch, drops_initial, ending_after, finished_after, flown_after, going_from, gone_after, handshake_left, held_after, initial_left, is_flown, leaves_initial, packet_after, packet_size, packets_after, sealed_in, skipped_after, spared_after, spent_after, told_sent, transmit_after, going_tried, going}
use Rattle.qc_state.specs.Setup.{packet_drawn, parameters_known, token_expected, word_drawn, retry_taken}
use Rattle.qc_state.specs.Stopping.{given_after, killed_after}
use Rattle.qc_state.specs.Spaces.{is_space, space_of}
use Rattle.qc_state.specs.Timeouts.{timeout_after}
use Rattle.qc_state.specs.Updating.{fresh_by, session_by, unsealed_after, fresh_now, tried_after}
use Rattle.qc_state.specs.Types.{Types, Meaning}
use Rattle.qc_state.specs.Verdicts.{verdict_of}
use Rattle.qc_state.specs.View.{View, At}
use Rattle.qc_state.proofs.Batches.{packet_made}
use Rattle.qc_state.proofs.Expired.{IsTimed, holds_timeout}
use Rattle.qc_state.proofs.OpenPackets.{holds_fixed, holds_packet, holds_payload, packet_received, unsealed_life}
use Rattle.qc_state.proofs.PacketMoves.{IsInPacket, OpenPacket}
use Rattle.qc_state.proofs.ReceivedMoves.{IsOutside}
use Rattle.qc_laws.proofs.Receives.{datagram_holds}
use Rattle.qc_state.proofs.Telling.{Told, kernel, told_appends}
use Rattle.qc_state.proofs.Transmitted.{IsPacketMove, IsSending, holds_ending, holds_packet as holds_sealing, holds_spared, owing_keyed, beginning_packet}
use Rattle.qc_state.proofs.KeySteps.{acked_moves, discarded_moves, opened_moves, same_keys, updated_moves}
use Rattle.qc_laws.proofs.CryptoPlaces.{given_open}
use Rattle.qc_laws.proofs.InitialDeeds.{accepted_quiet, drained_high, either, high_drained, late_space, left_append, left_by_test, none_append, not_left, one_silent, opened_shook, or_first, or_second, piece_silent, sealed_initial, sealed_shakes, shaking_late, silent_append, silent_left, silent_none, SilentBut, tells_rank, test_of_left, told_silent}
use Rattle.qc_laws.proofs.Told.{told_input}
use Rattle.qc_laws.proofs.StreamCalls.{called_input, handed_told}
use Rattle.qc_state.specs.declared.deeds.Layer.TheVariants as layer
use Rattle.qc_state.proofs.Updates.{holds_updated}
use Rattle.qc_datagrams.specs.Steps as datagrams
use Rattle.qc_state.proofs.Tried.{holds_tried}

-- ---- keys

module _ {H P : Type 0} where
  used_gone : (o : Option (SpaceKeys H P)) → is_some o ≡ false → is_some (count_one o) ≡ false
  unfolding count_one
  used_gone None h = refl
  used_gone (Some k) h = cc

  key_gone : (v : KeyGroup H P) (form : Form) (n : ℕ) → has_keys v Initial ≡ false → has_keys (key_used v form n) Initial ≡ false
  unfolding key_used has_keys has_keys_for form_in
  key_gone v form.Initial n h = used_gone v.initial h
  key_gone v form.Handshake n h = h
  key_gone v form.Early n h = h
  key_gone v form.OneRtt n h = h

  dropped_gone : (v : KeyGroup H P) (id : SpaceId) → has_keys v Initial ≡ false → has_keys (keys_dropped v id) Initial ≡ false
  unfolding keys_dropped has_keys has_keys_for form_in
  dropped_gone v Initial h = refl
  dropped_gone v Handshake h = h
  dropped_gone v Data h = h

  initial_dropped : (v : KeyGroup H P) → has_keys (keys_dropped v Initial) Initial ≡ false
  unfolding keys_dropped has_keys has_keys_for form_in
  initial_dropped v = refl

  given_gone : (v : KeyGroup H P) (keys : NewKeys H P) → has_keys v Initial ≡ false → has_keys (keys_given v keys) Initial ≡ false
  unfolding keys_given has_keys has_keys_for form_in
  given_gone v NoKeys h = h
  given_gone v (HandshakeKeys k) h = h
  given_gone v (DataKeys k) h = h

  failed_gone : (v : KeyGroup H P) → has_keys v Initial ≡ false → has_keys (failure_counted v) Initial ≡ false
  unfolding failure_counted has_keys has_keys_for form_in
  failed_gone v h = h

  -- keys in the place of others are none where there were none
  none_renewed : (o : Option (SpaceKeys H P)) (k : SpaceKeys H P) → is_some o ≡ false → is_some (option_map (λ (old : SpaceKeys H P). k) o) ≡ false
  none_renewed None k h = refl
  none_renewed (Some old) k h = cc h

  renewed_gone : (v : KeyGroup H P) (k : SpaceKeys H P) → has_keys v Initial ≡ false → has_keys (initial_renewed v k) Initial ≡ false
  unfolding initial_renewed has_keys has_keys_for form_in
  renewed_gone v k h = none_renewed v.initial k h

-- ---- moves

module _ {t : Types} where
  -- the Initial space has no keys
  abbrev Gone : At t → Type 0
  Gone a = has_keys a.state.keys Initial ≡ false

  abbrev side_of : At t → Side
  side_of a = a.state.setup.fixed.side

  -- where it has none it gets none
  move_gone : (x : Move t) (a : At t) → Gone a → Gone (move_to x a)
  unfolding move_to state_move keys_move
  move_gone (Seal time form n size fs) a h = key_gone a.state.keys form n h
  move_gone (Forget id) a h = dropped_gone a.state.keys id h
  move_gone Fail a h = failed_gone a.state.keys h
  move_gone (Renew time cid token keys) a h = renewed_gone a.state.keys keys h
  move_gone (Unseal time n which fresh session) a h = same_keys a.state.keys (key_opened a.state.keys which n fresh) (opened_moves a.state.keys which n fresh) Initial ∙ h
  move_gone (Ack id n r) a h = same_keys a.state.keys (key_acked a.state.keys id n) (acked_moves a.state.keys id n) Initial ∙ h
  move_gone (Update fresh session) a h = same_keys a.state.keys (key_updated a.state.keys fresh) (updated_moves a.state.keys fresh) Initial ∙ h
  move_gone Discard a h = same_keys a.state.keys (key_discarded a.state.keys) (discarded_moves a.state.keys) Initial ∙ h
  move_gone (Write bytes keys session) a h = given_gone a.state.keys keys h
  move_gone _ a h = h

  -- no move changes the side
  move_side : (x : Move t) (a : At t) → side_of (move_to x a) ≡ side_of a
  unfolding move_to state_move setup_move token_expected parameters_known word_drawn packet_drawn retry_taken
  move_side x a = side_by x
    where
      side_by : (y : Move t) → (setup_move y a.state).fixed.side ≡ a.state.setup.fixed.side
      side_by (Expect token) = refl
      side_by (Learn parameters) = refl
      side_by Skip = refl
      side_by (Seal time form n size fs) = refl
      side_by _ = refl

  -- from one moment to another nothing was sealed in the Initial space; where an end left it, this holds
  record Quiet (P : Type 0) (a b : At t) : Type 0 where
    pub since : List Did
    pub appended : b.did ≡ a.did ++ since
    pub silent : SilentBut P since
    pub gone : Gone a → Gone b
    pub side : side_of b ≡ side_of a

  quiet_here : (P : Type 0) (a : At t) → Quiet P a a
  quiet_here P a = record { since = []; appended = sym (append-nil a.did); silent = tt; gone = λ h. h; side = refl }

  quiet_next : (P : Type 0) (a b c : At t) → Quiet P a b → Quiet P b c → Quiet P a c
  quiet_next P a b c g h = record {
    since = g.since ++ h.since;
    appended = h.appended ∙ ap (λ (x : List Did). x ++ h.since) g.appended ∙ append_assoc a.did g.since h.since;
    silent = silent_append P g.since h.since g.silent h.silent;
    gone = λ e. h.gone (g.gone e);
    side = h.side ∙ g.side;
  }

  -- the moves that do so
  abbrev IsQuiet : Type 0 → Move t → Type 0
  IsQuiet P (Seal time form n size fs) = ⊥
  IsQuiet P (Accept time id n e g v) = id ≡ Handshake → P
  IsQuiet P (Enter id n v) = accepts v ≡ false
  IsQuiet P (Tell d) = IsTold d
  IsQuiet P _ = Unit {0}

  quiet_deeds : (P : Type 0) (x : Move t) (s : View t) → IsQuiet P x → SilentBut P (deeds_move x s)
  unfolding deeds_move
  quiet_deeds P (Seal time form n size fs) s q = absurd q
  quiet_deeds P (Accept time id n e g v) s q = (refl, λ side h. accepted_quiet P id (Some n) v q side h, tt)
  quiet_deeds P (Enter id n v) s q = piece_silent P (Some id) (Some n) v q
  quiet_deeds P (Tell d) s q = told_silent P d q
  quiet_deeds P (Renew time cid token keys) s q = one_silent P _ refl refl refl
  quiet_deeds P Establish s q = one_silent P (did.Rose 1) refl refl refl
  quiet_deeds P (Shut time close) s q = one_silent P (did.Rose 2) refl refl refl
  quiet_deeds P (PeerCloses time) s q = one_silent P (did.Rose 3) refl refl refl
  quiet_deeds P PeerClosesToo s q = one_silent P (did.Rose 3) refl refl refl
  quiet_deeds P (Raise to) s q = one_silent P _ refl refl refl
  quiet_deeds P (Give why) s q = one_silent P (did.Lost why) refl refl refl
  quiet_deeds P (Say quiet) s q = one_silent P (did.Quiet quiet) refl refl refl
  quiet_deeds P (Hand frame) s q = handed_told (λ ds. SilentBut P ds) frame tt (λ body. one_silent P (did.Gave layer.Streams body) refl refl refl)
  quiet_deeds P (Insert new) s q = one_silent P _ refl refl refl
  quiet_deeds P (Retire time n) s q = one_silent P _ refl refl refl
  quiet_deeds P _ s q = tt

  quiet_move : (P : Type 0) (x : Move t) → IsQuiet P x → (a : At t) → Quiet P a (move_to x a)
  unfolding move_to
  quiet_move P x q a = record {
    since = deeds_move x a.state;
    appended = told_appends a.did (deeds_move x a.state);
    silent = quiet_deeds P x a.state q;
    gone = move_gone x a;
    side = move_side x a;
  }

  -- ---- what the law says, from one moment to another: where nothing is sealed

  record Leaves (side : Side) (a b : At t) : Type 0 where
    pub since : List Did
    pub appended : b.did ≡ a.did ++ since
    pub none : (left : Bool) → NoneInitial side left since
    pub gone : (left : Bool) → side_of a ≡ side → (left ≡ true → Gone a) → has_left side left since ≡ true → Gone b
    pub same : side_of b ≡ side_of a

  leaves_here : (side : Side) (a : At t) → Leaves side a a
  leaves_here side a = record { since = []; appended = sym (append-nil a.did); none = λ left. tt; gone = λ left is h e. h e; same = refl }

  leaves_next : (side : Side) (a b c : At t) → Leaves side a b → Leaves side b c → Leaves side a c
  leaves_next side a b c g h = record {
    since = g.since ++ h.since;
    appended = h.appended ∙ ap (λ (x : List Did). x ++ h.since) g.appended ∙ append_assoc a.did g.since h.since;
    none = λ left. none_append side left g.since h.since (g.none left) (h.none (has_left side left g.since));
    gone = λ left is k e. h.gone (has_left side left g.since) (g.same ∙ is) (g.gone left is k) (sym (left_append side left g.since h.since) ∙ e);
    same = h.same ∙ g.same;
  }

  quiet_leaves : (P : Type 0) (side : Side) (a b : At t) → Quiet P a b → (P → side_of a ≡ Server → Gone b) → Leaves side a b
  quiet_leaves P side a b q does = record {
    since = q.since;
    appended = q.appended;
    none = λ left. silent_none P side left q.since q.silent;
    gone = λ left is k e. silent_left P (Gone b) side left q.since q.silent (λ l. q.gone (k l)) (λ p server. does p (is ∙ server)) e;
    same = q.side;
  }

  move_leaves : (side : Side) (x : Move t) → IsQuiet ⊥ x → (a : At t) → Leaves side a (move_to x a)
  move_leaves side x q a = quiet_leaves ⊥ side a (move_to x a) (quiet_move ⊥ x q a) (λ p. absurd p)

  -- ---- and where packets may be sealed: the space has no keys, or the connection has ended

  abbrev HasLeft : View t → Type 0
  HasLeft s = (has_keys s.keys Initial ≡ false) ⊎ (is_drained s.life.state ≡ true)

  abbrev Ended : At t → Type 0
  Ended a = is_drained a.state.life.state ≡ true

  either_left : (a b : At t) → (Gone a → Gone b) → (Ended a → Ended b) → HasLeft a.state → HasLeft b.state
  either_left a b gone ended (inl h) = inl (gone h)
  either_left a b gone ended (inr h) = inr (ended h)

  record Departs (side : Side) (a b : At t) : Type 0 where
    pub since : List Did
    pub appended : b.did ≡ a.did ++ since
    pub none : (left : Bool) → side_of a ≡ side → (left ≡ true → HasLeft a.state) → NoneInitial side left since
    pub gone : (left : Bool) → side_of a ≡ side → (left ≡ true → HasLeft a.state) → has_left side left since ≡ true → HasLeft b.state
    pub same : side_of b ≡ side_of a

  leaves_departs : (side : Side) (a b : At t) → Leaves side a b → (Ended a → Ended b) → Departs side a b
  leaves_departs side a b h stays = record { since = h.since; appended = h.appended; none = λ left is k. h.none left; gone = departs_by; same = h.same }
    where
      departs_by : (left : Bool) → side_of a ≡ side → (left ≡ true → HasLeft a.state) → has_left side left h.since ≡ true → HasLeft b.state
      departs_by false is k e = inl (h.gone false is (λ l. absurd cc) e)
      departs_by true is k e = either_left a b (λ gone. h.gone true is (λ l. gone) e) stays (k refl)

  -- ---- datagrams

  outside_quiet : (time : ℕ) (x : Move t) (s : View t) → IsOutside time x s → MayMove x s → IsQuiet ⊥ x
  unfolding MayMove
  outside_quiet at_time (Tell d) s h may = may
  outside_quiet at_time (Seal time form n size fs) s h may = absurd h
  outside_quiet at_time (Accept time id n e g v) s h may = absurd h
  outside_quiet at_time (Enter id n v) s h may = absurd h
  outside_quiet at_time _ s h may = tt

  packet_quiet : (m : Meaning t) (o : OpenPacket) (x : Move t) (s : View t) → IsInPacket m o x s → MayMove x s → IsQuiet (o.space ≡ Handshake) x
  unfolding MayMove
  packet_quiet m o (Tell d) s h may = may
  packet_quiet m o (Seal time form n size fs) s h may = absurd h
  packet_quiet m o (Accept time id n e g v) s h may = λ is. sym h.3.space ∙ is
  packet_quiet m o (Enter id n v) s h may = h.0
  packet_quiet m o _ s h may = tt

  -- a server that accepts a Handshake packet leaves the space
  left_by : (blocked : Bool) (time : ℕ) (a : At t) (b : Bool) → has_keys a.state.keys Initial ≡ b → Gone (if b then armed_with blocked time (move_to (Forget Initial) a) else a)
  unfolding armed_with move_to state_move keys_move
  left_by blocked time a true h = initial_dropped a.state.keys
  left_by blocked time a false h = h

  initial_gone : (side : Side) (blocked : Bool) (time : ℕ) (a : At t) → side_of a ≡ side → Gone (initial_left side blocked time Handshake a)
  unfolding initial_left drops_initial
  initial_gone Client blocked time a is = subst (λ (e : Side). Gone (if leaves_initial Client e Handshake && has_keys a.state.keys Initial then armed_with blocked time (move_to (Forget Initial) a) else a)) (sym is) (left_by blocked time a (has_keys a.state.keys Initial) refl)
  initial_gone Server blocked time a is = subst (λ (e : Side). Gone (if leaves_initial Server e Handshake && has_keys a.state.keys Initial then armed_with blocked time (move_to (Forget Initial) a) else a)) (sym is) (left_by blocked time a (has_keys a.state.keys Initial) refl)

  accepted_gone : (o : OpenPacket) (e : Bool) (v : Verdict) (a : At t) → side_of a ≡ Server → o.space ≡ Handshake → Gone (accepted_after o.coming o.space o.number e o.spin v a)
  unfolding accepted_after
  accepted_gone o e v a server shakes =
      let b : At t = move_to (Accept o.coming.time o.space o.number e (signs_of o.coming o.spin) v) a in
      subst (λ (id : SpaceId). Gone (initial_left Server (is_blocked b.state.paths) o.coming.time id b)) (sym shakes)
      (initial_gone Server (is_blocked b.state.paths) o.coming.time b (move_side (Accept o.coming.time o.space o.number e (signs_of o.coming o.spin) v) a ∙ server))

  admitted_gone : (m : Meaning t) (o : OpenPacket) (a : At t) → side_of a ≡ Server → o.space ≡ Handshake → Gone (admitted_after m o.coming o.space o.spin o.source o.number o.payload a)
  unfolding admitted_after
  admitted_gone m o a server shakes =
      let Keeps : At t → At t → Type 0 = λ c d. Gone c → Gone d in
      let b : At t = accepted_after o.coming o.space o.number (list_any is_eliciting_item (items_of o.payload)) o.spin verdict.Admitted a in
      let c : At t = fixed_after o.space o.source b in
      holds_payload m o Keeps (λ d h. h) (λ d e f g k h. k (g h)) (λ x d h may. move_gone x d) c
      (holds_fixed m o Keeps (λ d h. h) (λ d e f g k h. k (g h)) (λ x d h may. move_gone x d) b (accepted_gone o (list_any is_eliciting_item (items_of o.payload)) verdict.Admitted a server shakes))

  closing_leaves : (side : Side) (a : At t) (b : Bool) → Leaves side a (if b then move_to PeerClosesToo a else move_to Owe a)
  closing_leaves side a true = move_leaves side PeerClosesToo tt a
  closing_leaves side a false = move_leaves side Owe tt a

  -- a packet that opened, by its verdict
  verdict_leaves : (side : Side) (m : Meaning t) (o : OpenPacket) (v : Verdict) (a : At t) → Quiet (o.space ≡ Handshake) a (verdict_after m o.coming o.space o.spin o.source o.number o.payload v a) →
      Leaves side a (verdict_after m o.coming o.space o.spin o.source o.number o.payload v a)
  unfolding read_for_close
  verdict_leaves side m o verdict.Ignored a q = leaves_here side a
  verdict_leaves side m o verdict.Failure a q = leaves_here side a
  verdict_leaves side m o verdict.BadBits a q = leaves_here side a
  verdict_leaves side m o verdict.BadUpdate a q = leaves_here side a
  verdict_leaves side m o verdict.RetryTaken a q = leaves_here side a
  verdict_leaves side m o verdict.Versions a q = leaves_here side a
  verdict_leaves side m o verdict.Seen a q = move_leaves side (Tell (did.Piece (Some o.space) (Some o.number) verdict.Seen)) refl a
  verdict_leaves side m o verdict.ReadForClose a q =
      let b : At t = move_to (Enter o.space o.number verdict.ReadForClose) a in
      leaves_next side a b _ (move_leaves side (Enter o.space o.number verdict.ReadForClose) refl a) (closing_leaves side b (list_any is_close_item (items_of o.payload)))
  verdict_leaves side m o verdict.NumberOnly a q = move_leaves side (Enter o.space o.number verdict.NumberOnly) refl a
  verdict_leaves side m o verdict.AckOnly a q = quiet_leaves (o.space ≡ Handshake) side a _ q (λ shakes server. accepted_gone o false verdict.AckOnly a server shakes)
  verdict_leaves side m o verdict.Admitted a q = quiet_leaves (o.space ≡ Handshake) side a _ q (λ shakes server. admitted_gone m o a server shakes)

  -- its step of the ring
  unsealed_leaves : (side : Side) (m : Meaning t) (time : ℕ) (which : Option Which) (number : ℕ) (a : At t) → Leaves side a (unsealed_after m time which number a)
  unsealed_leaves side m time None number a = leaves_here side a
  unsealed_leaves side m time (Some which) number a = move_leaves side (Unseal time number which (fresh_by m which a.state) (session_by m which a.state.lower.session)) tt a

  packet_leaves : (side : Side) (m : Meaning t) (o : OpenPacket) (a : At t) → is_over a.state.life.state ≡ false → Leaves side a (packet_received m o a)
  unfolding received_after
  packet_leaves side m o a lively =
      let P : Type 0 = o.space ≡ Handshake in
      let b : At t = unsealed_after m o.coming.time o.which o.number a in
      let plain : OpenPacket = record o { which = None } in
      leaves_next side a b _ (unsealed_leaves side m o.coming.time o.which o.number a)
      (verdict_leaves side m o (verdict_of b.state o.space o.source o.token o.number) b
      (holds_packet m plain (Quiet P) (quiet_here P) (quiet_next P) (λ x c h may. quiet_move P x (packet_quiet m plain x c.state h may) c) b (ap (λ (l : Life). is_over l.state) (unsealed_life m o.coming.time o.number o.which a) ∙ lively)))

  datagram_leaves : (side : Side) (m : Meaning t) (coming : Coming) (bytes : List ℕ) (a : At t) → Leaves side a (datagram_after m coming bytes a)
  datagram_leaves side m coming bytes a =
      datagram_holds m coming (λ p. Unit {0}) (Leaves side) (leaves_here side) (leaves_next side) (λ x b h may. move_leaves side x (outside_quiet coming.time x b.state h may) b)
      (λ p comes o b opened. packet_leaves side m o b opened.lively) bytes a (λ p among. tt)

  -- ---- timeouts

  timed_quiet : (x : Move t) → IsTimed x → IsQuiet ⊥ x
  timed_quiet (Tell d) h = absurd h
  timed_quiet (Seal time form n size fs) h = absurd h
  timed_quiet (Accept time id n e g v) h = absurd h
  timed_quiet (Enter id n v) h = absurd h
  timed_quiet _ h = tt

  timeout_leaves : (side : Side) (m : Meaning t) (time : ℕ) (a : At t) → Leaves side a (timeout_after m time a)
  timeout_leaves side m time a = holds_timeout (Leaves side) (leaves_here side) (leaves_next side) (λ x h b may. move_leaves side x (timed_quiet x h) b) m time a

  -- ---- transmits

  sending_quiet : (x : Move t) → IsSending x → IsQuiet ⊥ x
  sending_quiet (Tell d) h = absurd h
  sending_quiet (Seal time form n size fs) h = absurd h
  sending_quiet (Accept time id n e g v) h = absurd h
  sending_quiet (Enter id n v) h = absurd h
  sending_quiet _ h = tt

  -- what a packet tells
  begun_deeds_by : (a : At t) (b : Bool) → (if b then move_to Skip a else a).did ≡ a.did
  unfolding move_to deeds_move
  begun_deeds_by a true = refl
  begun_deeds_by a false = refl

  pub begun_deeds : (id : SpaceId) (opens : Bool) (a : At t) → (begun_after id opens a).did ≡ a.did
  unfolding begun_after skipped_after move_to deeds_move
  begun_deeds id opens a = begun_deeds_by a (is_skipped a.state.numbers id)

  pub flown_deeds : (m : Meaning t) (time size : ℕ) (a : At t) (b : Bool) → (flown_after m time size b a).did ≡ a.did
  unfolding armed_with spent_after move_to deeds_move
  flown_deeds m time size a true = refl
  flown_deeds m time size a false = refl

  pub sealed_deeds : (time : ℕ) (form : Form) (n size : ℕ) (fs : List FrameValue) (c : At t) →
      (move_to (Seal time form n size fs) (move_to (Take (number_space form) fs) c)).did ≡ c.did ++ did.Sealed (number_space form) n (epoch_in c.state.keys form) (is_early form) fs ∷ []
  unfolding move_to deeds_move state_move keys_move
  sealed_deeds time form n size fs c = refl

  -- the deed of a packet, once it was begun
  abbrev pub sealed_deed : Sent → At t → Did
  sealed_deed p a = did.Sealed (number_space p.form) (next_number a.state.numbers (number_space p.form)) (epoch_in a.state.keys p.form) (is_early p.form) p.frames

  pub packet_deeds : (m : Meaning t) (time : ℕ) (p : Sent) (g : Going t) → (packet_after m time p g).now.did ≡ g.now.did ++ sealed_deed p (begun_after (number_space p.form) p.opens g.now) ∷ []
  unfolding packet_after sealed_in
  packet_deeds m time p g =
      let a : At t = begun_after (number_space p.form) p.opens g.now in
      let n : ℕ = next_number a.state.numbers (number_space p.form) in
      let b : At t = move_to (Seal time p.form n (packet_size a.state p.form p.frames) p.frames) (move_to (Take (number_space p.form) p.frames) a) in
      flown_deeds m time (packet_size a.state p.form p.frames) b (is_flown a.state p.frames) ∙ sealed_deeds time p.form n (packet_size a.state p.form p.frames) p.frames a ∙ ap (λ (ds : List Did). ds ++ sealed_deed p a ∷ []) (begun_deeds (number_space p.form) p.opens g.now)

  -- a packet gets the space no keys, and leaves the side
  packet_gone : (m : Meaning t) (time : ℕ) (p : Sent) (g : Going t) → MayFollow m time g.now.state g.batch p → Gone g.now → Gone (packet_after m time p g).now
  packet_gone m time p g may =
      holds_sealing (λ c d. Gone c → Gone d) (λ d h. h) (λ d e f h k z. k (h z)) (λ x r d h. move_gone x d)
      (λ time form fs d h z. move_gone (Seal time form (next_number d.state.numbers (number_space form)) (packet_size d.state form fs) fs) (move_to (Take (number_space form) fs) d) (move_gone (Take (number_space form) fs) d z)) m time p g may

  packet_side : (m : Meaning t) (time : ℕ) (p : Sent) (g : Going t) → MayFollow m time g.now.state g.batch p → side_of (packet_after m time p g).now ≡ side_of g.now
  packet_side m time p g may =
      holds_sealing (λ c d. side_of d ≡ side_of c) (λ d. refl) (λ d e f h k. k ∙ h) (λ x r d h. move_side x d)
      (λ time form fs d h. move_side (Seal time form (next_number d.state.numbers (number_space form)) (packet_size d.state form fs) fs) (move_to (Take (number_space form) fs) d) ∙ move_side (Take (number_space form) fs) d) m time p g may

  -- a client that sealed a Handshake packet leaves the space as its transmit ends
  finished_gone : (m : Meaning t) (time : ℕ) (b : Batch) (a : At t) → side_of a ≡ Client → b.shook ≡ true → Gone (finished_after m time b a)
  unfolding finished_after told_sent
  finished_gone m time b a client shook =
      let c : At t = handshake_left time b.shook a in
      let gone : Gone c = subst (λ (e : Bool). Gone (handshake_left time e a)) (sym shook) (initial_gone Client false time a client) in
      move_gone (Finish b.total _) (spared_after time b.worn c) (holds_spared (λ d e. Gone d → Gone e) (λ d h. h) (λ d e f h k z. k (h z)) (λ x r d h. move_gone x d) time b.worn c gone)

  -- where it dies behind packets, the connection has ended
  given_ended : (why : ConnectionError) (b : At t) (x : Bool) → Ended b → Ended (if x then move_to (Give why) b else b)
  unfolding move_to state_move life_move reason_given
  given_ended why b true h = ap is_drained (given_open b.state.life why (is_none b.state.life.reason)) ∙ h
  given_ended why b false h = h

  pub killed_ended : (why : ConnectionError) (a : At t) → Ended (move_to (Say Killed) (killed_after why a))
  unfolding killed_after given_after move_to state_move life_move life_raised
  killed_ended why a = let b : At t = move_to (Raise state.Drained) a in given_ended why b (is_none b.state.life.reason) refl

  held_side : (m : Meaning t) (time : ℕ) (b : Batch) (a : At t) → side_of (held_after m time Pacing b a) ≡ side_of a
  unfolding held_after
  held_side m time b a = move_side (Hold _) a

  ending_left : (m : Meaning t) (time : ℕ) (e : Ending) (b : Batch) (a : At t) → MayEnd m time e a.state b → 0 < b.made → side_of a ≡ Client → b.shook ≡ true → HasLeft (ending_after m time e b a).state
  unfolding ending_after
  ending_left m time Went b a may some client shook = inl (finished_gone m time b a client shook)
  ending_left m time Held b a may some client shook = inl (finished_gone m time b (held_after m time Pacing b a) (held_side m time b a ∙ client) shook)
  ending_left m time (Hushed quiet) b a may some client shook = let none : b.made ≡ 0 = may.0 in absurd (omega (arith, none, some))
  ending_left m time (Probed quiet size) b a may some client shook = let none : b.made ≡ 0 = may.0.none in absurd (omega (arith, none, some))
  ending_left m time (Died f why) b a may some client shook = inr (killed_ended why (tried_after m f a))

  -- a packet of the Data space is nothing of the Initial space
  data_quiet : (time n size : ℕ) (fs : List FrameValue) (a : At t) → Quiet ⊥ a (move_to (Seal time form.OneRtt n size fs) (move_to (Take «Data» fs) a))
  data_quiet time n size fs a = record {
    since = did.Sealed «Data» n (epoch_in a.state.keys form.OneRtt) (is_early form.OneRtt) fs ∷ [];
    appended = sealed_deeds time form.OneRtt n size fs a;
    silent = one_silent ⊥ (did.Sealed «Data» n (epoch_in a.state.keys form.OneRtt) (is_early form.OneRtt) fs) refl refl refl;
    gone = λ h. move_gone (Seal time form.OneRtt n size fs) (move_to (Take «Data» fs) a) (move_gone (Take «Data» fs) a h);
    side = move_side (Seal time form.OneRtt n size fs) (move_to (Take «Data» fs) a) ∙ move_side (Take «Data» fs) a;
  }

  ending_quiet : (m : Meaning t) (time : ℕ) (e : Ending) (b : Batch) (a : At t) → MayEnd m time e a.state b → Quiet ⊥ a (ending_after m time e b a)
  ending_quiet m time e b a may = holds_ending (Quiet ⊥) (quiet_here ⊥) (quiet_next ⊥) (λ x r c h. quiet_move ⊥ x (sending_quiet x r) c) (λ at fs c h. data_quiet at _ _ fs c) m time e b a may

  -- the batch notes a Handshake packet
  pub packet_shakes : (m : Meaning t) (time : ℕ) (p : Sent) (g : Going t) → (packet_after m time p g).batch.shook ≡ (g.batch.shook || is_space (number_space p.form) Handshake)
  unfolding packet_after begun_batch batch_grown
  packet_shakes m time p g = ap (λ (b : Bool). b || is_space (number_space p.form) Handshake) (opened_shook g.batch p.opens (not ((space_of g.now.state.waiting.spaces (number_space p.form)).probes == 0)))

  packet_shook : (m : Meaning t) (time : ℕ) (p : Sent) (g : Going t) → number_space p.form ≡ Handshake → (packet_after m time p g).batch.shook ≡ true
  packet_shook m time p g is = packet_shakes m time p g ∙ or_second g.batch.shook (is_space (number_space p.form) Handshake) (ap (λ (id : SpaceId). is_space id Handshake) is)

  shook_before : (m : Meaning t) (time : ℕ) (p : Sent) (g : Going t) → g.batch.shook ≡ true → (packet_after m time p g).batch.shook ≡ true
  shook_before m time p g h = packet_shakes m time p g ∙ or_first g.batch.shook (is_space (number_space p.form) Handshake) h

  -- behind a Handshake packet no Initial packet has its turn
  pub shook_behind : (m : Meaning t) (time : ℕ) (p : Sent) (g : Going t) → is_in_order g.batch.space (number_space p.form) ≡ true → (g.batch.shook ≡ true → is_in_order g.batch.space Initial ≡ false) →
      (packet_after m time p g).batch.shook ≡ true → is_in_order (packet_after m time p g).batch.space Initial ≡ false
  unfolding packet_after batch_grown
  shook_behind m time p g order before shook =
      either g.batch.shook (is_space (number_space p.form) Handshake) (is_in_order (Some (number_space p.form)) Initial ≡ false)
      (λ b. late_space g.batch.space (number_space p.form) (before b) order) (λ w. shaking_late (number_space p.form) w) (sym (packet_shakes m time p g) ∙ shook)

  -- packets leave whether the connection has ended
  alive_move : (x : Move t) → IsPacketMove x → (d : At t) → is_drained (move_to x d).state.life.state ≡ is_drained d.state.life.state
  unfolding move_to state_move life_move
  alive_move (Begin id opens) r d = refl
  alive_move Skip r d = refl
  alive_move (Update fresh session) r d = refl
  alive_move (Spend tokens) r d = refl
  alive_move (Arm at) r d = refl
  alive_move _ r d = absurd r

  alive_seal : (time n size : ℕ) (form : Form) (fs : List FrameValue) (d : At t) → is_drained (move_to (Seal time form n size fs) (move_to (Take (number_space form) fs) d)).state.life.state ≡ is_drained d.state.life.state
  unfolding move_to state_move life_move
  alive_seal time n size form fs d = refl

  packet_alive : (m : Meaning t) (time : ℕ) (p : Sent) (g : Going t) → MayFollow m time g.now.state g.batch p → is_drained (packet_after m time p g).now.state.life.state ≡ is_drained g.now.state.life.state
  packet_alive m time p g may =
      holds_sealing (λ (c d : At t). is_drained d.state.life.state ≡ is_drained c.state.life.state) (λ d. refl) (λ d e f h k. k ∙ h) (λ x r d h. alive_move x (beginning_packet x r) d) (λ time form fs d h. alive_seal time _ _ form fs d) m time p g may

  -- what is known of the packets of a transmit so far: an end that had left before them seals no Initial packet, and one that has left behind them
  -- had before, or is a client, and the batch notes it
  record Shows (side : Side) (a : At t) (g : Going t) : Type 0 where
    pub since : List Did
    pub appended : g.now.did ≡ a.did ++ since
    pub none : (left : Bool) → (left ≡ true → HasLeft a.state) → NoneInitial side left since
    pub shown : (left : Bool) → has_left side left since ≡ true → (left ≡ true) ⊎ ((side ≡ Client) × (g.batch.shook ≡ true))
    pub gone : Gone a → Gone g.now
    pub alive : is_drained g.now.state.life.state ≡ is_drained a.state.life.state
    pub same : side_of g.now ≡ side_of a
    pub some : g.batch.shook ≡ true → 0 < g.batch.made
    pub behind : g.batch.shook ≡ true → is_in_order g.batch.space Initial ≡ false

  shows_begun : (side : Side) (asked : ℕ) (a : At t) → Shows side a (going_from asked a)
  shows_begun side asked a = record {
    since = [];
    appended = sym (append-nil a.did);
    none = λ left k. tt;
    shown = λ left e. inl e;
    gone = λ h. h;
    alive = refl;
    same = refl;
    some = λ s. absurd cc;
    behind = λ s. absurd cc;
  }

  sealed_keyed : (m : Meaning t) (s : View t) (p : Sent) (b : Batch) (time : ℕ) (a : At t) → MayFollow m time s b p → seals_initial (sealed_deed p a) ≡ true → has_keys s.keys Initial ≡ true
  sealed_keyed m s p b time a may h =
      subst (λ (id : SpaceId). has_keys s.keys id ≡ true) (sealed_initial (number_space p.form) _ _ _ p.frames h) (owing_keyed b s (number_space p.form) may.begins.turn.owed)

  -- an Initial packet isn't sealed by an end that has left
  none_left : (side : Side) (m : Meaning t) (time : ℕ) (p : Sent) (a : At t) (g : Going t) (begun : At t) → MayFollow m time g.now.state g.batch p → Shows side a g → seals_initial (sealed_deed p begun) ≡ true → HasLeft a.state → ⊥
  none_left side m time p a g begun may h seals (inl gone) =
      let none : has_keys g.now.state.keys Initial ≡ false = h.gone gone in
      let keyed : has_keys g.now.state.keys Initial ≡ true = sealed_keyed m g.now.state p g.batch time begun may seals in
      cc
  none_left side m time p a g begun may h seals (inr ended) =
      let ends : is_drained g.now.state.life.state ≡ true = h.alive ∙ ended in
      let alive : is_drained g.now.state.life.state ≡ false = may.begins.turn.alive in
      cc

  none_behind : (side : Side) (m : Meaning t) (time : ℕ) (p : Sent) (a : At t) (g : Going t) (begun : At t) (left : Bool) → MayFollow m time g.now.state g.batch p → Shows side a g → seals_initial (sealed_deed p begun) ≡ true →
      (left ≡ true → HasLeft a.state) → (left ≡ true) ⊎ ((side ≡ Client) × (g.batch.shook ≡ true)) → ⊥
  none_behind side m time p a g begun left may h seals k (inl l) = none_left side m time p a g begun may h seals (k l)
  none_behind side m time p a g begun left may h seals k (inr both) =
      let first : is_in_order g.batch.space Initial ≡ true = subst (λ (id : SpaceId). is_in_order g.batch.space id ≡ true) (sealed_initial (number_space p.form) _ _ _ p.frames seals) may.begins.turn.order in
      let late : is_in_order g.batch.space Initial ≡ false = h.behind both.1 in
      cc

  shown_before : (side : Side) (m : Meaning t) (time : ℕ) (p : Sent) (g : Going t) (left : Bool) → (left ≡ true) ⊎ ((side ≡ Client) × (g.batch.shook ≡ true)) → (left ≡ true) ⊎ ((side ≡ Client) × ((packet_after m time p g).batch.shook ≡ true))
  shown_before side m time p g left (inl l) = inl l
  shown_before side m time p g left (inr both) = inr (both.0, shook_before m time p g both.1)

  shows_packet : (side : Side) (m : Meaning t) (time : ℕ) (p : Sent) (a : At t) (g : Going t) → MayFollow m time g.now.state g.batch p → Shows side a g → Shows side a (packet_after m time p g)
  shows_packet side m time p a g may h =
      let begun : At t = begun_after (number_space p.form) p.opens g.now in
      let sealed : Did = sealed_deed p begun in
      record {
        since = h.since ++ sealed ∷ [];
        appended = packet_deeds m time p g ∙ ap (λ (ds : List Did). ds ++ sealed ∷ []) h.appended ∙ append_assoc a.did h.since (sealed ∷ []);
        none = λ left k. none_append side left h.since (sealed ∷ []) (h.none left k)
            (λ seals. not_left (has_left side left h.since) (λ l. none_behind side m time p a g begun left may h seals k (h.shown left l)), tt);
        shown = λ left e. either (has_left side left h.since) (leaves_with side sealed) ((left ≡ true) ⊎ ((side ≡ Client) × ((packet_after m time p g).batch.shook ≡ true)))
            (λ l. shown_before side m time p g left (h.shown left l))
            (λ w. let shakes = sealed_shakes side (number_space p.form) _ _ _ p.frames w in inr (shakes.0, packet_shook m time p g shakes.1))
            (sym (left_append side left h.since (sealed ∷ [])) ∙ e);
        gone = λ z. packet_gone m time p g may (h.gone z);
        alive = packet_alive m time p g may ∙ h.alive;
        same = packet_side m time p g may ∙ h.same;
        some = λ s. packet_made m time p g may;
        behind = shook_behind m time p g may.begins.turn.order h.behind;
      }

  -- an update that is tried for a packet leaves that
  shows_updated : (side : Side) (m : Meaning t) (fresh : Option (Fresh t.P)) (session : t.S) (a : At t) (g : Going t) → Shows side a g → Shows side a (going (move_to (Update fresh session) g.now) g.batch g.out)
  unfolding move_to state_move life_move setup_move deeds_move
  shows_updated side m fresh session a g h = record {
    since = h.since;
    appended = h.appended;
    none = h.none;
    shown = h.shown;
    gone = λ z. move_gone (Update fresh session) g.now (h.gone z);
    alive = h.alive;
    same = h.same;
    some = h.some;
    behind = h.behind;
  }

  shows_tried : (side : Side) (m : Meaning t) (f : Form) (a : At t) (g : Going t) → Shows side a g → Shows side a (going_tried m f g)
  shows_tried side m f a g =
      holds_tried m (λ (b c : At t). Shows side a (going b g.batch g.out) → Shows side a (going c g.batch g.out)) (λ b h. h) (λ b may h. shows_updated side m _ _ a (going b g.batch g.out) h) f g.now

  shows_packets : (side : Side) (m : Meaning t) (time : ℕ) (ps : List Sent) (a : At t) (g : Going t) → MayAll m time g ps → Shows side a g → Shows side a (packets_after m time ps g)
  shows_packets side m time [] a g may h = h
  shows_packets side m time (p ∷ ps) a g may h =
      let f : Going t = going_tried m p.form g in
      shows_packets side m time ps a (packet_after m time p f) may.1 (shows_packet side m time p a f may.0 (shows_tried side m p.form a g h))

  -- so it is behind them, however the transmit ends
  shown_left : (side : Side) (m : Meaning t) (time : ℕ) (e : Ending) (a : At t) (g : Going t) (left : Bool) → Shows side a g → MayEnd m time e g.now.state g.batch → (Ended a → Ended (ending_after m time e g.batch g.now)) → side_of a ≡ side →
      (left ≡ true → HasLeft a.state) → (left ≡ true) ⊎ ((side ≡ Client) × (g.batch.shook ≡ true)) → HasLeft (ending_after m time e g.batch g.now).state
  shown_left side m time e a g left h ends stays is k (inl l) = either_left a (ending_after m time e g.batch g.now) (λ z. (ending_quiet m time e g.batch g.now ends).gone (h.gone z)) stays (k l)
  shown_left side m time e a g left h ends stays is k (inr both) = ending_left m time e g.batch g.now ends (h.some both.1) (h.same ∙ is ∙ both.0) both.1

  ends_depart : (side : Side) (m : Meaning t) (time : ℕ) (e : Ending) (a : At t) (g : Going t) → Shows side a g → MayEnd m time e g.now.state g.batch → (Ended a → Ended (ending_after m time e g.batch g.now)) →
      Departs side a (ending_after m time e g.batch g.now)
  ends_depart side m time e a g h ends stays =
      let q : Quiet ⊥ g.now (ending_after m time e g.batch g.now) = ending_quiet m time e g.batch g.now ends in
      record {
        since = h.since ++ q.since;
        appended = q.appended ∙ ap (λ (ds : List Did). ds ++ q.since) h.appended ∙ append_assoc a.did h.since q.since;
        none = λ left is k. none_append side left h.since q.since (h.none left k) (silent_none ⊥ side (has_left side left h.since) q.since q.silent);
        gone = λ left is k left_now. silent_left ⊥ (HasLeft (ending_after m time e g.batch g.now).state) side (has_left side left h.since) q.since q.silent
            (λ l. shown_left side m time e a g left h ends stays is k (h.shown left l)) (λ p server. absurd p) (sym (left_append side left h.since q.since) ∙ left_now);
        same = q.side ∙ h.same;
      }

  transmit_departs : (side : Side) (m : Meaning t) (time asked : ℕ) (choice : Choice) (a : At t) → MayTransmit m time asked choice a → (Ended a → Ended (transmit_after m time asked choice a)) → Departs side a (transmit_after m time asked choice a)
  unfolding MayTransmit transmit_after gone_after
  transmit_departs side m time asked choice a may stays =
      ends_depart side m time choice.ending a (packets_after m time choice.packets (going_from asked a)) (shows_packets side m time choice.packets a (going_from asked a) may.0 (shows_begun side asked a)) may.1 stays

  -- ---- inputs, steps and runs

  closed_by : (side : Side) (time : ℕ) (close : Close) (a : At t) (b : Bool) → Leaves side a (if b then move_to (Shut time close) a else a)
  closed_by side time close a true = move_leaves side (Shut time close) tt a
  closed_by side time close a false = leaves_here side a

  -- a connection that has ended stays so
  ended_input : (m : Meaning t) (i : Input) (choice : Choice) (a : At t) → IsAllowed m i choice a → Ended a → Ended (input_after m i choice a)
  ended_input m i choice a may h =
      let b : At t = input_after m i choice a in
      let told : Told Initial a b = told_input Initial m i choice a may in
      let rank : rank_of a.state.life.state ≤ rank_of b.state.life.state = tells_rank Initial (kernel Initial a.state) (kernel Initial b.state) told.since told.tells in
      let high : 4 ≤ rank_of a.state.life.state = drained_high a.state.life.state h in
      high_drained b.state.life.state (omega (arith, rank, high))

  input_departs : (side : Side) (m : Meaning t) (i : Input) (choice : Choice) (a : At t) → IsAllowed m i choice a → (Ended a → Ended (input_after m i choice a)) → Departs side a (input_after m i choice a)
  unfolding IsAllowed input_after close_after
  input_departs side m (input.Datagram time remote ecn bytes) choice a may stays = leaves_departs side a _ (datagram_leaves side m (record { time = time; remote = remote; mark = ecn }) bytes a) stays
  input_departs side m (input.Timeout time) choice a may stays = leaves_departs side a _ (timeout_leaves side m time a) stays
  input_departs side m (input.Transmit time max) choice a may stays = transmit_departs side m time max choice a may stays
  input_departs side m (input.Close time code reason) choice a may stays = leaves_departs side a _ (closed_by side time _ a (is_open a.state.life.state)) stays
  input_departs side m (input.Ping time) choice a may stays = leaves_departs side a _ (move_leaves side (Ask a.state.keys.highest) tt a) stays
  input_departs side m (input.Update time) choice a may stays = leaves_departs side a _ (holds_updated m (Leaves side) (leaves_here side) (λ b may_be. move_leaves side (Update (fresh_now m b.state) (m.after_next b.state.lower.session)) tt b) a) stays
  input_departs side m (input.SendDatagram time body) choice a may stays = leaves_departs side a _ (move_leaves side (Post (datagrams.Sent (datagram_limit a.state) true body)) tt a) stays
  input_departs side m (input.RecvDatagram time) choice a may stays = leaves_departs side a _ (move_leaves side (Post datagrams.Taken) tt a) stays
  input_departs side m (input.Identifiers time given) choice a may stays = leaves_departs side a _ (move_leaves side (Issue time given) tt a) stays
  input_departs side m i choice a may stays = leaves_departs side a _ (called_input (Leaves side) (leaves_here side) (leaves_next side) (λ x b h. move_leaves side (Call x) tt b) i choice.read a may) stays

  -- what the law says over deeds
  record LeavesOver (side : Side) (ds : List Did) (s s' : View t) : Type 0 where
    pub none : (left : Bool) → s.setup.fixed.side ≡ side → (left ≡ true → HasLeft s) → NoneInitial side left ds
    pub gone : (left : Bool) → s.setup.fixed.side ≡ side → (left ≡ true → HasLeft s) → has_left side left ds ≡ true → HasLeft s'
    pub same : s'.setup.fixed.side ≡ s.setup.fixed.side

  same_left : (s v : View t) → has_keys s.keys Initial ≡ has_keys v.keys Initial → is_drained s.life.state ≡ is_drained v.life.state → HasLeft v → HasLeft s
  same_left s v keys life (inl h) = inl (keys ∙ h)
  same_left s v keys life (inr h) = inr (life ∙ h)

  step_leaves : (side : Side) (m : Meaning t) (k : ℕ) (s : View t) (i : Input) (x : Step) (s' : View t) → IsStep m k s i x s' → LeavesOver side x.did s s'
  unfolding called began step_after reported state_move keys_move setup_move life_move ready_reported connected_reported all_heard_reported lost_reported notice_reported notices_reported drained_reported
  step_leaves side m k s i x s' h =
      let a : At t = began s (time_of i) in
      let b : At t = input_after m i h.choice a in
      let departs : Departs side a b = input_departs side m i h.choice a h.allowed (ended_input m i h.choice a h.allowed) in
      let deeds : x.did ≡ departs.since = h.deeds ∙ departs.appended in
      record {
        none = λ left is l. subst (λ (ds : List Did). NoneInitial side left ds) (sym deeds) (departs.none left is l);
        gone = λ left is l e. same_left s' b.state (ap (λ v. has_keys v Initial) h.keys) (ap (λ v. is_drained v.state) h.life)
            (departs.gone left is l (ap (λ (ds : List Did). has_left side left ds) (sym deeds) ∙ e));
        same = ap (λ v. v.fixed.side) h.setup ∙ departs.same;
      }

  run_over : (side : Side) (m : Meaning t) (k : ℕ) (s : View t) (is : List Input) (xs : List Step) (s' : View t) → Run m k s is xs s' → LeavesOver side (deeds_of xs) s s'
  unfolding Run
  run_over side m k s [] [] s' r = record { none = λ left is h. tt; gone = λ left is h e. subst (λ (v : View t). HasLeft v) (sym r) (h e); same = ap (λ (v : View t). v.setup.fixed.side) r }
  run_over side m k s (i ∷ is) (x ∷ xs) s' r =
      let first : LeavesOver side x.did s r.0 = step_leaves side m k s i x r.0 r.1 in
      let rest : LeavesOver side (deeds_of xs) r.0 s' = run_over side m (k + 1) r.0 is xs s' r.2 in
      record {
        none = λ left same l. none_append side left x.did (deeds_of xs) (first.none left same l) (rest.none (has_left side left x.did) (first.same ∙ same) (first.gone left same l));
        gone = λ left same l e. rest.gone (has_left side left x.did) (first.same ∙ same) (first.gone left same l) (sym (left_append side left x.did (deeds_of xs)) ∙ e);
        same = rest.same ∙ first.same;
      }
  run_over side m k s [] (x ∷ xs) s' r = absurd r
  run_over side m k s (i ∷ is) [] s' r = absurd r

  pub run_leaves : (m : Meaning t) (k : ℕ) (s : View t) (is : List Input) (xs : List Step) (s' : View t) → Run m k s is xs s' → LeavesInitial (deeds_of xs) s s'
  run_leaves m k s is xs s' r =
      let side : Side = s.setup.fixed.side in
      let before : is_left s ≡ true → HasLeft s = left_by_test (has_keys s.keys Initial) (is_drained s.life.state) in
      let over : LeavesOver side (deeds_of xs) s s' = run_over side m k s is xs s' r in
      record { none = over.none (is_left s) refl before; gone = λ e. test_of_left (has_keys s'.keys Initial) (is_drained s'.life.state) (over.gone (is_left s) refl before e); side = over.same }
