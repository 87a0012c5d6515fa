-- Over a run an ACK is held back for at most 25 ms, unless an ACK is sealed before.
use Rattle.std.proofs.Common.{◌≡◌, ℕ, ◌+◌, ◌<◌, ◌≤◌, ◌⊎◌, inl, inr, List, [], ◌∷◌, ◌++◌, length, refl, ap, sym, ◌∙◌, subst, Bool, true, false, Option, Some, None, if◌then◌else◌, append_assoc, append-nil, arith}
use Rattle.std.specs.Prelude.{◌==◌, ◌||◌, not, is_some}
use Rattle.std.specs.List.{list_any}
use Rattle.qc_base.specs.Time.{plus}
use Rattle.qc_base.specs.declared.side.SpaceId.{SpaceId}
use Rattle.qc_base.specs.declared.side.SpaceId.TheVariants.{Initial, Handshake, «Data»}
use Rattle.qc_frame.specs.Frame.{FrameValue}
use Rattle.qc_frame.specs.FrameSpelling.{elicits}
use Rattle.qc_path.specs.Acks.{AckMarks, acks_received, is_clear, marks_expired, sets_delay}
use Rattle.qc_path.specs.Arrived.{arrived}
use Rattle.qc_state.specs.declared.coming.Coming.{Coming}
use Rattle.qc_state.specs.declared.deeds.Did.{Did}
use Rattle.qc_state.specs.declared.deeds.Did.TheVariants as did
use Rattle.qc_state.specs.declared.deeds.Verdict.{Verdict}
use Rattle.qc_state.specs.declared.form.Form.{Form}
use Rattle.qc_state.specs.declared.input.Input.{Input}
use Rattle.qc_state.specs.declared.input.Input.TheVariants as input
use Rattle.qc_state.specs.declared.life.Close.{Close}
use Rattle.qc_state.specs.declared.life.ConnectionError.{ConnectionError}
use Rattle.qc_state.specs.declared.life.ConnectionError.TheVariants as lost
use Rattle.qc_state.specs.declared.life.Life.{Life}
use Rattle.qc_state.specs.declared.life.State.TheVariants as state
use Rattle.qc_state.specs.declared.opening.Signs.{Signs}
use Rattle.qc_state.specs.declared.timers.Timers.{Timers}
use Rattle.qc_state.specs.declared.trace.Step.{Step}
use Rattle.qc_state.specs.declared.waiting.Waiting.{Waiting}
use Rattle.qc_laws.specs.AckLaws.{AckHolds, EachHoldsAck, HoldsAck, is_owed_or_clear, marks_of, seals_ack}
use Rattle.qc_state.specs.Acks.{is_ack}
use Rattle.qc_state.specs.Forms.{is_early, number_space}
use Rattle.qc_state.specs.Keys.{epoch_in, ring_of, sets_floor}
use Rattle.qc_state.specs.Life.{connected_reported, drained_reported, is_drained, is_open, is_over, life_closed, life_drained, life_raised, lost_reported, notices_reported, ready_reported, all_heard_reported}
use Rattle.qc_state.specs.Moves.{Accept, Ack, Arm, Ask, Establish, Fire, Forget, Give, MayMove, Move, Pace, PeerCloses, Raise, Release, Seal, Shut, Take, Tell, Write, arrival_of, armed_after, armed_with, deeds_move, keys_move, life_move, move_to, state_move, timers_move, waiting_move, Call, Post, Issue, Outlive, Want, Unseal, Discard, Update}
use Rattle.qc_state.specs.Numbers.{came_in, next_number}
use Rattle.qc_state.specs.Paths.{is_blocked}
use Rattle.qc_state.specs.Receiving.{datagram_after}
use Rattle.qc_state.specs.Recovering.{fired_by, loss_time, probe_timeout_now}
use Rattle.qc_state.specs.Run.{IsAllowed, IsStep, Run, began, called, close_after, input_after, reported, step_after, time_of, datagram_limit}
use Rattle.qc_state.specs.Sending.{Choice, MayTransmit, packet_size, transmit_after}
use Rattle.qc_state.specs.Spaces.{space_of}
use Rattle.qc_state.specs.Stopping.{killed_after}
use Rattle.qc_state.specs.Timeouts.{ack_expired, close_expired, idle_expired, loss_expired, pacing_expired, timeout_after, ids_expired, wanted_anew, keys_expired}
use Rattle.qc_state.specs.Timers.{ack_delay_most, clock_set, has_come, timers_accepted, timers_armed, timers_closing, timers_held, timers_paced, timers_released, timers_stopped, timers_issued, timers_outlived, timers_keeping, timers_discarded}
use Rattle.qc_state.specs.Types.{Types, Meaning}
use Rattle.qc_state.specs.View.{View, At}
use Rattle.qc_state.specs.Waiting.{ack_released, holds_back, packet_came}
use Rattle.qc_state.specs.Waiting as waiting
use Rattle.qc_state.specs.Updating.{fresh_now}
use Rattle.qc_state.proofs.Updates.{holds_updated}
use Rattle.qc_laws.proofs.AckMarks.{IsTaken, KeepsMarks, acking_timer, before, came_by, data_marks, elsewhere_timer, held_before, holding_timer, kept_marks, later, or_false, received_asked, received_delay, sealed_marks}
use Rattle.qc_laws.proofs.AcksAsked.{asks_step, owes_step}
use Rattle.qc_state.proofs.Ends.{given_by}
use Rattle.qc_laws.proofs.KnownMoves.{packet_known}
use Rattle.qc_state.proofs.OpenPackets.{holds_packet, packet_received}
use Rattle.qc_state.proofs.PacketMoves.{IsInPacket, OpenPacket}
use Rattle.qc_state.proofs.ReceivedMoves.{IsOutside}
use Rattle.qc_laws.proofs.Receives.{datagram_holds}
use Rattle.qc_state.proofs.Telling.{told_appends}
use Rattle.qc_laws.proofs.TimerMoves.{IsPlain, plain_open}
use Rattle.qc_state.proofs.Transmitted.{IsSending, holds_transmit}
use Rattle.qc_state.proofs.KeySteps.{keeping_same}
use Rattle.qc_laws.proofs.StreamCalls.{called_input}
use Rattle.qc_datagrams.specs.Steps as datagrams
use Rattle.qc_cids.specs.Cids.{asks_anew}

-- ids that are given leave the timer of ACKs
issued_delay : (b : Bool) (v : Timers) (oldest : Option ℕ) (time : ℕ) → (if b then v else timers_issued v oldest time).max_ack_delay ≡ v.max_ack_delay
unfolding timers_issued
issued_delay true v oldest time = refl
issued_delay false v oldest time = refl

module _ {t : Types} where
  -- what is told of an ACK that is held back, from one moment of an input at this time to another
  record Holding (now : ℕ) (a b : At t) : Type 0 where
    pub since : List Did
    pub appended : b.did ≡ a.did ++ since
    pub opened : is_open b.state.life.state ≡ true → is_open a.state.life.state ≡ true
    pub kept : AckHolds a.state → AckHolds b.state
    pub sets : AckHolds a.state → is_open b.state.life.state ≡ true → (marks_of a.state).delay_set ≡ false → (marks_of b.state).delay_set ≡ true → (b.state.timers.max_ack_delay ≡ Some (plus now ack_delay_most)) ⊎ (list_any seals_ack since ≡ true)
    pub waits : AckHolds a.state → (at : ℕ) → is_open b.state.life.state ≡ true → a.state.timers.max_ack_delay ≡ Some at → (b.state.timers.max_ack_delay ≡ Some at) ⊎ (list_any seals_ack since ≡ true)

  holding_here : (now : ℕ) (a : At t) → Holding now a a
  holding_here now a = record { since = []; appended = sym (append-nil a.did); opened = λ o. o; kept = λ h. h; sets = λ h o f e. absurd cc; waits = λ h at o e. inl e }

  holding_next : (now : ℕ) (a b c : At t) → Holding now a b → Holding now b c → Holding now a c
  holding_next now a b c g h = record {
    since = g.since ++ h.since;
    appended = h.appended ∙ ap (λ (x : List Did). x ++ h.since) g.appended ∙ append_assoc a.did g.since h.since;
    opened = λ o. g.opened (h.opened o);
    kept = λ k. h.kept (g.kept k);
    sets = λ k o f e. sets_by k o (marks_of b.state).delay_set refl f e;
    waits = λ k at o e. waits_by k at o (g.waits k at (h.opened o) e);
  }
    where
      waits_by : AckHolds a.state → (at : ℕ) → is_open c.state.life.state ≡ true → (b.state.timers.max_ack_delay ≡ Some at) ⊎ (list_any seals_ack g.since ≡ true) → (c.state.timers.max_ack_delay ≡ Some at) ⊎ (list_any seals_ack (g.since ++ h.since) ≡ true)
      waits_by k at o (inr e) = inr (before g.since h.since e)
      waits_by k at o (inl e) = on (h.waits (g.kept k) at o e)
        where
          on : (c.state.timers.max_ack_delay ≡ Some at) ⊎ (list_any seals_ack h.since ≡ true) → (c.state.timers.max_ack_delay ≡ Some at) ⊎ (list_any seals_ack (g.since ++ h.since) ≡ true)
          on (inl x) = inl x
          on (inr x) = inr (later g.since h.since x)

      sets_by : AckHolds a.state → is_open c.state.life.state ≡ true → (d : Bool) → (marks_of b.state).delay_set ≡ d → (marks_of a.state).delay_set ≡ false → (marks_of c.state).delay_set ≡ true →
          (c.state.timers.max_ack_delay ≡ Some (plus now ack_delay_most)) ⊎ (list_any seals_ack (g.since ++ h.since) ≡ true)
      sets_by k o true is f e = waits_by k (plus now ack_delay_most) o (g.sets k (h.opened o) f is)
      sets_by k o false is f e = on (h.sets (g.kept k) o is e)
        where
          on : (c.state.timers.max_ack_delay ≡ Some (plus now ack_delay_most)) ⊎ (list_any seals_ack h.since ≡ true) → (c.state.timers.max_ack_delay ≡ Some (plus now ack_delay_most)) ⊎ (list_any seals_ack (g.since ++ h.since) ≡ true)
          on (inl x) = inl x
          on (inr x) = inr (later g.since h.since x)

  -- ---- moves

  -- the moves that leave both
  abbrev IsCalm : Meaning t → Move t → View t → Type 0
  IsCalm m (Take id fs) s = ⊥
  IsCalm m (Accept time id n e g v) s = ⊥
  IsCalm m Release s = ⊥
  IsCalm m (Arm due) s = Unit {0}
  IsCalm m (Forget id) s = Unit {0}
  IsCalm m (Write bytes keys session) s = Unit {0}
  IsCalm m x s = IsPlain m x s

  calm_open : (m : Meaning t) (x : Move t) (s : View t) → IsCalm m x s → is_open (life_move x s).state ≡ true → is_open s.life.state ≡ true
  unfolding life_move
  calm_open m (Take id fs) s k o = absurd k
  calm_open m (Accept time id n e g v) s k o = absurd k
  calm_open m Release s k o = absurd k
  calm_open m (Arm due) s k o = o
  calm_open m (Forget id) s k o = o
  calm_open m (Write bytes keys session) s k o = o
  calm_open m x s k o = plain_open m x s k o

  calm_keeps : (m : Meaning t) (x : Move t) (s : View t) → IsCalm m x s → KeepsMarks x
  calm_keeps m (Take id fs) s k = absurd k
  calm_keeps m (Accept time id n e g v) s k = absurd k
  calm_keeps m Release s k = absurd k
  calm_keeps m (Seal time form n size fs) s k = absurd k
  calm_keeps m _ s k = tt

  calm_marks : (m : Meaning t) (x : Move t) (s : View t) → IsCalm m x s → data_marks (waiting_move x s).spaces ≡ marks_of s
  calm_marks m x s k = kept_marks x s (calm_keeps m x s k)

  -- the timer stays, or is stopped as the connection closes
  calm_timer : (m : Meaning t) (x : Move t) (s : View t) → IsCalm m x s → ((timers_move x s).max_ack_delay ≡ s.timers.max_ack_delay) ⊎ (((timers_move x s).max_ack_delay ≡ None) × (is_open (life_move x s).state ≡ false))
  unfolding timers_move life_move life_closed life_drained life_raised clock_set timers_paced timers_held timers_armed timers_outlived timers_closing timers_stopped timers_keeping timers_discarded
  calm_timer m (Take id fs) s k = absurd k
  calm_timer m (Accept time id n e g v) s k = absurd k
  calm_timer m Release s k = absurd k
  calm_timer m (Seal time form n size fs) s k = absurd k
  calm_timer m (Shut time close) s k = inr (refl, refl)
  calm_timer m (PeerCloses time) s k = inr (refl, refl)
  calm_timer m (Raise to) s k = inr (refl, ap is_open k)
  calm_timer m (Unseal time n which fresh session) s k = inl (keeping_same (λ (v : Timers). v.max_ack_delay) (sets_floor which fresh (ring_of s.keys)) s.timers (probe_timeout_now s «Data») time (λ v probe at. refl))
  calm_timer m (Issue time given) s k = inl (issued_delay (is_drained s.life.state) s.timers _ time)
  calm_timer m _ s k = inl refl

  -- ---- from one moment to another

  -- an ACK is held back from then on, or not
  held_by : (now : ℕ) (a b : At t) (since : List Did) (holds : Bool) → b.did ≡ a.did ++ since → (is_open b.state.life.state ≡ true → is_open a.state.life.state ≡ true) →
      (is_open b.state.life.state ≡ true → b.state.timers.max_ack_delay ≡ (if holds then Some (plus now ack_delay_most) else a.state.timers.max_ack_delay)) → (is_some b.state.timers.max_ack_delay ≡ true → b.state.timers.max_ack_delay ≡ (if holds then Some (plus now ack_delay_most) else a.state.timers.max_ack_delay)) →
      (marks_of b.state).delay_set ≡ ((marks_of a.state).delay_set || holds) → ((marks_of a.state).delay_set ≡ true → holds ≡ false) →
      ((0 < (marks_of a.state).eliciting → ((marks_of a.state).owed || (marks_of a.state).delay_set) ≡ true) → 0 < (marks_of b.state).eliciting → ((marks_of b.state).owed || (marks_of b.state).delay_set) ≡ true) → Holding now a b
  held_by now a b since holds appended opened timer stands delay never asked = record {
    since = since;
    appended = appended;
    opened = opened;
    kept = λ h. record { asked = asked h.asked; timed = λ e. delay ∙ timed_by h (marks_of a.state).delay_set holds refl refl (sym (ap (λ (x : Option ℕ). is_some x) (stands e)) ∙ e) };
    sets = λ h o f e. inl (timer o ∙ ap (λ (x : Bool). if x then Some (plus now ack_delay_most) else a.state.timers.max_ack_delay) (holds_now (marks_of a.state).delay_set holds f (sym delay ∙ e)));
    waits = λ h at o e. inl (timer o ∙ ap (λ (x : Bool). if x then Some (plus now ack_delay_most) else a.state.timers.max_ack_delay) (never (h.timed (ap (λ (x : Option ℕ). is_some x) e))) ∙ e);
  }
    where
      holds_now : (d x : Bool) → d ≡ false → (d || x) ≡ true → x ≡ true
      holds_now true x f e = cc
      holds_now false x f e = e

      timed_by : AckHolds a.state → (d x : Bool) → (marks_of a.state).delay_set ≡ d → holds ≡ x → is_some (if holds then Some (plus now ack_delay_most) else a.state.timers.max_ack_delay) ≡ true → ((marks_of a.state).delay_set || holds) ≡ true
      timed_by h true x is_d is_x e = ap (λ (y : Bool). y || holds) is_d
      timed_by h false true is_d is_x e = ap (λ (y : Bool). y || holds) is_d ∙ is_x
      timed_by h false false is_d is_x e =
          let same : is_some a.state.timers.max_ack_delay ≡ true = ap (λ (y : Bool). is_some (if y then Some (plus now ack_delay_most) else a.state.timers.max_ack_delay)) (sym is_x) ∙ e in
          let set : (marks_of a.state).delay_set ≡ true = h.timed same in absurd cc

  same_holding : (now : ℕ) (a b : At t) (since : List Did) → b.did ≡ a.did ++ since → (is_open b.state.life.state ≡ true → is_open a.state.life.state ≡ true) →
      (b.state.timers.max_ack_delay ≡ a.state.timers.max_ack_delay) ⊎ ((b.state.timers.max_ack_delay ≡ None) × (is_open b.state.life.state ≡ false)) → marks_of b.state ≡ marks_of a.state → Holding now a b
  same_holding now a b since appended opened (inl timer) marks =
      held_by now a b since false appended opened (λ o. timer) (λ e. timer) (ap (λ (m : AckMarks). m.delay_set) marks ∙ sym (or_false (marks_of a.state).delay_set)) (λ e. refl)
      (λ f. subst (λ (m : AckMarks). 0 < m.eliciting → (m.owed || m.delay_set) ≡ true) (sym marks) f)
  same_holding now a b since appended opened (inr shut) marks =
      held_by now a b since false appended opened (λ o. let closed : is_open b.state.life.state ≡ false = shut.1 in absurd cc) (λ e. let gone : is_some b.state.timers.max_ack_delay ≡ false = ap (λ (x : Option ℕ). is_some x) shut.0 in absurd cc)
      (ap (λ (m : AckMarks). m.delay_set) marks ∙ sym (or_false (marks_of a.state).delay_set)) (λ e. refl)
      (λ f. subst (λ (m : AckMarks). 0 < m.eliciting → (m.owed || m.delay_set) ≡ true) (sym marks) f)

  calm_holding : (m : Meaning t) (now : ℕ) (x : Move t) (a : At t) → IsCalm m x a.state → Holding now a (move_to x a)
  unfolding move_to state_move
  calm_holding m now x a k = same_holding now a (move_to x a) (deeds_move x a.state) (told_appends a.did (deeds_move x a.state)) (calm_open m x a.state k) (calm_timer m x a.state k) (calm_marks m x a.state k)

  -- a packet that came
  accept_holding : (time : ℕ) (id : SpaceId) (n : ℕ) (e : Bool) (g : Signs) (v : Verdict) (a : At t) → Holding time a (move_to (Accept time id n e g v) a)
  unfolding move_to state_move life_move timers_move waiting_move deeds_move packet_came waiting.came_in acks_received holds_back timers_accepted
  accept_holding time Initial n e g v a = same_holding time a (move_to (Accept time Initial n e g v) a) _ refl (λ o. o) (inl (elsewhere_timer _ _ _ _ time)) refl
  accept_holding time Handshake n e g v a = same_holding time a (move_to (Accept time Handshake n e g v) a) _ refl (λ o. o) (inl (elsewhere_timer _ _ _ _ time)) refl
  accept_holding time Data n e g v a =
      held_by time a (move_to (Accept time «Data» n e g v) a) _ (sets_delay true (arrived n (came_in a.state.numbers «Data»)) (arrival_of time n e g) (marks_of a.state)) refl (λ o. o) (λ o. holding_timer _ _ time) (λ o. holding_timer _ _ time)
      (received_delay (arrived n (came_in a.state.numbers «Data»)) (arrival_of time n e g) (marks_of a.state)) (λ d. held_before true (arrived n (came_in a.state.numbers «Data»)) (arrival_of time n e g) (marks_of a.state) d)
      (received_asked (arrived n (came_in a.state.numbers «Data»)) (arrival_of time n e g) (marks_of a.state))

  -- a packet that is taken and sealed
  seal_by : (now : ℕ) (a b : At t) (acks : Bool) (d : Did) → b.did ≡ a.did ++ d ∷ [] → seals_ack d ≡ acks → (is_open b.state.life.state ≡ true → is_open a.state.life.state ≡ true) → b.state.timers.max_ack_delay ≡ (if acks then None else a.state.timers.max_ack_delay) →
      (IsTaken acks (marks_of a.state) (marks_of b.state)) ⊎ (marks_of b.state ≡ marks_of a.state) → Holding now a b
  seal_by now a b true d appended is opened timer taken = record {
    since = d ∷ [];
    appended = appended;
    opened = opened;
    kept = λ h. record { asked = asked_by taken h.asked; timed = λ e. let gone : is_some b.state.timers.max_ack_delay ≡ false = ap (λ (x : Option ℕ). is_some x) timer in absurd cc };
    sets = λ h o f e. inr (any_one (seals_ack d) is);
    waits = λ h at o e. inr (any_one (seals_ack d) is);
  }
    where
      any_one : (x : Bool) → x ≡ true → (x || false) ≡ true
      any_one true e = refl
      any_one false e = cc

      asked_by : (IsTaken true (marks_of a.state) (marks_of b.state)) ⊎ (marks_of b.state ≡ marks_of a.state) → (0 < (marks_of a.state).eliciting → ((marks_of a.state).owed || (marks_of a.state).delay_set) ≡ true) → 0 < (marks_of b.state).eliciting → ((marks_of b.state).owed || (marks_of b.state).delay_set) ≡ true
      asked_by (inl sent) f some = let none : (marks_of b.state).eliciting ≡ 0 = (sent.sent refl).0 in absurd (omega (arith, some, none))
      asked_by (inr same) f some = subst (λ (m : AckMarks). 0 < m.eliciting → (m.owed || m.delay_set) ≡ true) (sym same) f some
  seal_by now a b false d appended is opened timer taken = same_holding now a b (d ∷ []) appended opened (inl timer) (marks_by taken)
    where
      marks_by : (IsTaken false (marks_of a.state) (marks_of b.state)) ⊎ (marks_of b.state ≡ marks_of a.state) → marks_of b.state ≡ marks_of a.state
      marks_by (inl same) = same.same refl
      marks_by (inr same) = same

  seal_holding : (now time : ℕ) (form : Form) (fs : List FrameValue) (a : At t) → Holding now a (move_to (Seal time form (next_number a.state.numbers (number_space form)) (packet_size a.state form fs) fs) (move_to (Take (number_space form) fs) a))
  unfolding move_to state_move life_move timers_move waiting_move keys_move deeds_move
  seal_holding now time form fs a =
      seal_by now a _ (list_any is_ack fs) (did.Sealed (number_space form) (next_number a.state.numbers (number_space form)) (epoch_in a.state.keys form) (is_early form) fs) refl refl (λ o. o)
      (acking_timer a.state.timers _ _ time (list_any elicits fs) (list_any is_ack fs)) (sealed_marks (number_space form) a.state.waiting fs _ _)

  -- ---- inputs

  outside_holding : (m : Meaning t) (time : ℕ) (x : Move t) (a : At t) → IsOutside time x a.state → MayMove x a.state → Holding time a (move_to x a)
  unfolding MayMove
  outside_holding m time (Take id fs) a h may = absurd h
  outside_holding m time (Accept at id n e g v) a h may = absurd h
  outside_holding m time Release a h may = absurd h
  outside_holding m time (Seal at form n size fs) a h may = absurd h
  outside_holding m time (Ack id n after) a h may = absurd h
  outside_holding m time (Fire after) a h may = absurd h
  outside_holding m time Establish a h may = absurd h
  outside_holding m time (Raise to) a h may = calm_holding m time (Raise to) a h
  outside_holding m time (Tell d) a h may = calm_holding m time (Tell d) a may
  outside_holding m time x a h may = calm_holding m time x a tt

  packet_holding : (m : Meaning t) (o : OpenPacket) (x : Move t) (a : At t) → IsInPacket m o x a.state → MayMove x a.state → Holding o.coming.time a (move_to x a)
  unfolding MayMove
  packet_holding m o (Take id fs) a h may = absurd h
  packet_holding m o Release a h may = absurd h
  packet_holding m o (Seal at form n size fs) a h may = absurd h
  packet_holding m o (Fire after) a h may = absurd h
  packet_holding m o (Raise to) a h may = absurd h
  packet_holding m o (Accept at id n e g v) a h may = subst (λ (time : ℕ). Holding time a (move_to (Accept at id n e g v) a)) h.0 (accept_holding at id n e g v a)
  packet_holding m o (Ack id n after) a h may = calm_holding m o.coming.time (Ack id n after) a (packet_known m o (Ack id n after) a.state h)
  packet_holding m o (Tell d) a h may = calm_holding m o.coming.time (Tell d) a may
  packet_holding m o Establish a h may = calm_holding m o.coming.time Establish a may
  packet_holding m o x a h may = calm_holding m o.coming.time x a tt

  opened_holding : (m : Meaning t) (coming : Coming) (o : OpenPacket) (a : At t) → o.coming ≡ coming → is_over a.state.life.state ≡ false → Holding coming.time a (packet_received m o a)
  opened_holding m coming o a is lively =
      subst (λ (c : Coming). Holding c.time a (packet_received m o a)) is
      (holds_packet m o (Holding o.coming.time) (holding_here o.coming.time) (holding_next o.coming.time) (λ x c h may. packet_holding m o x c h may) a lively)

  datagram_holding : (m : Meaning t) (coming : Coming) (bytes : List ℕ) (a : At t) → Holding coming.time a (datagram_after m coming bytes a)
  datagram_holding m coming bytes a =
      datagram_holds m coming (λ p. Unit {0}) (Holding coming.time) (holding_here coming.time) (holding_next coming.time) (λ x b h may. outside_holding m coming.time x b h may)
      (λ p comes o b opened. opened_holding m coming o b opened.came opened.lively) bytes a (λ p among. tt)

  sending_holding : (m : Meaning t) (now : ℕ) (x : Move t) (a : At t) → IsSending x → Holding now a (move_to x a)
  sending_holding m now (Take id fs) a h = absurd h
  sending_holding m now (Accept at id n e g v) a h = absurd h
  sending_holding m now Release a h = absurd h
  sending_holding m now (Seal at form n size fs) a h = absurd h
  sending_holding m now (Ack id n after) a h = absurd h
  sending_holding m now (Fire after) a h = absurd h
  sending_holding m now Establish a h = absurd h
  sending_holding m now (Tell d) a h = absurd h
  sending_holding m now (Raise to) a h = calm_holding m now (Raise to) a h
  sending_holding m now x a h = calm_holding m now x a tt

  transmit_holding : (m : Meaning t) (time asked : ℕ) (choice : Choice) (a : At t) → MayTransmit m time asked choice a → Holding time a (transmit_after m time asked choice a)
  transmit_holding m time asked choice a may =
      holds_transmit (Holding time) (holding_here time) (holding_next time) (λ x r b h. sending_holding m time x b r) (λ at form fs b h. seal_holding time at form fs b) m time asked choice a may

  -- ---- timeouts

  -- nothing came, nor was an ACK sent
  abbrev Calmly : ℕ → At t → At t → Type 0
  Calmly now a b = (marks_of b.state ≡ marks_of a.state) × Holding now a b

  calmly_here : (now : ℕ) (a : At t) → Calmly now a a
  calmly_here now a = (refl, holding_here now a)

  calmly_next : (now : ℕ) (a b c : At t) → Calmly now a b → Calmly now b c → Calmly now a c
  calmly_next now a b c g h = (h.0 ∙ g.0, holding_next now a b c g.1 h.1)

  calmly : (m : Meaning t) (now : ℕ) (x : Move t) (a : At t) → IsCalm m x a.state → Calmly now a (move_to x a)
  unfolding move_to state_move
  calmly m now x a k = (calm_marks m x a.state k, calm_holding m now x a k)

  calmly_if : (m : Meaning t) (now : ℕ) (x : Move t) (a : At t) (b : Bool) → IsCalm m x a.state → Calmly now a (if b then move_to x a else a)
  calmly_if m now x a true k = calmly m now x a k
  calmly_if m now x a false k = calmly_here now a

  lost_calmly : (m : Meaning t) (now : ℕ) (a : At t) (b : Bool) → Calmly now a (if b then armed_after now (move_to (Fire (fired_by m now a.state)) a) else a)
  unfolding armed_after armed_with
  lost_calmly m now a true =
      let b : At t = move_to (Fire (fired_by m now a.state)) a in
      calmly_next now a b _ (calmly m now (Fire (fired_by m now a.state)) a (record { time = now; is = refl })) (calmly m now (Arm (loss_time b.state (is_blocked b.state.paths) now)) b tt)
  lost_calmly m now a false = calmly_here now a

  killed_calmly : (m : Meaning t) (now : ℕ) (why : ConnectionError) (a : At t) (b : Bool) → Calmly now a (if b then killed_after why a else a)
  unfolding killed_after
  killed_calmly m now why a true =
      let b : At t = move_to (Raise state.Drained) a in
      calmly_next now a b _ (calmly m now (Raise state.Drained) a refl) (given_by (Calmly now) (calmly_here now) (calmly_next now) why b (λ none. calmly m now (Give why) b tt))
  killed_calmly m now why a false = calmly_here now a

  -- ---- what an input does

  -- of the timer of an ACK that is held back
  record HoldsTimer (now : ℕ) (ds : List Did) (s s' : View t) : Type 0 where
    pub sets : is_open s'.life.state ≡ true → (marks_of s).delay_set ≡ false → (marks_of s').delay_set ≡ true → (s'.timers.max_ack_delay ≡ Some (plus now ack_delay_most)) ⊎ (list_any seals_ack ds ≡ true)
    pub waits : (at : ℕ) → is_open s'.life.state ≡ true → s.timers.max_ack_delay ≡ Some at →
        (s'.timers.max_ack_delay ≡ Some at) ⊎ ((list_any seals_ack ds ≡ true) ⊎ ((at ≤ now) × (is_owed_or_clear s' ≡ true)))

  record Result (now : ℕ) (a b : At t) : Type 0 where
    pub since : List Did
    pub appended : b.did ≡ a.did ++ since
    pub kept : AckHolds a.state → AckHolds b.state
    pub holds : AckHolds a.state → HoldsTimer now since a.state b.state

  holding_result : (now : ℕ) (a b : At t) → Holding now a b → Result now a b
  holding_result now a b h = record { since = h.since; appended = h.appended; kept = h.kept; holds = λ k. record { sets = h.sets k; waits = λ at o e. either (h.waits k at o e) } }
    where
      either : {P Q R : Type 0} → P ⊎ Q → P ⊎ (Q ⊎ R)
      either (inl p) = inl p
      either (inr q) = inr (inl q)

  released_result : (now : ℕ) (a c : At t) (x : Bool) → has_come c.state.timers.max_ack_delay now ≡ x → Calmly now a c → Result now a (if x then move_to Release c else c)
  unfolding move_to state_move life_move timers_move waiting_move deeds_move timers_released ack_released marks_expired
  released_result now a c false is calm = holding_result now a c calm.1
  released_result now a c true is calm =
      let h : Holding now a c = calm.1 in
      record {
        since = h.since;
        appended = h.appended;
        kept = λ k. record { asked = λ some. more_owed (marks_of c.state).owed (marks_of c.state).delay_set _ ((h.kept k).asked some); timed = λ e. absurd cc };
        holds = λ k. record {
          sets = λ o f e. let same : (marks_of c.state).delay_set ≡ (marks_of a.state).delay_set = ap (λ (m : AckMarks). m.delay_set) calm.0 in absurd cc;
          waits = λ at o e. waited at (h.waits k at o e);
        };
      }
    where
      more_owed : (o d x : Bool) → (o || d) ≡ true → ((o || x) || d) ≡ true
      more_owed true d x e = refl
      more_owed false true true e = refl
      more_owed false true false e = refl
      more_owed false false x e = cc

      owed_or : (o z : Bool) → ((o || not z) || z) ≡ true
      owed_or true z = refl
      owed_or false true = refl
      owed_or false false = refl

      waited : (at : ℕ) → (c.state.timers.max_ack_delay ≡ Some at) ⊎ (list_any seals_ack calm.1.since ≡ true) →
          (None ≡ Some at) ⊎ ((list_any seals_ack calm.1.since ≡ true) ⊎ ((at ≤ now) × ((((marks_of c.state).owed || not (length (space_of c.state.waiting.spaces «Data»).acks.ranges == 0)) || (length (space_of c.state.waiting.spaces «Data»).acks.ranges == 0)) ≡ true)))
      waited at (inl e) = inr (inr (came_by at now c.state.timers.max_ack_delay e is, owed_or (marks_of c.state).owed (length (space_of c.state.waiting.spaces «Data»).acks.ranges == 0)))
      waited at (inr e) = inr (inl e)

  outlived_calmly : (m : Meaning t) (time : ℕ) (a : At t) (b : Bool) → Calmly time a (if b then wanted_anew time (asks_anew a.state.lower.ids) (move_to Outlive a) else a)
  outlived_calmly m time a true =
      let b : At t = move_to Outlive a in
      calmly_next time a b (wanted_anew time (asks_anew a.state.lower.ids) b) (calmly_if m time Outlive a true tt) (calmly_if m time (Want time (asks_anew a.state.lower.ids)) b (is_open b.state.life.state) tt)
  outlived_calmly m time a false = calmly_if m time Outlive a false tt

  alive_result : (m : Meaning t) (time : ℕ) (a : At t) (b : Bool) → Result time a (if b then a else ack_expired time (ids_expired time (pacing_expired time (keys_expired time (close_expired time (idle_expired time (loss_expired m time a)))))))
  unfolding loss_expired idle_expired close_expired keys_expired pacing_expired ids_expired ack_expired
  alive_result m time a true = holding_result time a a (holding_here time a)
  alive_result m time a false =
      let b : At t = loss_expired m time a in
      let c : At t = idle_expired time b in
      let d : At t = close_expired time c in
      let k : At t = keys_expired time d in
      let e : At t = pacing_expired time k in
      let f : At t = ids_expired time e in
      released_result time a f (has_come f.state.timers.max_ack_delay time) refl
      (calmly_next time a b f (lost_calmly m time a (has_come a.state.timers.loss_detection time))
      (calmly_next time b c f (killed_calmly m time lost.TimedOut b (has_come b.state.timers.idle time))
      (calmly_next time c d f (calmly_if m time (Raise state.Drained) c (has_come c.state.timers.close time) refl)
      (calmly_next time d k f (calmly_if m time Discard d (has_come d.state.timers.key_discard time) tt)
      (calmly_next time k e f (calmly_if m time Pace k (has_come k.state.timers.pacing time) tt) (outlived_calmly m time e (has_come e.state.timers.push_new_cid time)))))))

  timeout_result : (m : Meaning t) (time : ℕ) (a : At t) → Result time a (timeout_after m time a)
  unfolding timeout_after
  timeout_result m time a = alive_result m time a (is_drained a.state.life.state)

  close_by : (m : Meaning t) (time : ℕ) (close : Close) (a : At t) (b : Bool) → Holding time a (if b then move_to (Shut time close) a else a)
  close_by m time close a true = calm_holding m time (Shut time close) a tt
  close_by m time close a false = holding_here time a

  input_result : (m : Meaning t) (i : Input) (choice : Choice) (a : At t) → IsAllowed m i choice a → Result (time_of i) a (input_after m i choice a)
  unfolding IsAllowed input_after close_after
  input_result m (input.Datagram time remote ecn bytes) choice a may = holding_result time a _ (datagram_holding m (record { time = time; remote = remote; mark = ecn }) bytes a)
  input_result m (input.Timeout time) choice a may = timeout_result m time a
  input_result m (input.Transmit time max) choice a may = holding_result time a _ (transmit_holding m time max choice a may)
  input_result m (input.Close time code reason) choice a may = holding_result time a _ (close_by m time _ a (is_open a.state.life.state))
  input_result m (input.Ping time) choice a may = holding_result time a _ (calm_holding m time (Ask a.state.keys.highest) a tt)
  input_result m (input.Update time) choice a may = holding_result time a _ (holds_updated m (Holding time) (holding_here time) (λ b may_be. calm_holding m time (Update (fresh_now m b.state) (m.after_next b.state.lower.session)) b tt) a)
  input_result m (input.SendDatagram time body) choice a may = holding_result time a _ (calm_holding m time (Post (datagrams.Sent (datagram_limit a.state) true body)) a tt)
  input_result m (input.RecvDatagram time) choice a may = holding_result time a _ (calm_holding m time (Post datagrams.Taken) a tt)
  input_result m (input.Identifiers time given) choice a may = holding_result time a _ (calm_holding m time (Issue time given) a tt)
  input_result m i choice a may = holding_result (time_of i) a _ (called_input (Holding (time_of i)) (holding_here (time_of i)) (holding_next (time_of i)) (λ x b h. calm_holding m (time_of i) (Call x) b tt) i choice.read a may)

  -- ---- steps and runs

  -- what is said of two views holds of others with the same life, timers and what waits
  same_views : (now : ℕ) (ds : List Did) (v w w' : View t) → w'.life.state ≡ w.life.state → w'.timers ≡ w.timers → w'.waiting ≡ w.waiting → HoldsTimer now ds v w → HoldsTimer now ds v w'
  same_views now ds v w w' life timers waits h = record {
    sets = λ o f e. first (h.sets (ap is_open (sym life) ∙ o) f (ap (λ (x : Waiting). (data_marks x.spaces).delay_set) (sym waits) ∙ e));
    waits = λ at o e. second at (h.waits at (ap is_open (sym life) ∙ o) e);
  }
    where
      first : (w.timers.max_ack_delay ≡ Some (plus now ack_delay_most)) ⊎ (list_any seals_ack ds ≡ true) → (w'.timers.max_ack_delay ≡ Some (plus now ack_delay_most)) ⊎ (list_any seals_ack ds ≡ true)
      first (inl e) = inl (ap (λ (x : Timers). x.max_ack_delay) timers ∙ e)
      first (inr e) = inr e

      second : (at : ℕ) → (w.timers.max_ack_delay ≡ Some at) ⊎ ((list_any seals_ack ds ≡ true) ⊎ ((at ≤ now) × (is_owed_or_clear w ≡ true))) → (w'.timers.max_ack_delay ≡ Some at) ⊎ ((list_any seals_ack ds ≡ true) ⊎ ((at ≤ now) × (is_owed_or_clear w' ≡ true)))
      second at (inl e) = inl (ap (λ (x : Timers). x.max_ack_delay) timers ∙ e)
      second at (inr (inl e)) = inr (inl e)
      second at (inr (inr e)) = inr (inr (e.0, ap (λ (x : Waiting). (space_of x.spaces «Data»).acks.marks.owed || is_clear (space_of x.spaces «Data»).acks) waits ∙ e.1))

  same_holds : (v w : View t) → w.timers ≡ v.timers → w.waiting ≡ v.waiting → AckHolds v → AckHolds w
  same_holds v w timers waits h = record {
    asked = subst (λ (x : Waiting). 0 < (data_marks x.spaces).eliciting → ((data_marks x.spaces).owed || (data_marks x.spaces).delay_set) ≡ true) (sym waits) h.asked;
    timed = λ e. ap (λ (x : Waiting). (data_marks x.spaces).delay_set) waits ∙ h.timed (ap (λ (x : Timers). is_some x.max_ack_delay) (sym timers) ∙ e);
  }

  step_result : (m : Meaning t) (k : ℕ) (s : View t) (i : Input) (x : Step) (s' : View t) → IsStep m k s i x s' → AckHolds s → AckHolds s' × HoldsTimer x.now x.did s s'
  unfolding called began step_after reported state_move life_move timers_move waiting_move clock_set ready_reported connected_reported all_heard_reported lost_reported notices_reported drained_reported
  step_result m k s i x s' h holds =
      let a : At t = began s (time_of i) in
      let b : At t = input_after m i h.choice a in
      let r : Result (time_of i) a b = input_result m i h.choice a h.allowed in
      let start : AckHolds a.state = record { asked = holds.asked; timed = holds.timed } in
      let deeds : x.did ≡ r.since = h.deeds ∙ r.appended in
      let told : HoldsTimer (time_of i) r.since a.state b.state = r.holds start in (
        same_holds b.state s' h.timers h.waiting (r.kept start),
        subst (λ (n : ℕ). HoldsTimer n x.did s s') (sym h.time) (subst (λ (ds : List Did). HoldsTimer (time_of i) ds s s') (sym deeds)
            (same_views (time_of i) r.since s b.state s' (ap (λ (l : Life). l.state) h.life) h.timers h.waiting (record { sets = told.sets; waits = told.waits }))),
      )

  pub run_acks_hold : (m : Meaning t) (k : ℕ) (s : View t) (is : List Input) (xs : List Step) (s' : View t) → Run m k s is xs s' → AckHolds s → AckHolds s'
  unfolding Run
  run_acks_hold m k s [] [] s' r h = subst (λ (v : View t). AckHolds v) (sym r) h
  run_acks_hold m k s (i ∷ is) (x ∷ xs) s' r h = run_acks_hold m (k + 1) r.0 is xs s' r.2 (step_result m k s i x r.0 r.1 h).0
  run_acks_hold m k s [] (x ∷ xs) s' r h = absurd r
  run_acks_hold m k s (i ∷ is) [] s' r h = absurd r

  pub run_each_holds : (m : Meaning t) (k : ℕ) (s : View t) (is : List Input) (xs : List Step) (s' : View t) → Run m k s is xs s' → AckHolds s → EachHoldsAck m k s is xs s'
  unfolding Run EachHoldsAck
  run_each_holds m k s [] [] s' r h = tt
  run_each_holds m k s (i ∷ is) (x ∷ xs) s' r h =
      let both = step_result m k s i x r.0 r.1 h in
      let holds : HoldsAck x.now x.did s r.0 = record { owes = owes_step m k s i x r.0 r.1; sets = both.1.sets; waits = both.1.waits } in
      (r.0, r.1, asks_step m k s i x r.0 r.1, both.0, holds, run_each_holds m (k + 1) r.0 is xs s' r.2 both.0)
  run_each_holds m k s [] (x ∷ xs) s' r h = absurd r
  run_each_holds m k s (i ∷ is) [] s' r h = absurd r
