-- Over an input recovery's state is the fold of its own steps, and those by which it settles are of the ACKs that were given to it in admitted
-- packets; with what else holds of these steps.
use Rattle.std.proofs.Common.{◌≡◌, ℕ, ◌≤◌, inl, inr, List, [], ◌∷◌, ◌++◌, refl, ap, sym, ◌∙◌, subst, Bool, true, false, if◌then◌else◌, append_assoc, append-nil, arith}
use Rattle.std.specs.Prelude.{nat_le}
use Rattle.std.specs.List.{list_any}
use Rattle.qc_base.specs.declared.side.Side.{Side}
use Rattle.qc_base.specs.declared.side.SpaceId.{SpaceId}
use Rattle.qc_base.specs.declared.side.SpaceId.TheVariants.{Handshake}
use Rattle.qc_flight.specs.Packets.{Entry}
use Rattle.qc_frame.specs.Frame.{AckValue, FrameValue}
use Rattle.qc_frame.specs.FrameSpelling.{spelling}
use Rattle.qc_frame.specs.declared.frames.FrameOf.TheVariants as frames
use Rattle.qc_path.specs.Pacing.{Bucket}
use Rattle.qc_recovery.specs.Steps.{After, FiredAfter, path_dropped}
use Rattle.qc_recovery.specs.declared.path.PathData.{PathData}
use Rattle.qc_recovery.proofs.Named.{acked_acknowledged}
use Rattle.qc_state.specs.declared.coming.Coming.{Coming}
use Rattle.qc_state.specs.declared.form.Form.{Form}
use Rattle.qc_state.specs.declared.deeds.Did.{Did}
use Rattle.qc_state.specs.declared.deeds.Did.TheVariants as did
use Rattle.qc_state.specs.declared.deeds.Layer.TheVariants as layer
use Rattle.qc_state.specs.declared.deeds.Verdict.{Verdict}
use Rattle.qc_state.specs.declared.deeds.Verdict.TheVariants as verdict
use Rattle.qc_state.specs.declared.input.Input.{Input}
use Rattle.qc_state.specs.declared.life.State.{State}
use Rattle.qc_state.specs.declared.life.State.TheVariants as state
use Rattle.qc_state.specs.declared.lower.Lower.{Lower}
use Rattle.qc_state.specs.declared.paths.Path.{Path}
use Rattle.qc_state.specs.declared.paths.Paths.{Paths}
use Rattle.qc_state.specs.Flight.{flown_packet}
use Rattle.qc_state.specs.Forms.{number_space, is_early}
use Rattle.qc_state.specs.Keys.{epoch_in}
use Rattle.qc_state.specs.Life.{is_open, is_over, rank_of}
use Rattle.qc_state.specs.Lower.{bytes_came, flight_dropped, packet_flown, packets_settled, session_read, session_wrote, timer_fired, limits_learned, frame_handed, streams_closed, streams_stepped, datagrams_stepped, frames_sealed, ids_stepped}
use Rattle.qc_state.specs.Moves.{Accept, Ack, Arm, Ask, Begin, Clock, Come, Confirm, PeerClosesToo, Enter, Establish, Expect, Fail, Finish, Fire, Fix, Forget, Give, Hear, IsTold, Learn, PeerCloses, MayMove, Move, Owe, Pace, Raise, Read, Ready, Release, Say, Seal, Shut, Skip, Take, Tell, Token, Want, Write, deeds_move, is_close, keys_move, life_move, lower_move, move_to, numbers_move, paths_move, setup_move, state_move, timers_move, waiting_move, Call, Hand, Post, Insert, Switch, Retire, Issue, Outlive, Hold, Spend, Probe, Discard, Unseal, Update, Renew}
use Rattle.qc_state.specs.Numbers.{began_at, next_number, received_number}
use Rattle.qc_state.specs.Paths.{is_blocked, path_accepted, path_kept, path_received, path_sent, path_spun, peer_fixed, spun_by, path_named, path_capped}
use Rattle.qc_state.specs.Recovering.{around_of, fired_by, settled_by, shows_validated}
use Rattle.qc_state.specs.Run.{IsAllowed, input_after}
use Rattle.qc_state.specs.Sending.{Choice, packet_size, rate_of}
use Rattle.qc_state.specs.Spaces.{is_space}
use Rattle.qc_state.specs.Types.{Types, Meaning}
use Rattle.qc_state.specs.Verdicts.{verdict_of}
use Rattle.qc_state.specs.Updating.{unsealed_after}
use Rattle.qc_state.specs.View.{View, At, at}
use Rattle.qc_state.specs.Waiting.{waiting_without}
use Rattle.qc_state.proofs.OpenPackets.{IsUnacked, given_ack, packet_received, packet_unacked, told_settled}
use Rattle.qc_state.proofs.PacketMoves.{OpenPacket}
use Rattle.qc_state.proofs.Probed.{begun_streams}
use Rattle.qc_state.proofs.Quieted.{probed_current, quiet_current}
use Rattle.qc_state.proofs.Telling.{told_appends}
use Rattle.qc_state.proofs.Transmitted.{IsSealable}
use Rattle.qc_laws.specs.EndLaws.{Ends}
use Rattle.qc_laws.specs.PieceLaws.{gifts_by}
use Rattle.qc_laws.specs.RecoveryLaws.{AllMay, AreFlown, Fired, Kept, MayStep, RecoveryStep, Recovers, Sent, Settled, Spent, Told, acks_in, given_to_recovery, is_admitted, kept, sent_in, step_after, steps_after, steps_of}
use Rattle.qc_laws.proofs.EndsHold.{ends_seal, known_keeps}
use Rattle.qc_laws.proofs.HeardAcks.{Hears, HearsIn, flown_append, given_none, hears_in_next, hears_next, hears_packet, leads_append, may_append, none_here, none_in, sealed_hears, sent_append, to_recovery}
use Rattle.qc_laws.proofs.KnownMoves.{IsFiredBy, IsKnownMove, IsSpentBy, IsToldBy, IsUncalled, is_called, known_calls, known_packets, packet_known, packet_uncalled}
use Rattle.qc_laws.proofs.PieceLaws.{opened_tells}
use Rattle.qc_laws.proofs.StreamCalls.{handed_told}
use Rattle.qc_laws.proofs.StreamSteps.{same_since}

-- ---- moves

-- a life that isn't open has risen to Closed
shut_rank : (s : State) → is_open s ≡ false → 2 ≤ rank_of s
shut_rank state.Handshake h = cc
shut_rank state.Established h = cc
shut_rank state.Closed h = omega arith
shut_rank state.Draining h = omega arith
shut_rank state.Drained h = omega arith

-- of a path on which a packet was accepted recovery keeps what it kept
verdict_kept : {C : Type 0} → (p : Paths C) (id : SpaceId) (v : Verdict) → (path_accepted p id v).current.kept ≡ p.current.kept
unfolding path_accepted
verdict_kept p Handshake verdict.Admitted = refl
verdict_kept p _ _ = refl

spun_kept : {C : Type 0} → (p : Paths C) (side : Side) (bit b : Bool) → (if b then record p { spin = spun_by side bit } else p).current.kept ≡ p.current.kept
spun_kept p side bit true = refl
spun_kept p side bit false = refl

accepted_kept : {C : Type 0} → (p : Paths C) (id : SpaceId) (v : Verdict) (side : Side) (greatest bit : Bool) → (path_spun (path_accepted p id v) side greatest bit).current.kept ≡ p.current.kept
unfolding path_spun
accepted_kept p id v side greatest bit = spun_kept (path_accepted p id v) side bit greatest ∙ verdict_kept p id v

-- what is told seals nothing
told_flown : (id : SpaceId) (d : Did) → IsTold d → AreFlown id (d ∷ []) []
told_flown id (did.Piece space number v) h = refl
told_flown id (did.Gave layer body) h = refl
told_flown id _ h = absurd h

-- what is told beside an ACK
told_quiet : (t : Types) (d : Did) → IsUnacked {t = t} (Tell d) → (id : SpaceId) (now : Bool) → given_to_recovery id now (d ∷ []) ≡ []
told_quiet t (did.Gave layer.Recovery body) u id now = absurd u
told_quiet t _ u id now = refl

told_none : (t : Types) (d : Did) → IsUnacked {t = t} (Tell d) → to_recovery (d ∷ []) ≡ []
told_none t (did.Gave layer.Recovery body) u = absurd u
told_none t _ u = refl

module _ {t : Types} where
  -- recovery's steps lead from one view to another, between which these deeds were done
  pub record IsFold (m : Meaning t) (ds : List Did) (xs : List (RecoveryStep t.C)) (s s' : View t) : Type 0 where
    pub may : AllMay m.control xs (kept s)
    pub leads : kept s' ≡ steps_after xs (kept s)
    pub sent : (id : SpaceId) → AreFlown id ds (sent_in id xs)

  pub fold_same : (m : Meaning t) (s s' : View t) → kept s' ≡ kept s → IsFold m [] [] s s'
  fold_same m s s' same = record { may = tt; leads = same; sent = λ id. refl }

  pub fold_from : (m : Meaning t) (ds : List Did) (xs : List (RecoveryStep t.C)) (s a b s' : View t) → kept a ≡ kept s → kept s' ≡ kept b → IsFold m ds xs a b → IsFold m ds xs s s'
  fold_from m ds xs s a b s' from to h = record { may = subst (λ (k : Kept t.C). AllMay m.control xs k) from h.may; leads = to ∙ h.leads ∙ ap (λ (k : Kept t.C). steps_after xs k) from; sent = h.sent }

  pub fold_next : (m : Meaning t) (ds es : List Did) (xs ys : List (RecoveryStep t.C)) (u v w : View t) → IsFold m ds xs u v → IsFold m es ys v w → IsFold m (ds ++ es) (xs ++ ys) u w
  fold_next m ds es xs ys u v w g h = record {
    may = may_append m.control xs ys (kept u) g.may (subst (λ (k : Kept t.C). AllMay m.control ys k) g.leads h.may);
    leads = h.leads ∙ ap (λ (k : Kept t.C). steps_after ys k) g.leads ∙ sym (leads_append xs ys (kept u));
    sent = λ id. subst (λ (es_in : List Entry). AreFlown id (ds ++ es) es_in) (sym (sent_append id xs ys)) (flown_append id ds es (sent_in id xs) (sent_in id ys) (g.sent id) (h.sent id));
  }

  -- so it is with the ACKs that the deeds give to recovery
  pub record Covers (m : Meaning t) (ds : List Did) (s s' : View t) : Type 0 where
    pub steps : List (RecoveryStep t.C)
    pub fold : IsFold m ds steps s s'
    pub hears : Hears ds steps

  abbrev pub covers_same : (m : Meaning t) (s s' : View t) → kept s' ≡ kept s → Covers m [] s s'
  covers_same m s s' same = record { steps = []; fold = fold_same m s s' same; hears = λ id now. refl }

  unfoldable pub covers_next : (m : Meaning t) (ds es : List Did) (u v w : View t) → Covers m ds u v → Covers m es v w → Covers m (ds ++ es) u w
  covers_next m ds es u v w g h = record {
    steps = g.steps ++ h.steps;
    fold = fold_next m ds es g.steps h.steps u v w g.fold h.fold;
    hears = hears_next ds es g.steps h.steps g.hears h.hears;
  }

  abbrev pub recovers_by : (m : Meaning t) (ds : List Did) (s s' : View t) → Covers m ds s s' → Recovers m ds s s'
  recovers_by m ds s s' c = record { steps = c.steps; may = c.fold.may; leads = c.fold.leads; sent = c.fold.sent; heard = λ id. c.hears id false }

  -- what an ACK and the timer leave is what recovery makes of them
  settled_may : (m : Meaning t) (time : ℕ) (id : SpaceId) (ack : AckValue) (s : View t) → MayStep m.control (Settled id ack (settled_by m time id ack s)) (kept s)
  unfolding settled_by
  settled_may m time id ack s = record {
    now = time;
    next = next_number s.numbers id;
    began = began_at s.numbers id;
    around = around_of s (is_blocked s.paths) (shows_validated id);
    is = refl;
    named = λ n among.
        acked_acknowledged m.control time id (next_number s.numbers id) (began_at s.numbers id) ack (around_of s (is_blocked s.paths) (shows_validated id)) s.lower.recovery s.paths.current.kept n among;
  }

  fired_may : (m : Meaning t) (after : FiredAfter t.C) (s : View t) → IsFiredBy m after s → MayStep m.control (Fired after) (kept s)
  unfolding fired_by
  fired_may m after s h = record { now = h.time; around = _; is = h.is }

  -- so are what the pacer and the controller are left with
  spent_may : (m : Meaning t) (tokens : Bucket) (s : View t) → IsSpentBy m tokens s → MayStep m.control (Spent tokens) (kept s)
  unfolding rate_of
  spent_may m tokens s h = record { now = h.time; size = h.size; is = h.is }

  told_may : (m : Meaning t) (control : t.C) (s : View t) → IsToldBy m control s → MayStep m.control (Told control) (kept s)
  told_may m control s h = record { now = h.time; bytes = h.bytes; last = h.last; is = h.is }

  -- what recovery keeps stands in two groups
  pub kept_same : (s s' : View t) → s.lower ≡ s'.lower → s.paths ≡ s'.paths → kept s ≡ kept s'
  kept_same s s' lower paths =
      ap (λ (l : Lower t.S). record { recovery = l.recovery; path = s.paths.current.kept }) lower ∙ ap (λ (p : Paths t.C). record { recovery = s'.lower.recovery; path = p.current.kept }) paths

  -- a packet is sealed, while a close is owed or not
  seal_folds : (m : Meaning t) (time n size : ℕ) (id : SpaceId) (epoch : ℕ) (early : Bool) (fs : List FrameValue) (s : View t) (owed : Bool) → (owed ≡ true → list_any is_close fs ≡ true) →
      let steps : List (RecoveryStep t.C) = if owed then [] else Sent id n (flown_packet time size fs) ∷ [] in
      let lower : Lower t.S = if owed then s.lower else packet_flown s.lower id n (flown_packet time size fs) in
      let k : Kept t.C = record { recovery = lower.recovery; path = s.paths.current.kept } in
      AllMay m.control steps (kept s) × (k ≡ steps_after steps (kept s)) × ((space : SpaceId) → AreFlown space (did.Sealed id n epoch early fs ∷ []) (sent_in space steps))
  unfolding step_after packet_flown flown_packet
  seal_folds m time n size id epoch early fs s true closes = (tt, refl, λ space. ([], [], ap (λ (es : List Entry). es ++ []) (sym (none_in space id)), inr (refl, closes refl), refl))
  seal_folds m time n size id epoch early fs s false closes =
      ((tt, tt), refl, λ space. ((n, flown_packet time size fs) ∷ [], [], refl, inl (flown_packet time size fs, refl, record { frames = refl; streams = refl; counted = refl; eliciting = refl }), refl))

  -- each move beside those with which a packet is taken and sealed, and those by which recovery is given an ACK
  move_parts : (m : Meaning t) (x : Move t) (s : View t) → IsKnownMove m x s → IsUnacked x → MayMove x s →
      AllMay m.control (steps_of x s) (kept s) × (kept (state_move x s) ≡ steps_after (steps_of x s) (kept s)) × ((id : SpaceId) → AreFlown id (deeds_move x s) (sent_in id (steps_of x s)))
  unfolding path_dropped steps_of step_after state_move lower_move paths_move deeds_move flight_dropped packets_settled timer_fired bytes_came session_read session_wrote limits_learned frame_handed streams_closed streams_stepped datagrams_stepped path_kept path_named path_received path_sent peer_fixed MayMove frames_sealed ids_stepped path_capped
  move_parts m (Clock time) s k u may = absurd k
  move_parts m (Ask id) s k u may = (tt, refl, (λ id. refl))
  move_parts m (Take id fs) s k u may = absurd k
  move_parts m (Seal time form n size fs) s k u may = absurd k
  move_parts m (Forget id) s k u may = ((tt, tt), refl, (λ id. refl))
  move_parts m (Expect token) s k u may = (tt, refl, (λ id. refl))
  move_parts m (Enter id n v) s k u may = (tt, refl, (λ id. refl))
  move_parts m Fail s k u may = (tt, refl, (λ id. refl))
  move_parts m (Renew time cid token keys) s k u may = ((tt, tt), refl, (λ id. refl))
  move_parts m (Unseal time n which fresh session) s k u may = (tt, refl, (λ id. refl))
  move_parts m (Update fresh session) s k u may = (tt, refl, (λ id. refl))
  move_parts m Discard s k u may = (tt, refl, (λ id. refl))
  move_parts m (Accept time id n e g v) s k u may =
      (tt, ap (λ (p : PathData t.C). record { recovery = s.lower.recovery; path = p }) (accepted_kept s.paths id v s.setup.fixed.side (nat_le (received_number s.numbers id) n) g.spin), (λ id. refl))
  move_parts m (Fix cid) s k u may = (tt, refl, (λ id. refl))
  move_parts m (Hear bytes) s k u may = (tt, refl, (λ id. refl))
  move_parts m (Ack id n after) s k u may = absurd u
  move_parts m (Fire after) s k u may = ((fired_may m after s k, tt), refl, (λ id. refl))
  move_parts m (Arm due) s k u may = (tt, refl, (λ id. refl))
  move_parts m Pace s k u may = (tt, refl, (λ id. refl))
  move_parts m Release s k u may = (tt, refl, (λ id. refl))
  move_parts m (Begin id opens) s k u may = (tt, ap (λ (l : Lower t.S). record { recovery = l.recovery; path = s.paths.current.kept }) (begun_streams id opens s), (λ id. refl))
  move_parts m Skip s k u may = (tt, refl, (λ id. refl))
  move_parts m (Come id offset bytes) s k u may = (tt, refl, (λ id. refl))
  move_parts m (Read id count session) s k u may = (tt, refl, (λ id. refl))
  move_parts m (Write bytes keys session) s k u may = (tt, refl, (λ id. refl))
  move_parts m Ready s k u may = (tt, refl, (λ id. refl))
  move_parts m (Token token) s k u may = (tt, refl, (λ id. refl))
  move_parts m (Learn parameters) s k u may = ((tt, tt), refl, (λ id. refl))
  move_parts m (Want time count) s k u may = (tt, refl, (λ id. refl))
  move_parts m Confirm s k u may = (tt, refl, (λ id. refl))
  move_parts m Establish s k u may = (tt, refl, (λ id. refl))
  move_parts m (Tell d) s k u may = (tt, refl, (λ id. told_flown id d may))
  move_parts m PeerClosesToo s k u may = (tt, refl, (λ id. refl))
  move_parts m (PeerCloses time) s k u may = (tt, refl, (λ id. refl))
  move_parts m Owe s k u may = (tt, refl, (λ id. refl))
  move_parts m (Shut time close) s k u may = (tt, refl, (λ id. refl))
  move_parts m (Raise to) s k u may = (tt, refl, (λ id. refl))
  move_parts m (Give why) s k u may = (tt, refl, (λ id. refl))
  move_parts m (Spend tokens) s k u may = ((spent_may m tokens s k, tt), refl, (λ id. refl))
  move_parts m (Hold until) s k u may = (tt, refl, (λ id. refl))
  move_parts m (Finish bytes control) s k u may = ((told_may m control s k, tt), refl, (λ id. refl))
  move_parts m (Probe time n bytes q) s k u may = ((tt, tt), ap (λ (p : Path t.C). record { recovery = s.lower.recovery; path = p.kept }) (probed_current s.paths time n bytes q), (λ id. refl))
  move_parts m (Say quiet) s k u may = (tt, ap (λ (p : Path t.C). record { recovery = s.lower.recovery; path = p.kept }) (quiet_current s.paths quiet), (λ id. refl))
  move_parts m (Hand frame) s k u may = (tt, refl, (λ id. handed_told (λ ds. AreFlown id ds []) frame refl (λ body. refl)))
  move_parts m (Call x) s k u may = (tt, refl, (λ id. refl))
  move_parts m (Post x) s k u may = (tt, refl, (λ id. refl))
  move_parts m (Insert new) s k u may = (tt, refl, (λ id. refl))
  move_parts m Switch s k u may = (tt, refl, (λ id. refl))
  move_parts m (Retire time n) s k u may = (tt, refl, (λ id. refl))
  move_parts m (Issue time given) s k u may = (tt, refl, (λ id. refl))
  move_parts m Outlive s k u may = (tt, refl, (λ id. refl))
  move_parts m _ s k u may = absurd k

  -- none of these moves settles by an ACK, or gives one
  quiet_steps : (m : Meaning t) (x : Move t) (s : View t) → IsKnownMove m x s → (id : SpaceId) → acks_in id (steps_of x s) ≡ []
  unfolding steps_of
  quiet_steps m (Seal time form n size fs) s k id = absurd k
  quiet_steps m x s k id = refl

  deeds_quiet : (x : Move t) (s : View t) → IsUnacked x → (id : SpaceId) (now : Bool) → given_to_recovery id now (deeds_move x s) ≡ []
  unfolding deeds_move
  deeds_quiet (Tell d) s u id now = told_quiet t d u id now
  deeds_quiet (Hand frame) s u id now = handed_told (λ ds. given_to_recovery id now ds ≡ []) frame refl (λ body. refl)
  deeds_quiet x s u id now = refl

  deeds_none : (x : Move t) (s : View t) → IsUnacked x → to_recovery (deeds_move x s) ≡ []
  unfolding deeds_move
  deeds_none (Tell d) s u = told_none t d u
  deeds_none (Hand frame) s u = handed_told (λ ds. to_recovery ds ≡ []) frame refl (λ body. refl)
  deeds_none x s u = refl

  quiet_hears : (m : Meaning t) (x : Move t) (s : View t) → IsKnownMove m x s → IsUnacked x → Hears (deeds_move x s) (steps_of x s)
  quiet_hears m x s k u = λ id now. quiet_steps m x s k id ∙ sym (deeds_quiet x s u id now)

  quiet_hears_in : (m : Meaning t) (space : SpaceId) (x : Move t) (s : View t) → IsKnownMove m x s → IsUnacked x → HearsIn space (deeds_move x s) (steps_of x s)
  quiet_hears_in m space x s k u = λ id. quiet_steps m x s k id ∙ sym (none_here (is_space id space) (to_recovery (deeds_move x s)) (deeds_none x s u))

  -- ---- an ACK

  told_state : (d : Did) (s : View t) → state_move (Tell d) s ≡ s
  unfolding state_move numbers_move keys_move life_move paths_move timers_move waiting_move setup_move lower_move
  told_state d s = refl

  ack_fold : (m : Meaning t) (time : ℕ) (space : SpaceId) (ack : AckValue) (s : View t) →
      let after : After t.C = settled_by m time space ack s in
      IsFold m (did.Gave layer.Recovery (spelling (frames.Ack ack)) ∷ []) (Settled space ack after ∷ []) s (state_move (Ack space ack.largest after) s)
  unfolding step_after state_move lower_move paths_move packets_settled streams_stepped datagrams_stepped ids_stepped path_kept
  ack_fold m time space ack s = record { may = (settled_may m time space ack s, tt); leads = refl; sent = λ id. refl }

  -- what a packet gives that isn't admitted
  gifts_quiet : (m : Meaning t) (coming : Coming) (id : SpaceId) (spin : Bool) (source : List ℕ) (number : ℕ) (payload : List ℕ) (v : Verdict) (s : View t) → is_admitted v ≡ false → gifts_by m coming id spin source number payload v s ≡ []
  gifts_quiet m coming id spin source number payload verdict.Admitted s h = cc
  gifts_quiet m coming id spin source number payload _ s h = refl

-- ---- from one moment to another of an input

-- beside recovery's steps, something else holds of the deeds and the steps between two views
module _ {t : Types} (m : Meaning t) (Also : List Did → List (RecoveryStep t.C) → View t → View t → Type 0) where
  pub record Part (Heard : List Did → List (RecoveryStep t.C) → Type 0) (a b : At t) : Type 0 where
    pub since : List Did
    pub appended : b.did ≡ a.did ++ since
    pub steps : List (RecoveryStep t.C)
    pub fold : IsFold m since steps a.state b.state
    pub hears : Heard since steps
    pub also : Also since steps a.state b.state

-- Where that holds of nothing, of what comes one after the other, of each move that is known so, of an ACK that is given to recovery and makes
-- its step, and of the two moves with which a packet is taken and sealed, it holds of an input, with recovery's steps. `Plain` says of a move
-- whether it is asked of it; it is of all that are no calls of the application.
module _ {t : Types} (m : Meaning t) (Also : List Did → List (RecoveryStep t.C) → View t → View t → Type 0) (Plain : Move t → Type 0) (plain : (x : Move t) → IsUncalled x → Plain x)
    (none : (s : View t) → Also [] [] s s)
    (behind : (ds es : List Did) (xs ys : List (RecoveryStep t.C)) (u v w : View t) → Also ds xs u v → Also es ys v w → Also (ds ++ es) (xs ++ ys) u w)
    (move : (x : Move t) (s : View t) → IsKnownMove m x s → Plain x → IsUnacked x → MayMove x s → Also (deeds_move x s) (steps_of x s) s (state_move x s))
    (settle : (time : ℕ) (space : SpaceId) (ack : AckValue) (s : View t) →
    let after : After t.C = settled_by m time space ack s in Also (did.Gave layer.Recovery (spelling (frames.Ack ack)) ∷ []) (Settled space ack after ∷ []) s (state_move (Ack space ack.largest after) s))
    (seal : (time : ℕ) (form : Form) (fs : List FrameValue) (s : View t) → IsSealable time s form fs → Ends s →
    let n : ℕ = next_number s.numbers (number_space form) in
    let size : ℕ = packet_size s form fs in
    Also (did.Sealed (number_space form) n (epoch_in s.keys form) (is_early form) fs ∷ []) (if s.waiting.close_owed then [] else Sent (number_space form) n (flown_packet time size fs) ∷ []) s
    (state_move (Seal time form n size fs) (state_move (Take (number_space form) fs) s))) where
  abbrev Keeps : (List Did → List (RecoveryStep t.C) → Type 0) → At t → At t → Type 0
  Keeps Heard a b = Ends a.state → Ends b.state × Part m Also Heard a b

  keeps_here : (Heard : List Did → List (RecoveryStep t.C) → Type 0) → Heard [] [] → (a : At t) → Keeps Heard a a
  keeps_here Heard h a = λ e. (e, record { since = []; appended = sym (append-nil a.did); steps = []; fold = fold_same m a.state a.state refl; hears = h; also = none a.state })

  part_next : (Heard : List Did → List (RecoveryStep t.C) → Type 0) → ((ds es : List Did) (xs ys : List (RecoveryStep t.C)) → Heard ds xs → Heard es ys → Heard (ds ++ es) (xs ++ ys)) → (a b c : At t) →
      Part m Also Heard a b → Part m Also Heard b c → Part m Also Heard a c
  part_next Heard both a b c g h = record {
    since = g.since ++ h.since;
    appended = h.appended ∙ ap (λ (x : List Did). x ++ h.since) g.appended ∙ append_assoc a.did g.since h.since;
    steps = g.steps ++ h.steps;
    fold = fold_next m g.since h.since g.steps h.steps a.state b.state c.state g.fold h.fold;
    hears = both g.since h.since g.steps h.steps g.hears h.hears;
    also = behind g.since h.since g.steps h.steps a.state b.state c.state g.also h.also;
  }

  keeps_next : (Heard : List Did → List (RecoveryStep t.C) → Type 0) → ((ds es : List Did) (xs ys : List (RecoveryStep t.C)) → Heard ds xs → Heard es ys → Heard (ds ++ es) (xs ++ ys)) → (a b c : At t) →
      Keeps Heard a b → Keeps Heard b c → Keeps Heard a c
  keeps_next Heard both a b c g k = λ e. let first = g e in let second = k first.0 in (second.0, part_next Heard both a b c first.1 second.1)

  -- a move
  keeps_move : (Heard : List Did → List (RecoveryStep t.C) → Type 0) (x : Move t) (a : At t) → IsKnownMove m x a.state → Plain x → IsUnacked x → MayMove x a.state → Heard (deeds_move x a.state) (steps_of x a.state) → Keeps Heard a (move_to x a)
  unfolding move_to
  keeps_move Heard x a known p unacked may heard = λ e.
      let parts = move_parts m x a.state known unacked may in (
        known_keeps m x a known may e,
        record {
          since = deeds_move x a.state;
          appended = told_appends a.did (deeds_move x a.state);
          steps = steps_of x a.state;
          fold = record { may = parts.0; leads = parts.1; sent = parts.2 };
          hears = heard;
          also = move x a.state known p unacked may;
        },
      )

  -- recovery is given an ACK in a packet
  ack_part : (o : OpenPacket) (ack : AckValue) (a : At t) → Part m Also (HearsIn o.space) a (given_ack m o ack a)
  unfolding move_to deeds_move
  ack_part o ack a =
      let after : After t.C = settled_by m o.coming.time o.space ack a.state in
      let settled : Move t = Ack o.space ack.largest after in
      let d : Did = did.Gave layer.Recovery (spelling (frames.Ack ack)) in
      let xs : List (RecoveryStep t.C) = Settled o.space ack after ∷ [] in
      record {
        since = d ∷ [];
        appended = refl;
        steps = xs;
        fold = subst (λ (s : View t). IsFold m (d ∷ []) xs a.state (state_move settled s)) (sym (told_state d a.state)) (ack_fold m o.coming.time o.space ack a.state);
        hears = λ id. append-nil (if is_space id o.space then spelling (frames.Ack ack) ∷ [] else []);
        also = subst (λ (s : View t). Also (d ∷ []) xs a.state (state_move settled s)) (sym (told_state d a.state)) (settle o.coming.time o.space ack a.state);
      }

  ack_ends : (o : OpenPacket) (ack : AckValue) (a : At t) → Ends a.state → Ends (given_ack m o ack a).state
  unfolding MayMove move_to
  ack_ends o ack a e =
      let d : Did = did.Gave layer.Recovery (spelling (frames.Ack ack)) in
      let b : At t = move_to (Tell d) a in
      known_keeps m (Ack o.space ack.largest (settled_by m o.coming.time o.space ack a.state)) b (record { time = o.coming.time; ack = ack; is = told_settled m o.coming.time o.space ack d a.state }) tt (known_keeps m (Tell d) a tt tt e)

  -- a packet that opened
  packet_in : (o : OpenPacket) (a : At t) → is_over a.state.life.state ≡ false → Keeps (HearsIn o.space) a (packet_received m o a)
  packet_in o a lively =
      packet_unacked m o (Keeps (HearsIn o.space)) (keeps_here (HearsIn o.space) (λ id. sym (none_here (is_space id o.space) [] refl))) (keeps_next (HearsIn o.space) (hears_in_next o.space))
      (λ x b h unacked may. keeps_move (HearsIn o.space) x b (packet_known m o x b.state h) (plain x (packet_uncalled m o x b.state h)) unacked may (quiet_hears_in m o.space x b.state (packet_known m o x b.state h) unacked))
      (λ ack b among. λ e. (ack_ends o ack b e, ack_part o ack b)) a lively

  packet_part : (o : OpenPacket) (a : At t) → Part m Also (HearsIn o.space) a (packet_received m o a) → Part m Also Hears a (packet_received m o a)
  packet_part o a w =
      let v : Verdict = verdict_of a.state o.space o.source o.token o.number in
      let told = opened_tells m o.coming o.space o.source o.token o.spin o.which o.number o.payload a in
      record {
        since = w.since;
        appended = w.appended;
        steps = w.steps;
        fold = w.fold;
        hears = hears_packet o.space o.number v w.since told.others w.steps (same_since a.did w.since _ (sym w.appended ∙ told.appended)) told.one
            (λ h. given_none told.others (told.given ∙ gifts_quiet m o.coming o.space o.spin o.source o.number o.payload v (unsealed_after m o.coming.time o.which o.number (at a.state [])).state h)) w.hears;
        also = w.also;
      }

  packet_keeps : (o : OpenPacket) (a : At t) → is_over a.state.life.state ≡ false → Keeps Hears a (packet_received m o a)
  packet_keeps o a lively = λ e. let both = packet_in o a lively e in (both.0, packet_part o a both.1)

  -- a packet is taken and sealed
  seal_part : (time : ℕ) (form : Form) (fs : List FrameValue) (a : At t) → IsSealable time a.state form fs → Ends a.state →
      Part m Also Hears a (move_to (Seal time form (next_number a.state.numbers (number_space form)) (packet_size a.state form fs) fs) (move_to (Take (number_space form) fs) a))
  unfolding steps_of state_move lower_move streams_stepped datagrams_stepped paths_move keys_move deeds_move move_to waiting_move waiting_without frames_sealed ids_stepped
  seal_part time form fs a may ends =
      let space : SpaceId = number_space form in
      let n : ℕ = next_number a.state.numbers space in
      let size : ℕ = packet_size a.state form fs in
      let owed : Bool = a.state.waiting.close_owed in
      let epoch : ℕ = epoch_in a.state.keys form in
      let sealed = seal_folds m time n size space epoch (is_early form) fs (state_move (Take space fs) a.state) owed (λ e. may.closes (shut_rank a.state.life.state (ends.owed e))) in
      record {
        since = did.Sealed space n epoch (is_early form) fs ∷ [];
        appended = refl;
        steps = if owed then [] else Sent space n (flown_packet time size fs) ∷ [];
        fold = record { may = sealed.0; leads = sealed.1; sent = sealed.2 };
        hears = sealed_hears t.C owed space n epoch (is_early form) fs (flown_packet time size fs);
        also = seal time form fs a.state may ends;
      }

  -- an input that is no call of the application's
  pub other_part : (i : Input) (choice : Choice) (a : At t) → is_called i ≡ false → IsAllowed m i choice a → Keeps Hears a (input_after m i choice a)
  other_part i choice a uncalled may =
      known_packets m (Keeps Hears) (keeps_here Hears (λ id now. refl)) (keeps_next Hears hears_next)
      (λ x b known is_none unacked may_be. keeps_move Hears x b known (plain x is_none) unacked may_be (quiet_hears m x b.state known unacked)) packet_keeps
      (λ time form fs b may_be. λ e. (ends_seal time form fs b may_be e, seal_part time form fs b may_be e)) i choice a uncalled may

  -- each input, where it is asked of each move
  pub input_part : ((x : Move t) → Plain x) → (i : Input) (choice : Choice) (a : At t) → IsAllowed m i choice a → Keeps Hears a (input_after m i choice a)
  input_part every i choice a may =
      known_calls m (Keeps Hears) (keeps_here Hears (λ id now. refl)) (keeps_next Hears hears_next) other_part
      (λ x b known unacked may_be. keeps_move Hears x b known (every x) unacked may_be (quiet_hears m x b.state known unacked)) i choice a may
