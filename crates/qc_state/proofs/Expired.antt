-- What holds of each move that a timer makes holds of a timeout; and behind one neither the idle timer nor the close timer, nor that
-- of the pacer, of ids that grow old or of an ACK which is held back, is left having come.
use Rattle.std.proofs.Common.{◌≡◌, ℕ, refl, ap, sym, ◌∙◌, subst, Bool, true, false, if◌then◌else◌, Option}
use Rattle.std.specs.Prelude.{is_none}
use Rattle.qc_recovery.specs.Steps.{FiredAfter}
use Rattle.qc_state.specs.declared.life.ConnectionError.{ConnectionError}
use Rattle.qc_state.specs.declared.life.ConnectionError.TheVariants.{TimedOut}
use Rattle.qc_state.specs.declared.life.State.TheVariants.{Drained}
use Rattle.qc_cids.specs.Cids.{asks_anew}
use Rattle.qc_state.specs.Life.{is_drained, is_open}
use Rattle.qc_state.specs.Moves.{Move, Discard, Fire, Arm, Outlive, Pace, Raise, Release, Want, Give, MayMove, state_move, move_to, life_move, timers_move, armed_after, armed_with}
use Rattle.qc_state.specs.Paths.{is_blocked}
use Rattle.qc_state.specs.Recovering.{fired_by, loss_time}
use Rattle.qc_state.specs.Stopping.{given_after, killed_after}
use Rattle.qc_state.specs.Timeouts.{loss_expired, idle_expired, close_expired, keys_expired, pacing_expired, ids_expired, ack_expired, timeout_after, wanted_anew}
use Rattle.qc_state.specs.Timers.{has_come, timers_discarded, timers_outlived, timers_paced, timers_released, timers_stopped}
use Rattle.qc_state.specs.declared.timers.Timers.{Timers}
use Rattle.qc_state.specs.Types.{Types, Meaning}
use Rattle.qc_state.specs.View.{At}
use Rattle.qc_state.proofs.Telling.{low_rank, is_none_none}

-- the moves that timers make
abbrev pub IsTimed : {t : Types} → Move t → Type 0
IsTimed (Fire r) = Unit {0}
IsTimed (Arm at) = Unit {0}
IsTimed Discard = Unit {0}
IsTimed Pace = Unit {0}
IsTimed Release = Unit {0}
IsTimed Outlive = Unit {0}
IsTimed (Want time count) = Unit {0}
IsTimed (Raise to) = to ≡ Drained
IsTimed (Give why) = why ≡ TimedOut
IsTimed _ = ⊥

module _ {t : Types} where
  -- a connection that was ended has no timer left
  killed_stops : (why : ConnectionError) (time : ℕ) (a : At t) (b : Bool) → let c : At t = move_to (Raise Drained) a in has_come (if b then move_to (Give why) c else c).state.timers.close time ≡ false
  unfolding move_to state_move timers_move timers_stopped
  killed_stops why time a true = refl
  killed_stops why time a false = refl

  -- the loss timer leaves the life
  fired_life : (time : ℕ) (r : FiredAfter t.C) (a : At t) (b : Bool) → is_drained (if b then armed_after time (move_to (Fire r) a) else a).state.life.state ≡ is_drained a.state.life.state
  unfolding armed_after armed_with move_to state_move life_move
  fired_life time r a true = refl
  fired_life time r a false = refl

  -- what the last four timers do
  abbrev late : (time : ℕ) → At t → At t
  late time a = ack_expired time (ids_expired time (pacing_expired time (keys_expired time a)))

-- those beside the firing of the loss timer
abbrev pub IsExpiry : {t : Types} → Move t → Type 0
IsExpiry (Fire r) = ⊥
IsExpiry x = IsTimed x

expiry_timed : {t : Types} (x : Move t) → IsExpiry x → IsTimed x
expiry_timed (Fire r) h = absurd h
expiry_timed _ h = h

-- what holds of no move, of two moves one after the other, of the firing of the loss timer with what recovery makes of it, and of each
-- other move that a timer makes, where it may be made, holds of a timeout
module _ {t : Types} (m : Meaning t) (R : At t → At t → Type 0) (here : (a : At t) → R a a) (next : (a b c : At t) → R a b → R b c → R a c)
    (fire : (time : ℕ) (a : At t) → R a (move_to (Fire (fired_by m time a.state)) a))
    (move : (x : Move t) → IsExpiry x → (a : At t) → MayMove x a.state → R a (move_to x a)) where
  fired_and : (time : ℕ) (a : At t) (b : Bool) → R a (if b then armed_after time (move_to (Fire (fired_by m time a.state)) a) else a)
  unfolding armed_after armed_with MayMove
  fired_and time a true =
      let b : At t = move_to (Fire (fired_by m time a.state)) a in
      next a b _ (fire time a) (move (Arm (loss_time b.state (is_blocked b.state.paths) time)) tt b (record { blocked = is_blocked b.state.paths; time = time; set = refl }))
  fired_and time a false = here a

  given_by : (a : At t) (b : Bool) → is_none a.state.life.reason ≡ b → R a (if b then move_to (Give TimedOut) a else a)
  unfolding MayMove
  given_by a true h = move (Give TimedOut) refl a (is_none_none a.state.life.reason h)
  given_by a false h = here a

  -- the connection ends at once
  holds_killed : (a : At t) → is_drained a.state.life.state ≡ false → R a (killed_after TimedOut a)
  unfolding killed_after given_after MayMove
  holds_killed a h = next a (move_to (Raise Drained) a) _ (move (Raise Drained) refl a (low_rank a.state.life.state h)) (given_by (move_to (Raise Drained) a) _ refl)

  -- or once it has waited for its peer
  raised_by : (a : At t) (b : Bool) → is_drained a.state.life.state ≡ false → R a (if b then move_to (Raise Drained) a else a)
  unfolding MayMove
  raised_by a true h = move (Raise Drained) refl a (low_rank a.state.life.state h)
  raised_by a false h = here a

  -- behind the end for want of a sign nothing is left to come
  ended_by : (time : ℕ) (a : At t) (b : Bool) → is_drained a.state.life.state ≡ false → R a (close_expired time (if b then killed_after TimedOut a else a))
  unfolding close_expired killed_after given_after
  ended_by time a true h =
      let c : At t = killed_after TimedOut a in
      subst (λ (x : Bool). R a (if x then move_to (Raise Drained) c else c)) (sym (killed_stops TimedOut time a (is_none (move_to (Raise Drained) a).state.life.reason))) (holds_killed a h)
  ended_by time a false h = raised_by a (has_come a.state.timers.close time) h

  -- keys of the epoch before are dropped
  dropped_by : (a : At t) (b : Bool) → R a (if b then move_to Discard a else a)
  unfolding MayMove
  dropped_by a true = move Discard tt a tt
  dropped_by a false = here a

  -- a datagram that was held back may go
  paced_by : (a : At t) (b : Bool) → R a (if b then move_to Pace a else a)
  unfolding MayMove
  paced_by a true = move Pace tt a tt
  paced_by a false = here a

  -- an ACK that was held back is owed
  released_by : (a : At t) (b : Bool) → R a (if b then move_to Release a else a)
  unfolding MayMove
  released_by a true = move Release tt a tt
  released_by a false = here a

  -- others are wanted in the place of ids that have grown old
  asked_by : (time count : ℕ) (a : At t) (b : Bool) → R a (if b then move_to (Want time count) a else a)
  unfolding MayMove
  asked_by time count a true = move (Want time count) tt a tt
  asked_by time count a false = here a

  outlived_by : (time : ℕ) (a : At t) (b : Bool) → R a (if b then wanted_anew time (asks_anew a.state.lower.ids) (move_to Outlive a) else a)
  unfolding MayMove
  outlived_by time a true =
      let b : At t = move_to Outlive a in
      next a b _ (move Outlive tt a tt) (asked_by time (asks_anew a.state.lower.ids) b (is_open b.state.life.state))
  outlived_by time a false = here a

  -- what the last four timers do
  late_by : (time : ℕ) (a : At t) → R a (late time a)
  unfolding keys_expired pacing_expired ids_expired ack_expired
  late_by time a =
      let k : At t = keys_expired time a in
      let b : At t = pacing_expired time k in
      let c : At t = ids_expired time b in
      next a k _ (dropped_by a (has_come a.state.timers.key_discard time))
      (next k b _ (paced_by k (has_come k.state.timers.pacing time))
      (next b c _ (outlived_by time b (has_come b.state.timers.push_new_cid time)) (released_by c (has_come c.state.timers.max_ack_delay time))))

  alive_by : (time : ℕ) (a : At t) (b : Bool) → is_drained a.state.life.state ≡ b → R a (if b then a else late time (close_expired time (idle_expired time (loss_expired m time a))))
  unfolding loss_expired idle_expired
  alive_by time a true h = here a
  alive_by time a false h =
      let c : At t = loss_expired m time a in
      let d : At t = close_expired time (idle_expired time c) in
      let r : FiredAfter t.C = fired_by m time a.state in
      next a c _ (fired_and time a (has_come a.state.timers.loss_detection time))
      (next c d _ (ended_by time c (has_come c.state.timers.idle time) (fired_life time r a (has_come a.state.timers.loss_detection time) ∙ h)) (late_by time d))

  pub holds_expired : (time : ℕ) (a : At t) → R a (timeout_after m time a)
  unfolding timeout_after
  holds_expired time a = alive_by time a _ refl

-- and where it holds of each firing, whatever it leaves
module _ {t : Types} (R : At t → At t → Type 0) (here : (a : At t) → R a a) (next : (a b c : At t) → R a b → R b c → R a c)
    (move : (x : Move t) → IsTimed x → (a : At t) → MayMove x a.state → R a (move_to x a)) where
  pub holds_timeout : (m : Meaning t) (time : ℕ) (a : At t) → R a (timeout_after m time a)
  unfolding MayMove
  holds_timeout m time a =
      holds_expired m R here next (λ at_time b. move (Fire (fired_by m at_time b.state)) tt b tt) (λ x e b may. move x (expiry_timed x e) b may) time a

-- behind a timeout none of the other timers is left having come
module _ {t : Types} where
  raised_idle : (time : ℕ) (a : At t) (b : Bool) → has_come a.state.timers.idle time ≡ false → has_come (if b then move_to (Raise Drained) a else a).state.timers.idle time ≡ false
  unfolding move_to state_move timers_move timers_stopped
  raised_idle time a true h = refl
  raised_idle time a false h = h

  raised_close : (time : ℕ) (a : At t) (b : Bool) → has_come a.state.timers.close time ≡ b → has_come (if b then move_to (Raise Drained) a else a).state.timers.close time ≡ false
  unfolding move_to state_move timers_move timers_stopped
  raised_close time a true h = refl
  raised_close time a false h = h

  -- where the connection was ended, none is left at all
  killed_idle : (why : ConnectionError) (time : ℕ) (a : At t) (b : Bool) → let c : At t = move_to (Raise Drained) a in has_come (if b then move_to (Give why) c else c).state.timers.idle time ≡ false
  unfolding move_to state_move timers_move timers_stopped
  killed_idle why time a true = refl
  killed_idle why time a false = refl

  ended_idle : (time : ℕ) (a : At t) (b : Bool) → has_come a.state.timers.idle time ≡ b → has_come (close_expired time (if b then killed_after TimedOut a else a)).state.timers.idle time ≡ false
  unfolding close_expired killed_after given_after
  ended_idle time a true h =
      let c : At t = killed_after TimedOut a in
      raised_idle time c (has_come c.state.timers.close time) (killed_idle TimedOut time a (is_none (move_to (Raise Drained) a).state.life.reason))
  ended_idle time a false h = raised_idle time a (has_come a.state.timers.close time) h

  ended_close : (time : ℕ) (a : At t) → has_come (close_expired time a).state.timers.close time ≡ false
  unfolding close_expired
  ended_close time a = raised_close time a (has_come a.state.timers.close time) refl

  -- ids that are wanted leave the timers
  wanted_left : (time count : ℕ) (a : At t) (b : Bool) → (if b then move_to (Want time count) a else a).state.timers ≡ a.state.timers
  unfolding move_to state_move timers_move
  wanted_left time count a true = refl
  wanted_left time count a false = refl

  -- keys that are dropped, the pacer, ids that have grown old, and an ACK that is owed at last, leave the timers before them
  dropped_left : (f : Timers → Option ℕ) → ((v : Timers) → f (timers_discarded v) ≡ f v) → (a : At t) (b : Bool) → f (if b then move_to Discard a else a).state.timers ≡ f a.state.timers
  unfolding move_to state_move timers_move
  dropped_left f same a true = same a.state.timers
  dropped_left f same a false = refl

  paced_left : (f : Timers → Option ℕ) → ((v : Timers) → f (timers_paced v) ≡ f v) → (a : At t) (b : Bool) → f (if b then move_to Pace a else a).state.timers ≡ f a.state.timers
  unfolding move_to state_move timers_move
  paced_left f same a true = same a.state.timers
  paced_left f same a false = refl

  outlived_left : (f : Timers → Option ℕ) → ((v : Timers) → f (timers_outlived v) ≡ f v) → (time count : ℕ) (a : At t) (b : Bool) → f (if b then wanted_anew time count (move_to Outlive a) else a).state.timers ≡ f a.state.timers
  unfolding move_to state_move timers_move
  outlived_left f same time count a true = ap f (wanted_left time count (move_to Outlive a) (is_open (move_to Outlive a).state.life.state)) ∙ same a.state.timers
  outlived_left f same time count a false = refl

  released_left : (f : Timers → Option ℕ) → ((v : Timers) → f (timers_released v) ≡ f v) → (a : At t) (b : Bool) → f (if b then move_to Release a else a).state.timers ≡ f a.state.timers
  unfolding move_to state_move timers_move
  released_left f same a true = same a.state.timers
  released_left f same a false = refl

  -- the last two, the last three, and all four
  last_left : (f : Timers → Option ℕ) → ((v : Timers) → f (timers_outlived v) ≡ f v) → ((v : Timers) → f (timers_released v) ≡ f v) → (time : ℕ) (a : At t) → f (ack_expired time (ids_expired time a)).state.timers ≡ f a.state.timers
  unfolding ids_expired ack_expired
  last_left f outlived released time a =
      let b : At t = ids_expired time a in
      released_left f released b (has_come b.state.timers.max_ack_delay time) ∙ outlived_left f outlived time (asks_anew a.state.lower.ids) a (has_come a.state.timers.push_new_cid time)

  pacing_on : (f : Timers → Option ℕ) → ((v : Timers) → f (timers_paced v) ≡ f v) → ((v : Timers) → f (timers_outlived v) ≡ f v) → ((v : Timers) → f (timers_released v) ≡ f v) → (time : ℕ) (a : At t) →
      f (ack_expired time (ids_expired time (pacing_expired time a))).state.timers ≡ f a.state.timers
  unfolding pacing_expired
  pacing_on f paced outlived released time a = last_left f outlived released time (pacing_expired time a) ∙ paced_left f paced a (has_come a.state.timers.pacing time)

  late_left : (f : Timers → Option ℕ) → ((v : Timers) → f (timers_discarded v) ≡ f v) → ((v : Timers) → f (timers_paced v) ≡ f v) → ((v : Timers) → f (timers_outlived v) ≡ f v) → ((v : Timers) → f (timers_released v) ≡ f v) → (time : ℕ) (a : At t) →
      f (late time a).state.timers ≡ f a.state.timers
  unfolding keys_expired
  late_left f dropped paced outlived released time a = pacing_on f paced outlived released time (keys_expired time a) ∙ dropped_left f dropped a (has_come a.state.timers.key_discard time)

  idle_left : (time : ℕ) (a : At t) → (late time a).state.timers.idle ≡ a.state.timers.idle
  unfolding timers_discarded timers_paced timers_outlived timers_released
  idle_left time a = late_left (λ (v : Timers). v.idle) (λ v. refl) (λ v. refl) (λ v. refl) (λ v. refl) time a

  close_left : (time : ℕ) (a : At t) → (late time a).state.timers.close ≡ a.state.timers.close
  unfolding timers_discarded timers_paced timers_outlived timers_released
  close_left time a = late_left (λ (v : Timers). v.close) (λ v. refl) (λ v. refl) (λ v. refl) (λ v. refl) time a

  -- their own ones are stopped
  dropped_keys : (time : ℕ) (a : At t) (b : Bool) → has_come a.state.timers.key_discard time ≡ b → has_come (if b then move_to Discard a else a).state.timers.key_discard time ≡ false
  unfolding move_to state_move timers_move timers_discarded
  dropped_keys time a true h = refl
  dropped_keys time a false h = h

  keys_left : (time : ℕ) (a : At t) → has_come (late time a).state.timers.key_discard time ≡ false
  unfolding keys_expired timers_paced timers_outlived timers_released
  keys_left time a =
      ap (λ (x : Option ℕ). has_come x time) (pacing_on (λ (v : Timers). v.key_discard) (λ v. refl) (λ v. refl) (λ v. refl) time (keys_expired time a)) ∙ dropped_keys time a (has_come a.state.timers.key_discard time) refl

  paced_pacing : (time : ℕ) (a : At t) (b : Bool) → has_come a.state.timers.pacing time ≡ b → has_come (if b then move_to Pace a else a).state.timers.pacing time ≡ false
  unfolding move_to state_move timers_move timers_paced
  paced_pacing time a true h = refl
  paced_pacing time a false h = h

  pacing_left : (time : ℕ) (a : At t) → has_come (late time a).state.timers.pacing time ≡ false
  unfolding pacing_expired timers_outlived timers_released
  pacing_left time a =
      let k : At t = keys_expired time a in
      ap (λ (x : Option ℕ). has_come x time) (last_left (λ (v : Timers). v.pacing) (λ v. refl) (λ v. refl) time (pacing_expired time k)) ∙ paced_pacing time k (has_come k.state.timers.pacing time) refl

  outlived_cid : (time count : ℕ) (a : At t) (b : Bool) → has_come a.state.timers.push_new_cid time ≡ b → has_come (if b then wanted_anew time count (move_to Outlive a) else a).state.timers.push_new_cid time ≡ false
  unfolding move_to state_move timers_move timers_outlived
  outlived_cid time count a true h = ap (λ (v : Timers). has_come v.push_new_cid time) (wanted_left time count (move_to Outlive a) (is_open (move_to Outlive a).state.life.state))
  outlived_cid time count a false h = h

  cids_left : (time : ℕ) (a : At t) → has_come (ack_expired time (ids_expired time a)).state.timers.push_new_cid time ≡ false
  unfolding ids_expired ack_expired timers_released
  cids_left time a =
      let b : At t = ids_expired time a in
      ap (λ (x : Option ℕ). has_come x time) (released_left (λ (v : Timers). v.push_new_cid) (λ v. refl) b (has_come b.state.timers.max_ack_delay time))
      ∙ outlived_cid time (asks_anew a.state.lower.ids) a (has_come a.state.timers.push_new_cid time) refl

  released_held : (time : ℕ) (a : At t) (b : Bool) → has_come a.state.timers.max_ack_delay time ≡ b → has_come (if b then move_to Release a else a).state.timers.max_ack_delay time ≡ false
  unfolding move_to state_move timers_move timers_released
  released_held time a true h = refl
  released_held time a false h = h

  held_left : (time : ℕ) (a : At t) → has_come (ack_expired time a).state.timers.max_ack_delay time ≡ false
  unfolding ack_expired
  held_left time a = released_held time a (has_come a.state.timers.max_ack_delay time) refl

  -- a timeout of a connection that hasn't ended
  alive_is : (m : Meaning t) (time : ℕ) (a : At t) (b : Bool) → b ≡ false → (if b then a else late time (close_expired time (idle_expired time (loss_expired m time a)))) ≡ late time (close_expired time (idle_expired time (loss_expired m time a)))
  alive_is m time a true alive = cc
  alive_is m time a false alive = refl

  pub timeout_is : (m : Meaning t) (time : ℕ) (a : At t) → is_drained a.state.life.state ≡ false → timeout_after m time a ≡ late time (close_expired time (idle_expired time (loss_expired m time a)))
  unfolding timeout_after
  timeout_is m time a alive = alive_is m time a (is_drained a.state.life.state) alive

  idle_stops : (m : Meaning t) (time : ℕ) (a : At t) → has_come (late time (close_expired time (idle_expired time (loss_expired m time a)))).state.timers.idle time ≡ false
  unfolding idle_expired
  idle_stops m time a =
      let c : At t = loss_expired m time a in
      ap (λ (x : Option ℕ). has_come x time) (idle_left time (close_expired time (idle_expired time c))) ∙ ended_idle time c (has_come c.state.timers.idle time) refl

  pub idle_later : (m : Meaning t) (time : ℕ) (a : At t) → is_drained a.state.life.state ≡ false → has_come (timeout_after m time a).state.timers.idle time ≡ false
  idle_later m time a alive = ap (λ (x : At t). has_come x.state.timers.idle time) (timeout_is m time a alive) ∙ idle_stops m time a

  pub close_later : (m : Meaning t) (time : ℕ) (a : At t) → is_drained a.state.life.state ≡ false → has_come (timeout_after m time a).state.timers.close time ≡ false
  close_later m time a alive =
      let c : At t = idle_expired time (loss_expired m time a) in
      ap (λ (x : At t). has_come x.state.timers.close time) (timeout_is m time a alive) ∙ ap (λ (x : Option ℕ). has_come x time) (close_left time (close_expired time c)) ∙ ended_close time c

  pub paced_later : (m : Meaning t) (time : ℕ) (a : At t) → is_drained a.state.life.state ≡ false → has_come (timeout_after m time a).state.timers.pacing time ≡ false
  paced_later m time a alive =
      ap (λ (x : At t). has_come x.state.timers.pacing time) (timeout_is m time a alive) ∙ pacing_left time (close_expired time (idle_expired time (loss_expired m time a)))

  pub held_later : (m : Meaning t) (time : ℕ) (a : At t) → is_drained a.state.life.state ≡ false → has_come (timeout_after m time a).state.timers.max_ack_delay time ≡ false
  held_later m time a alive =
      ap (λ (x : At t). has_come x.state.timers.max_ack_delay time) (timeout_is m time a alive) ∙ held_left time (ids_expired time (pacing_expired time (keys_expired time (close_expired time (idle_expired time (loss_expired m time a))))))

  pub cids_later : (m : Meaning t) (time : ℕ) (a : At t) → is_drained a.state.life.state ≡ false → has_come (timeout_after m time a).state.timers.push_new_cid time ≡ false
  cids_later m time a alive =
      ap (λ (x : At t). has_come x.state.timers.push_new_cid time) (timeout_is m time a alive) ∙ cids_left time (pacing_expired time (keys_expired time (close_expired time (idle_expired time (loss_expired m time a)))))

  pub keys_later : (m : Meaning t) (time : ℕ) (a : At t) → is_drained a.state.life.state ≡ false → has_come (timeout_after m time a).state.timers.key_discard time ≡ false
  keys_later m time a alive =
      ap (λ (x : At t). has_come x.state.timers.key_discard time) (timeout_is m time a alive) ∙ keys_left time (close_expired time (idle_expired time (loss_expired m time a)))
