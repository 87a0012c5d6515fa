-- The deeds of a run come where they may, and what follows from that.
use Rattle.std.proofs.Common.{◌≡◌, ℕ, ◌+◌, ◌≤◌, List, [], ◌∷◌, length, take, refl, ap, sym, ◌∙◌, subst, Bool, true, false, if◌then◌else◌, arith}
use Rattle.std.specs.Prelude.{option_to_list, max}
use Rattle.qc_base.specs.declared.side.SpaceId.{SpaceId}
use Rattle.qc_base.specs.declared.side.SpaceId.TheVariants.{Initial}
use Rattle.qc_frame.specs.Frame.{FrameValue}
use Rattle.qc_state.specs.declared.form.Form.{Form}
use Rattle.qc_state.specs.declared.deeds.Did.{Did}
use Rattle.qc_state.specs.declared.input.Input.{Input}
use Rattle.qc_state.specs.declared.input.Input.TheVariants as input
use Rattle.qc_state.specs.declared.life.Close.{Close}
use Rattle.qc_state.specs.declared.trace.Step.{Step}
use Rattle.qc_state.specs.Forms.{number_space}
use Rattle.qc_state.specs.Headline as headline
use Rattle.qc_state.specs.Headline.{deeds_of, reasons_in, lives_in, entered_in, EachNew, CloseFrom, RisesFrom, Kernel, IsBehind, Tells, EachRises, EachAdmitted, LifeRises, OnlyCloses, LosesOnce}
use Rattle.qc_state.specs.Life.{rank_of, is_open, ready_reported, connected_reported, lost_reported, notice_reported, notices_reported, drained_reported, all_heard_reported}
use Rattle.qc_state.specs.Moves.{Ask, Take, Seal, Shut, state_move, move_to, MayMove, numbers_move, keys_move, life_move, timers_move, Call, Post, Issue, Update}
use Rattle.qc_state.specs.Numbers.{next_number, came_in}
use Rattle.qc_state.specs.Run.{time_of, began, close_after, input_after, called, reported, step_after, IsAllowed, IsStep, Run, Ran, datagram_limit}
use Rattle.qc_state.specs.Sending.{transmit_after, MayTransmit, packet_size, Choice}
use Rattle.qc_state.specs.Timers.{clock_set}
use Rattle.qc_state.specs.Types.{Types, Meaning}
use Rattle.qc_state.specs.View.{View, At}
use Rattle.qc_state.specs.Updating.{fresh_now}
use Rattle.qc_state.proofs.Updates.{holds_updated}
use Rattle.qc_state.proofs.Telling.{behind_here, tells_append, rises, reasons, lives, closes, admits, one_at_most, open_rank, kernel, Told, told_here, told_next, told_move}
use Rattle.qc_state.proofs.Expired.{holds_timeout}
use Rattle.qc_laws.proofs.ToldReceiving.{told_datagram}
use Rattle.qc_state.proofs.Transmitted.{IsSealable, holds_transmit}
use Rattle.qc_laws.proofs.StreamCalls.{called_input}
use Rattle.qc_datagrams.specs.Steps as datagrams

-- the greater of two times, of which the other isn't less
later_max : (a b : ℕ) → a ≤ b → max a b ≡ b
later_max a b h = omega (arith, h)

module _ {t : Types} where
  -- a packet is taken and sealed
  told_packet : (id : SpaceId) (time : ℕ) (form : Form) (fs : List FrameValue) (a : At t) → IsSealable time a.state form fs →
      Told id a (move_to (Seal time form (next_number a.state.numbers (number_space form)) (packet_size a.state form fs) fs) (move_to (Take (number_space form) fs) a))
  unfolding MayMove move_to state_move numbers_move keys_move life_move
  told_packet id time form fs a may =
      let b : At t = move_to (Take (number_space form) fs) a in
      told_next id a b _ (told_move id (Take (number_space form) fs) a may.takes) (told_move id (Seal time form (next_number a.state.numbers (number_space form)) (packet_size a.state form fs) fs) b (refl, may.closes, may.alive, may.keyed))

  -- a transmit
  pub told_transmit : (id : SpaceId) (m : Meaning t) (time asked : ℕ) (choice : Choice) (a : At t) → MayTransmit m time asked choice a → Told id a (transmit_after m time asked choice a)
  told_transmit id m time asked choice a may =
      holds_transmit (Told id) (told_here id) (told_next id) (λ x sends b h. told_move id x b h)
      (λ at_time space fs b h. told_packet id at_time space fs b h) m time asked choice a may

  closed_by : (id : SpaceId) (time : ℕ) (close : Close) (a : At t) (b : Bool) → is_open a.state.life.state ≡ b → Told id a (if b then move_to (Shut time close) a else a)
  unfolding MayMove
  closed_by id time close a true h = told_move id (Shut time close) a (open_rank a.state.life.state h)
  closed_by id time close a false h = told_here id a

  pub told_input : (id : SpaceId) (m : Meaning t) (i : Input) (choice : Choice) (a : At t) → IsAllowed m i choice a → Told id a (input_after m i choice a)
  unfolding IsAllowed input_after close_after MayMove
  told_input id m (input.Datagram time remote ecn bytes) choice a h = told_datagram id m (record { time = time; remote = remote; mark = ecn }) bytes a
  told_input id m (input.Timeout time) choice a h = holds_timeout (Told id) (told_here id) (told_next id) (λ x timed b may. told_move id x b may) m time a
  told_input id m (input.Transmit time max) choice a h = told_transmit id m time max choice a h
  told_input id m (input.Close time code reason) choice a h = closed_by id time _ a _ refl
  told_input id m (input.Ping time) choice a h = told_move id (Ask a.state.keys.highest) a tt
  told_input id m (input.Update time) choice a h = holds_updated m (Told id) (told_here id) (λ b may. told_move id (Update (fresh_now m b.state) (m.after_next b.state.lower.session)) b may) a
  told_input id m (input.SendDatagram time body) choice a h = told_move id (Post (datagrams.Sent (datagram_limit a.state) true body)) a refl
  told_input id m (input.RecvDatagram time) choice a h = told_move id (Post datagrams.Taken) a refl
  told_input id m (input.Identifiers time given) choice a h = told_move id (Issue time given) a h
  told_input id m i choice a h = called_input (Told id) (told_here id) (told_next id) (λ x b may. told_move id (Call x) b may) i choice.read a h

  step_tells : (id : SpaceId) (m : Meaning t) (k : ℕ) (s : View t) (i : Input) (x : Step) (s' : View t) → IsStep m k s i x s' → Tells id (kernel id s) x.did (kernel id s')
  unfolding called began step_after reported state_move numbers_move life_move ready_reported connected_reported all_heard_reported lost_reported notice_reported notices_reported drained_reported
  step_tells id m k s i x s' h =
      let a : At t = began s (time_of i) in
      let b : At t = input_after m i h.choice a in
      let told : Told id a b = told_input id m i h.choice a h.allowed in
      let deeds : x.did ≡ told.since = h.deeds ∙ told.appended in
      let numbers : s'.numbers ≡ b.state.numbers = h.numbers in
      let reason : s'.life.reason ≡ b.state.life.reason = ap (λ l. l.reason) h.life in
      let rank : rank_of s'.life.state ≡ rank_of b.state.life.state = ap (λ l. rank_of l.state) h.life in
      let end : kernel id b.state ≡ kernel id s' = λ j. record { next = next_number (sym numbers j) id; came = came_in (sym numbers j) id; reason = sym reason j; rank = sym rank j } in
      subst (λ (k' : Kernel). Tells id (kernel id s) x.did k') end (subst (λ (ds : List Did). Tells id (kernel id s) ds (kernel id b.state)) (sym deeds) told.tells)

  -- the clock stands at the input's time after a step
  pub step_time : (m : Meaning t) (k : ℕ) (s : View t) (i : Input) (x : Step) (s' : View t) → IsStep m k s i x s' → s'.timers.greatest ≡ time_of i
  unfolding called began step_after reported state_move timers_move clock_set
  step_time m k s i x s' h =
      ap (λ v. v.greatest) h.timers ∙ (told_input Initial m i h.choice (began s (time_of i)) h.allowed).clock ∙ later_max s.timers.greatest (time_of i) h.forward

  run_tells : (id : SpaceId) (m : Meaning t) (k : ℕ) (s : View t) (is : List Input) (xs : List Step) (s' : View t) → Run m k s is xs s' → Tells id (kernel id s) (deeds_of xs) (kernel id s')
  unfolding Run Tells
  run_tells id m k s [] [] s' r = subst (λ (v : View t). IsBehind (kernel id s) (kernel id v)) (sym r) (behind_here (kernel id s))
  run_tells id m k s (i ∷ is) (x ∷ xs) s' r = tells_append id (kernel id s) (kernel id r.0) (kernel id s') x.did (deeds_of xs) (step_tells id m k s i x r.0 r.1) (run_tells id m (k + 1) r.0 is xs s' r.2)
  run_tells id m k s [] (x ∷ xs) s' r = absurd r
  run_tells id m k s (i ∷ is) [] s' r = absurd r

  -- no packet number is used twice in a run
  pub run_rises : (m : Meaning t) (k : ℕ) (s : View t) (is : List Input) (xs : List Step) (s' : View t) → Run m k s is xs s' → EachRises s xs
  unfolding EachRises
  run_rises m k s is xs s' r = λ id. rises id (kernel id s) (kernel id s') (deeds_of xs) (run_tells id m k s is xs s' r)

  -- no packet number that came counts twice in a run
  pub run_admits : (m : Meaning t) (k : ℕ) (s : View t) (is : List Input) (xs : List Step) (s' : View t) → Run m k s is xs s' → EachAdmitted s xs
  unfolding EachAdmitted
  run_admits m k s is xs s' r = λ id. admits id (kernel id s) (kernel id s') (deeds_of xs) (run_tells id m k s is xs s' r)

  -- the life never falls in a run
  pub run_life_rises : (m : Meaning t) (k : ℕ) (s : View t) (is : List Input) (xs : List Step) (s' : View t) → Run m k s is xs s' → LifeRises s xs
  unfolding LifeRises
  run_life_rises m k s is xs s' r = lives Initial (kernel Initial s) (kernel Initial s') (deeds_of xs) (run_tells Initial m k s is xs s' r)

  -- each packet of a run holds a close, from the rise to Closed on
  pub run_closes : (m : Meaning t) (k : ℕ) (s : View t) (is : List Input) (xs : List Step) (s' : View t) → Run m k s is xs s' → OnlyCloses s xs
  unfolding OnlyCloses
  run_closes m k s is xs s' r = closes Initial (kernel Initial s) (kernel Initial s') (deeds_of xs) (run_tells Initial m k s is xs s' r)

  -- at most one reason is given in a run
  pub run_loses_once : (m : Meaning t) (k : ℕ) (s : View t) (is : List Input) (xs : List Step) (s' : View t) → Run m k s is xs s' → LosesOnce s xs
  unfolding LosesOnce
  run_loses_once m k s is xs s' r = reasons Initial (kernel Initial s) (kernel Initial s') (deeds_of xs) (run_tells Initial m k s is xs s' r)

  -- the same of a run over the first inputs
  pub ran_rises : (m : Meaning t) (k : ℕ) (s : View t) (is : List Input) (xs : List Step) → Ran m k s is xs → EachRises s xs
  ran_rises m k s is xs r = run_rises m k s (take (length xs) is) xs r.last r.run

  pub ran_admits : (m : Meaning t) (k : ℕ) (s : View t) (is : List Input) (xs : List Step) → Ran m k s is xs → EachAdmitted s xs
  ran_admits m k s is xs r = run_admits m k s (take (length xs) is) xs r.last r.run

  pub ran_life_rises : (m : Meaning t) (k : ℕ) (s : View t) (is : List Input) (xs : List Step) → Ran m k s is xs → LifeRises s xs
  ran_life_rises m k s is xs r = run_life_rises m k s (take (length xs) is) xs r.last r.run

  pub ran_closes : (m : Meaning t) (k : ℕ) (s : View t) (is : List Input) (xs : List Step) → Ran m k s is xs → OnlyCloses s xs
  ran_closes m k s is xs r = run_closes m k s (take (length xs) is) xs r.last r.run

  pub ran_loses_once : (m : Meaning t) (k : ℕ) (s : View t) (is : List Input) (xs : List Step) → Ran m k s is xs → LosesOnce s xs
  ran_loses_once m k s is xs r = run_loses_once m k s (take (length xs) is) xs r.last r.run

  -- the empty trace
  pub none_rises : (s : View t) (xs : List Step) → xs ≡ [] → EachRises s xs
  unfolding EachRises
  none_rises s xs e = subst (λ (ys : List Step). (id : SpaceId) → RisesFrom (next_number s.numbers id) (headline.sealed_in id (deeds_of ys))) (sym e) (λ id. tt)

  pub none_admits : (s : View t) (xs : List Step) → xs ≡ [] → EachAdmitted s xs
  unfolding EachAdmitted
  none_admits s xs e = subst (λ (ys : List Step). (id : SpaceId) → EachNew (came_in s.numbers id) (entered_in id (deeds_of ys))) (sym e) (λ id. tt)

  pub none_life_rises : (s : View t) (xs : List Step) → xs ≡ [] → LifeRises s xs
  unfolding LifeRises
  none_life_rises s xs e = subst (λ (ys : List Step). RisesFrom (rank_of s.life.state + 1) (lives_in (deeds_of ys))) (sym e) tt

  pub none_closes : (s : View t) (xs : List Step) → xs ≡ [] → OnlyCloses s xs
  unfolding OnlyCloses
  none_closes s xs e = subst (λ (ys : List Step). CloseFrom (rank_of s.life.state) (deeds_of ys)) (sym e) tt

  pub none_loses_once : (s : View t) (xs : List Step) → xs ≡ [] → LosesOnce s xs
  unfolding LosesOnce
  none_loses_once s xs e = subst (λ (ys : List Step). length (option_to_list s.life.reason) + length (reasons_in (deeds_of ys)) ≤ 1) (sym e) (one_at_most s.life.reason)
