-- Over a run recovery's state is the fold of its own steps; so each packet is settled once.
use Rattle.std.proofs.Common.{◌≡◌, ℕ, ◌+◌, List, [], ◌∷◌, ◌++◌, refl, ap, sym, ◌∙◌, subst, append_assoc, append-nil}
use Rattle.std.specs.Prelude.{IsPermutation}
use Rattle.std.proofs.lemmas.List.Sorted.{IsPermutation-refl}
use Rattle.qc_base.specs.declared.side.SpaceId.{SpaceId}
use Rattle.qc_flight.specs.Packets.{Entry}
use Rattle.qc_path.specs.declared.controller.Controller.{Ghosts as Control}
use Rattle.qc_recovery.specs.Frames.{ranges_up_of, values_of}
use Rattle.qc_recovery.specs.Runs.{AreSettledOnce, Acknowledge, Discard, Fates, Send, call_after, fates_after, fired_lost, in_space}
use Rattle.qc_recovery.specs.Runs as runs
use Rattle.qc_recovery.specs.Steps.{After, FiredAfter}
use Rattle.qc_recovery.specs.Steps as recovery
use Rattle.qc_recovery.specs.declared.recovery.Recovery.{Recovery}
use Rattle.qc_recovery.proofs.RunsSettle.{calls_settle}
use Rattle.qc_state.specs.declared.deeds.Did.{Did}
use Rattle.qc_state.specs.declared.input.Input.{Input}
use Rattle.qc_state.specs.declared.trace.Step.{Step}
use Rattle.qc_state.specs.Headline.{deeds_of}
use Rattle.qc_state.specs.Lower.{datagrams_stepped, events_told, frames_sealed, ids_stepped, streams_stepped}
use Rattle.qc_state.specs.Moves.{lower_move, paths_move, state_move}
use Rattle.qc_state.specs.Run.{IsStep, Run, began, called, input_after, reported, time_of}
use Rattle.qc_state.specs.Run as run
use Rattle.qc_state.specs.Types.{Types, Meaning}
use Rattle.qc_state.specs.View.{View, At}
use Rattle.qc_laws.specs.EndLaws.{Ends}
use Rattle.qc_laws.specs.RecoveryLaws.{AllMay, Capped, Dropped, EachSettlesOnce, Fired, Kept, MayStep, Probed, RecoveryStep, Recovers, Sent, Settled, Spent, Told, kept, sent_in, step_after, steps_after}
use Rattle.qc_laws.proofs.EndsHold.{began_ends, step_ends}
use Rattle.qc_laws.proofs.RecoveryFold.{Covers, covers_next, covers_same, fold_from, input_part, kept_same, recovers_by}

module _ {t : Types} where
  -- nothing else is asked
  abbrev Nothing : List Did → List (RecoveryStep t.C) → View t → View t → Type 0
  Nothing ds xs s s' = Unit {0}

  step_covers : (m : Meaning t) (k : ℕ) (s : View t) (i : Input) (x : Step) (s' : View t) → IsStep m k s i x s' → Ends s → Covers m x.did s s'
  unfolding called began run.step_after reported state_move lower_move paths_move events_told streams_stepped datagrams_stepped frames_sealed ids_stepped
  step_covers m k s i x s' h ends =
      let a : At t = began s (time_of i) in
      let both = input_part m Nothing (λ y. Unit {0}) (λ y u. tt) (λ v. tt) (λ ds es xs ys u v w g j. tt) (λ y v known p unacked may. tt) (λ time space ack v. tt) (λ time form fs v may e. tt) (λ y. tt) i h.choice a h.allowed
      (began_ends s (time_of i) ends) in
      let part = both.1 in
      let b : At t = input_after m i h.choice a in
      subst (λ (ds : List Did). Covers m ds s s') (sym (h.deeds ∙ part.appended))
      (record { steps = part.steps; fold = fold_from m part.since part.steps s a.state b.state s' refl (kept_same s' (run.step_after m s i h.choice) h.lower h.paths) part.fold; hears = part.hears })

  run_covers : (m : Meaning t) (k : ℕ) (s : View t) (is : List Input) (xs : List Step) (s' : View t) → Run m k s is xs s' → Ends s → Covers m (deeds_of xs) s s'
  unfolding Run
  run_covers m k s [] [] s' r ends = covers_same m s s' (ap (λ (v : View t). kept v) r)
  run_covers m k s (i ∷ is) (x ∷ xs) s' r ends =
      covers_next m x.did (deeds_of xs) s r.0 s' (step_covers m k s i x r.0 r.1 ends) (run_covers m (k + 1) r.0 is xs s' r.2 (step_ends m k s i x r.0 r.1 ends))
  run_covers m k s [] (x ∷ xs) s' r ends = absurd r
  run_covers m k s (i ∷ is) [] s' r ends = absurd r

  -- over a run recovery is the fold of its steps
  pub run_recovers : (m : Meaning t) (k : ℕ) (s : View t) (is : List Input) (xs : List Step) (s' : View t) → Run m k s is xs s' → Ends s → Recovers m (deeds_of xs) s s'
  run_recovers m k s is xs s' r ends = recovers_by m (deeds_of xs) s s' (run_covers m k s is xs s' r ends)

-- ---- what becomes of packets

-- what is in flight
in_flight : (id : SpaceId) (r : Recovery) → AreSettledOnce id r (record { sent = (recovery.space_of id r).flight; acked = []; lost = []; dropped = [] })
unfolding AreSettledOnce
in_flight id r = IsPermutation-refl (recovery.space_of id r).flight

settled_once : (id : SpaceId) (r : Recovery) (f : Fates) (sent : List Entry) → f.sent ≡ sent → AreSettledOnce id r f → IsPermutation sent (f.acked ++ (f.lost ++ (f.dropped ++ (recovery.space_of id r).flight)))
unfolding AreSettledOnce
settled_once id r f sent is h = subst (λ (es : List Entry). IsPermutation es (f.acked ++ (f.lost ++ (f.dropped ++ (recovery.space_of id r).flight)))) is h

module _ {C : Type 0} where
  -- what a step says of the packets of a space
  abbrev step_fates : SpaceId → RecoveryStep C → Kept C → Fates → Fates
  step_fates id (Sent space number packet) k f = record f { sent = f.sent ++ in_space id space ((number, packet) ∷ []) }
  step_fates id (Settled space ack after) k f = record f { acked = f.acked ++ in_space id space after.acked; lost = f.lost ++ in_space id space after.lost }
  step_fates id (Fired after) k f = record f { lost = f.lost ++ fired_lost id after.fired }
  step_fates id (Dropped space) k f = record f { dropped = f.dropped ++ in_space id space (recovery.space_of space k.recovery).flight }
  step_fates id (Spent tokens) k f = f
  step_fates id (Told control) k f = f
  step_fates id (Capped size) k f = f
  step_fates id (Probed time n) k f = f

  abbrev steps_fates : SpaceId → List (RecoveryStep C) → Kept C → Fates → Fates
  steps_fates id [] k f = f
  steps_fates id (x ∷ xs) k f = steps_fates id xs (step_after x k) (step_fates id x k f)

  -- a step is a call of recovery's
  step_settles : (m : Control C) (id : SpaceId) (x : RecoveryStep C) (k : Kept C) (f : Fates) → MayStep m x k → AreSettledOnce id k.recovery f → AreSettledOnce id (step_after x k).recovery (step_fates id x k f)
  unfolding step_after call_after fates_after
  step_settles m id (Sent space number packet) k f may h = calls_settle m id (Send space number packet ∷ []) k.recovery f h
  step_settles m id (Settled space ack after) k f may h =
      subst (λ (a : After C). AreSettledOnce id a.recovery (record f { acked = f.acked ++ in_space id space a.acked; lost = f.lost ++ in_space id space a.lost })) (sym may.is)
      (calls_settle m id (Acknowledge may.now space may.next may.began (values_of ack) (ranges_up_of ack) may.around k.path ∷ []) k.recovery f h)
  step_settles m id (Fired after) k f may h =
      subst (λ (a : FiredAfter C). AreSettledOnce id a.recovery (record f { lost = f.lost ++ fired_lost id a.fired })) (sym may.is)
      (calls_settle m id (runs.Fire may.now may.around k.path ∷ []) k.recovery f h)
  step_settles m id (Dropped space) k f may h = calls_settle m id (Discard space ∷ []) k.recovery f h
  step_settles m id (Spent tokens) k f may h = h
  step_settles m id (Told control) k f may h = h
  step_settles m id (Capped size) k f may h = h
  step_settles m id (Probed time n) k f may h = h

  steps_settle : (m : Control C) (id : SpaceId) (xs : List (RecoveryStep C)) (k : Kept C) (f : Fates) → AllMay m xs k → AreSettledOnce id k.recovery f → AreSettledOnce id (steps_after xs k).recovery (steps_fates id xs k f)
  steps_settle m id [] k f may h = h
  steps_settle m id (x ∷ xs) k f may h = steps_settle m id xs (step_after x k) (step_fates id x k f) may.1 (step_settles m id x k f may.0 h)

  -- what was sent is what the steps put in flight
  fates_sent : (id : SpaceId) (xs : List (RecoveryStep C)) (k : Kept C) (f : Fates) → (steps_fates id xs k f).sent ≡ f.sent ++ sent_in id xs
  fates_sent id [] k f = sym (append-nil f.sent)
  fates_sent id (Sent space number packet ∷ xs) k f =
      fates_sent id xs (step_after (Sent space number packet) k) (step_fates id (Sent space number packet) k f) ∙ append_assoc f.sent (in_space id space ((number, packet) ∷ [])) (sent_in id xs)
  fates_sent id (Settled space ack after ∷ xs) k f = fates_sent id xs (step_after (Settled space ack after) k) (step_fates id (Settled space ack after) k f)
  fates_sent id (Fired after ∷ xs) k f = fates_sent id xs (step_after (Fired after) k) (step_fates id (Fired after) k f)
  fates_sent id (Dropped space ∷ xs) k f = fates_sent id xs (step_after (Dropped space) k) (step_fates id (Dropped space) k f)
  fates_sent id (Spent tokens ∷ xs) k f = fates_sent id xs (step_after (Spent tokens) k) f
  fates_sent id (Told control ∷ xs) k f = fates_sent id xs (step_after (Told control) k) f
  fates_sent id (Capped size ∷ xs) k f = fates_sent id xs (step_after (Capped size) k) f
  fates_sent id (Probed time n ∷ xs) k f = fates_sent id xs (step_after (Probed time n) k) f

module _ {t : Types} where
  -- each packet is settled once
  recovers_settle : (m : Meaning t) (ds : List Did) (s s' : View t) → Recovers m ds s s' → EachSettlesOnce ds s s'
  unfolding EachSettlesOnce
  recovers_settle m ds s s' h = λ id.
      let flight : List Entry = (recovery.space_of id s.lower.recovery).flight in
      let start : Fates = record { sent = flight; acked = []; lost = []; dropped = [] } in
      let end : Fates = steps_fates id h.steps (kept s) start in
      let once : IsPermutation (flight ++ sent_in id h.steps) (end.acked ++ (end.lost ++ (end.dropped ++ (recovery.space_of id (steps_after h.steps (kept s)).recovery).flight))) =
      settled_once id _ end _ (fates_sent id h.steps (kept s) start) (steps_settle m.control id h.steps (kept s) start h.may (in_flight id s.lower.recovery)) in
      record {
        sealed = sent_in id h.steps;
        acked = end.acked;
        lost = end.lost;
        dropped = end.dropped;
        flown = h.sent id;
        once = subst (λ (k : Kept t.C). IsPermutation (flight ++ sent_in id h.steps) (end.acked ++ (end.lost ++ (end.dropped ++ (recovery.space_of id k.recovery).flight)))) (sym h.leads) once;
      }

  pub run_settles_once : (m : Meaning t) (k : ℕ) (s : View t) (is : List Input) (xs : List Step) (s' : View t) → Run m k s is xs s' → Ends s → EachSettlesOnce (deeds_of xs) s s'
  run_settles_once m k s is xs s' r ends = recovers_settle m (deeds_of xs) s s' (run_recovers m k s is xs s' r ends)
