-- The peer's ids over any steps are their queue over the calls that the steps are
use Rattle.std.proofs.Common.{◌≡◌, ℕ, ◌≤◌, Bool, true, false, List, [], ◌∷◌, ◌++◌, Contains, length, refl, sym, ap, ◌∙◌, if◌then◌else◌, is_some}
use Rattle.qc_cids.specs.declared.connection_ids.ConnectionIds.{ConnectionIds}
use Rattle.qc_cids.specs.Cids.{asked_more, asks_one, first_ids, new_refusal}
use Rattle.qc_cids.specs.Laws.{FoldsQueue, HasFrames, IsFrame, KeepsAtMostFive, RetiresEachOnce, SendsToGiven, calls_of_step, given_by, given_to, queue_calls}
use Rattle.qc_cids.specs.Steps.{Step, NewCame, Switched, Renamed, Preferred, RetireCame, Asked, Given, Expired, TellSealed, RetireSealed, TellLost, RetireLost, after, after_step, new_taken}
use Rattle.qc_frame.specs.declared.frames.NewConnectionId.{NewConnectionId}
use Rattle.qc_ids.specs.declared.cid_queue.KeptCid.{KeptCid}
use Rattle.qc_ids.specs.CidQueue.{active_of, active_seq_of, first_cid}
use Rattle.qc_ids.specs.LocalCids.{LocalCids, may_retire, retired}
use Rattle.qc_ids.specs.Numbers.{Rises}
use Rattle.qc_ids.specs.QueueLaws.{AreFrames, Insert, KeepsFive, Next, QueueCall, Rename, RetiresOnce, UsesGiven, given_in, queue_after, queue_run, retired_in}
use Rattle.qc_ids.proofs.QueueLaws.{keeps_five, retires_once, uses_given}

-- ---- one step

refused_or : (b : Bool) (new : NewConnectionId) (s : ConnectionIds)
    → (if b then s else new_taken new s).remote ≡ queue_run (if b then [] else Insert new ∷ []) s.remote
unfolding new_taken
refused_or true new s = refl
refused_or false new s = refl

retire_keeps : (b : Bool) (n : ℕ) (s : ConnectionIds) (count : ℕ)
    → (if b then asked_more count (record s { local = retired n s.local }) else s).remote ≡ s.remote
unfolding asked_more
retire_keeps true n s count = refl
retire_keeps false n s count = refl

fold_step : (x : Step) (s : ConnectionIds) → (after_step x s).remote ≡ queue_run (calls_of_step x s) s.remote
unfolding after_step asked_more queue_after
fold_step (NewCame new) s = refused_or (is_some (new_refusal new s.remote)) new s
fold_step Switched s = refl
fold_step (Renamed id) s = refl
fold_step (Preferred new) s = refl
fold_step (RetireCame limit n) s = retire_keeps (may_retire n s.local) n s (if asks_one limit n s then 1 else 0)
fold_step (Asked n) s = refl
fold_step (Given ids time) s = refl
fold_step Expired s = refl
fold_step (TellSealed n) s = refl
fold_step (RetireSealed n) s = refl
fold_step (TellLost c) s = refl
fold_step (RetireLost n) s = refl

-- ---- any steps

run_append : (xs ys : List QueueCall) (ids : List KeptCid) → queue_run (xs ++ ys) ids ≡ queue_run ys (queue_run xs ids)
run_append [] ys ids = refl
run_append (x ∷ xs) ys ids = run_append xs ys (queue_after x ids)

pub folds_queue : (xs : List Step) (s : ConnectionIds) → FoldsQueue xs s
unfolding FoldsQueue after queue_calls
folds_queue [] s = refl
folds_queue (x ∷ xs) s =
    folds_queue xs (after_step x s) ∙ (ap (queue_run (queue_calls xs (after_step x s))) (fold_step x s)
    ∙ sym (run_append (calls_of_step x s) (queue_calls xs (after_step x s)) s.remote))

-- the queue that steps leave, from the first one
from_first : (remote : List ℕ) (local : LocalCids) (xs : List Step)
    → (after xs (first_ids remote local)).remote ≡ queue_run (queue_calls xs (first_ids remote local)) (first_cid remote)
unfolding first_ids FoldsQueue
from_first remote local xs = folds_queue xs (first_ids remote local)

-- ---- what is given

given_append : (xs ys : List QueueCall) → given_in (xs ++ ys) ≡ given_in xs ++ given_in ys
given_append [] ys = refl
given_append (Insert new ∷ xs) ys = ap (λ ids. new.id ∷ ids) (given_append xs ys)
given_append (Next ∷ xs) ys = given_append xs ys
given_append (Rename id ∷ xs) ys = ap (λ ids. id ∷ ids) (given_append xs ys)

given_or : (b : Bool) (new : NewConnectionId) → given_in (if b then [] else Insert new ∷ []) ≡ (if b then [] else new.id ∷ [])
given_or true new = refl
given_or false new = refl

given_step : (x : Step) (s : ConnectionIds) → given_in (calls_of_step x s) ≡ given_by x s
given_step (NewCame new) s = given_or (is_some (new_refusal new s.remote)) new
given_step Switched s = refl
given_step (Renamed id) s = refl
given_step (Preferred new) s = refl
given_step (RetireCame limit n) s = refl
given_step (Asked n) s = refl
given_step (Given ids time) s = refl
given_step Expired s = refl
given_step (TellSealed n) s = refl
given_step (RetireSealed n) s = refl
given_step (TellLost c) s = refl
given_step (RetireLost n) s = refl

given_steps : (xs : List Step) (s : ConnectionIds) → given_in (queue_calls xs s) ≡ given_to xs s
unfolding queue_calls
given_steps [] s = refl
given_steps (x ∷ xs) s =
    given_append (calls_of_step x s) (queue_calls xs (after_step x s))
    ∙ rw (given_step x s, given_steps xs (after_step x s)) refl

-- ---- frames

frames_append : (xs ys : List QueueCall) → AreFrames xs → AreFrames ys → AreFrames (xs ++ ys)
frames_append [] ys a b = b
frames_append (Insert new ∷ xs) ys a b = (a.0, frames_append xs ys a.1 b)
frames_append (Next ∷ xs) ys a b = frames_append xs ys a b
frames_append (Rename id ∷ xs) ys a b = frames_append xs ys a b

frame_or : (b : Bool) (new : NewConnectionId) → new.retire_prior_to ≤ new.sequence → AreFrames (if b then [] else Insert new ∷ [])
frame_or true new h = tt
frame_or false new h = (h, tt)

frames_step : (x : Step) (s : ConnectionIds) → IsFrame x → AreFrames (calls_of_step x s)
frames_step (NewCame new) s h = frame_or (is_some (new_refusal new s.remote)) new h
frames_step Switched s h = tt
frames_step (Renamed id) s h = tt
frames_step (Preferred new) s h = (h, tt)
frames_step (RetireCame limit n) s h = tt
frames_step (Asked n) s h = tt
frames_step (Given ids time) s h = tt
frames_step Expired s h = tt
frames_step (TellSealed n) s h = tt
frames_step (RetireSealed n) s h = tt
frames_step (TellLost c) s h = tt
frames_step (RetireLost n) s h = tt

frames_steps : (xs : List Step) (s : ConnectionIds) → HasFrames xs → AreFrames (queue_calls xs s)
unfolding queue_calls
frames_steps [] s h = tt
frames_steps (x ∷ xs) s h =
    frames_append (calls_of_step x s) (queue_calls xs (after_step x s)) (frames_step x s h.0) (frames_steps xs (after_step x s) h.1)

-- ---- the laws

use_given : (first : List ℕ) (calls : List QueueCall) → Contains (first ∷ given_in calls) (active_of (queue_run calls (first_cid first)))
unfolding UsesGiven
use_given first calls = uses_given first calls

pub sends_to_given : (remote : List ℕ) (local : LocalCids) (xs : List Step) → SendsToGiven remote local xs
unfolding SendsToGiven
sends_to_given remote local xs =
    rw (from_first remote local xs, ← given_steps xs (first_ids remote local)) (use_given remote (queue_calls xs (first_ids remote local)))

keep_five : (first : List ℕ) (calls : List QueueCall) → AreFrames calls → length (queue_run calls (first_cid first)) ≤ 5
unfolding KeepsFive
keep_five first calls f = keeps_five first calls f

pub keeps_at_most_five : (remote : List ℕ) (local : LocalCids) (xs : List Step) → HasFrames xs → KeepsAtMostFive remote local xs
unfolding KeepsAtMostFive
keeps_at_most_five remote local xs f =
    rw (from_first remote local xs) (keep_five remote (queue_calls xs (first_ids remote local)) (frames_steps xs (first_ids remote local) f))

retire_once : (first : List ℕ) (calls : List QueueCall) → AreFrames calls
    → Rises 0 (active_seq_of (queue_run calls (first_cid first))) (retired_in calls (first_cid first))
unfolding RetiresOnce
retire_once first calls f = retires_once first calls f

first_remote : (remote : List ℕ) (local : LocalCids) → (first_ids remote local).remote ≡ first_cid remote
unfolding first_ids
first_remote remote local = refl

pub retires_each_once : (remote : List ℕ) (local : LocalCids) (xs : List Step) → HasFrames xs → RetiresEachOnce remote local xs
unfolding RetiresEachOnce first_ids
retires_each_once remote local xs f =
    rw (from_first remote local xs, first_remote remote local)
    (retire_once remote (queue_calls xs (first_ids remote local)) (frames_steps xs (first_ids remote local) f))
