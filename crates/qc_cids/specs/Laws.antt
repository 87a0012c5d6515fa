-- What holds of the connection ids over any steps.
use Rattle.std.specs.Prelude.{◌≡◌, ℕ, ◌≤◌, List, [], ◌∷◌, ◌++◌, Some, Contains, length, if◌then◌else◌, is_some, option_to_list}
use Rattle.std.specs.Option.{option_map}
use Rattle.qc_base.specs.declared.ids.IssuedCid.{IssuedCid}
use Rattle.qc_cids.specs.declared.connection_ids.ConnectionIds.{ConnectionIds}
use Rattle.qc_cids.specs.Cids.{first_ids, first_issued, new_refusal, next_retired, next_told, retires_by}
use Rattle.qc_cids.specs.Steps.{Step, NewCame, Switched, Renamed, Preferred, Given, TellSealed, RetireSealed, TellLost, RetireLost, after, after_step}
use Rattle.qc_ids.specs.CidQueue.{active_of, active_seq_of}
use Rattle.qc_ids.specs.LocalCids.{LocalCids}
use Rattle.qc_ids.specs.Numbers.{Rises}
use Rattle.qc_ids.specs.QueueLaws.{Insert, Next, QueueCall, Rename, queue_run, retired_in, retires}

-- ---- the peer's ids

-- the calls of the queue of the peer's ids that a step is: none where a frame is refused
abbrev pub calls_of_step : Step → ConnectionIds → List QueueCall
calls_of_step (NewCame new) s = if is_some (new_refusal new s.remote) then [] else Insert new ∷ []
calls_of_step Switched s = Next ∷ []
calls_of_step (Renamed id) s = Rename id ∷ []
calls_of_step (Preferred new) s = Insert new ∷ []
calls_of_step _ s = []

-- those that steps are, one after the other
unfoldable pub queue_calls : List Step → ConnectionIds → List QueueCall
queue_calls [] s = []
queue_calls (x ∷ xs) s = calls_of_step x s ++ queue_calls xs (after_step x s)

-- Over any steps the peer's ids are what these calls of their queue leave. So whatever holds over any calls of the queue holds over steps.
unfoldable pub FoldsQueue : List Step → ConnectionIds → Type 0
FoldsQueue xs s = (after xs s).remote ≡ queue_run (queue_calls xs s) s.remote

-- no frame retires more than what lies below its own number, as the reader of frames sees to (RFC 9000, section 19.15)
abbrev pub IsFrame : Step → Type 0
IsFrame (NewCame new) = new.retire_prior_to ≤ new.sequence
IsFrame (Preferred new) = new.retire_prior_to ≤ new.sequence
IsFrame _ = Unit {0}

-- so it is with all steps
abbrev pub HasFrames : List Step → Type 0
HasFrames [] = Unit {0}
HasFrames (x ∷ xs) = IsFrame x × HasFrames xs

-- the ids that the peer gives: one of a frame that isn't refused, one that it chose in the place of another, the one of its preferred address
abbrev pub given_by : Step → ConnectionIds → List (List ℕ)
given_by (NewCame new) s = if is_some (new_refusal new s.remote) then [] else new.id ∷ []
given_by (Renamed id) s = id ∷ []
given_by (Preferred new) s = new.id ∷ []
given_by _ s = []

-- those that the peer gives by steps, each as its turn comes
abbrev pub given_to : List Step → ConnectionIds → List (List ℕ)
given_to [] s = []
given_to (x ∷ xs) s = given_by x s ++ given_to xs (after_step x s)

-- packets go to the first id, or to one that the peer gave
unfoldable pub SendsToGiven : (remote : List ℕ) → LocalCids → List Step → Type 0
SendsToGiven remote local xs = Contains (remote ∷ given_to xs (first_ids remote local)) (active_of (after xs (first_ids remote local)).remote)

-- at most five of the peer's ids are kept
unfoldable pub KeepsAtMostFive : (remote : List ℕ) → LocalCids → List Step → Type 0
KeepsAtMostFive remote local xs = length (after xs (first_ids remote local)).remote ≤ 5

-- the queue tells each number to be retired once at most, and never that of the id in use, or a later one
unfoldable pub RetiresEachOnce : (remote : List ℕ) → LocalCids → List Step → Type 0
RetiresEachOnce remote local xs =
    Rises 0 (active_seq_of (after xs (first_ids remote local)).remote) (retired_in (queue_calls xs (first_ids remote local)) (first_ids remote local).remote)

-- ---- what waits

-- the numbers that a step has this end retire: those that the queue tells, and that of a frame that came below the id in use
abbrev pub due_by : Step → ConnectionIds → List ℕ
due_by (NewCame new) s = if is_some (new_refusal new s.remote) then [] else retires_by new s.remote
due_by Switched s = retires Next s.remote
due_by _ s = []

-- so of steps, each as its turn comes
abbrev pub due_in : List Step → ConnectionIds → List ℕ
due_in [] s = []
due_in (x ∷ xs) s = due_by x s ++ due_in xs (after_step x s)

-- the numbers of the RETIRE_CONNECTION_ID that were sealed, with that of a step
abbrev pub sealed_with : Step → List ℕ → List ℕ
sealed_with (RetireSealed n) sealed = n ∷ sealed
sealed_with _ sealed = sealed

-- the one that is sealed is the one that goes next, and the one that is lost was sealed
abbrev pub SealsNext : Step → (sealed : List ℕ) → ConnectionIds → Type 0
SealsNext (RetireSealed n) sealed s = next_retired s ≡ Some n
SealsNext (RetireLost n) sealed s = Contains sealed n
SealsNext _ sealed s = Unit {0}

-- so it is with all steps, each as its turn comes
abbrev pub AllSealNext : List Step → (sealed : List ℕ) → ConnectionIds → Type 0
AllSealNext [] sealed s = Unit {0}
AllSealNext (x ∷ xs) sealed s = SealsNext x sealed s × AllSealNext xs (sealed_with x sealed) (after_step x s)

-- whatever number a RETIRE_CONNECTION_ID names was to be retired
unfoldable pub RetiresWhatIsDue : (remote : List ℕ) → LocalCids → List Step → (n : ℕ) → Type 0
RetiresWhatIsDue remote local xs n =
    AllSealNext xs [] (first_ids remote local) → next_retired (after xs (first_ids remote local)) ≡ Some n → Contains (due_in xs (first_ids remote local)) n

-- the ids of this end that a step gives
abbrev pub issued_by : Step → List IssuedCid
issued_by (Given ids time) = ids
issued_by _ = []

-- those that steps give
abbrev pub issued_in : List Step → List IssuedCid
issued_in [] = []
issued_in (x ∷ xs) = issued_by x ++ issued_in xs

-- the ids of the NEW_CONNECTION_ID that were sealed, with that of a step
abbrev pub told_with_step : Step → List IssuedCid → ConnectionIds → List IssuedCid
told_with_step (TellSealed n) told s = option_to_list (first_issued s.unsent) ++ told
told_with_step _ told s = told

-- the one that is sealed is the one that goes next, and the one that is lost was sealed
abbrev pub TellsNext : Step → (told : List IssuedCid) → ConnectionIds → Type 0
TellsNext (TellSealed n) told s = option_map (λ new. new.sequence) (next_told s) ≡ Some n
TellsNext (TellLost c) told s = Contains told c
TellsNext _ told s = Unit {0}

-- so it is with all steps, each as its turn comes
abbrev pub AllTellNext : List Step → (told : List IssuedCid) → ConnectionIds → Type 0
AllTellNext [] told s = Unit {0}
AllTellNext (x ∷ xs) told s = TellsNext x told s × AllTellNext xs (told_with_step x told s) (after_step x s)

-- whatever id waits to be told was given
unfoldable pub TellsWhatWasGiven : (remote : List ℕ) → LocalCids → List Step → IssuedCid → Type 0
TellsWhatWasGiven remote local xs c =
    AllTellNext xs [] (first_ids remote local) → Contains (after xs (first_ids remote local)).unsent c → Contains (issued_in xs) c
