-- What holds of a queue of the other end's ids, whatever frames come
use Rattle.std.specs.Prelude.{◌≡◌, ℕ, ◌+◌, ◌-◌, ◌≤◌, ◌==◌, ◌&&◌, Bool, true, false, List, [], ◌∷◌, ◌++◌, Option, Some, None, Contains, length, max, nat_lt, nat_le, if◌then◌else◌}
use Rattle.std.specs.List.{list_any}
use Rattle.std.specs.Option.{option_map}
use Rattle.std.specs.declared.ops.Range.{Range}
use Rattle.qc_frame.specs.declared.frames.NewConnectionId.{NewConnectionId}
use Rattle.qc_ids.specs.declared.cid_queue.KeptCid.{KeptCid}
use Rattle.qc_ids.specs.CidQueue.{active_of, active_seq_of, active_token_of, after_next, first_cid, insert_answer, inserted, next_answer, renamed}
use Rattle.qc_ids.specs.Numbers.{Rises, numbers_on}

-- the calls that change a queue
pub data QueueCall : Type 0 where
  Insert : NewConnectionId → QueueCall
  Next : QueueCall
  Rename : List ℕ → QueueCall

-- a frame that isn't refused
abbrev pub is_taken : NewConnectionId → List KeptCid → Bool
is_taken new ids = nat_le (active_seq_of ids) new.sequence && nat_lt new.sequence (max (active_seq_of ids) new.retire_prior_to + 5)

-- what a call leaves
unfoldable pub queue_after : QueueCall → List KeptCid → List KeptCid
queue_after (Insert new) ids = if is_taken new ids then inserted new ids else ids
queue_after Next ids = after_next ids
queue_after (Rename id) ids = renamed id ids

-- the numbers that an answer tells to retire
abbrev pub numbers_of : Option (Range ℕ) → List ℕ
numbers_of None = []
numbers_of (Some range) = numbers_on range.start (range.end - range.start)

-- the numbers that a call tells to retire
unfoldable pub retires : QueueCall → List KeptCid → List ℕ
retires (Insert new) ids = if is_taken new ids then numbers_of (option_map (λ answer. answer.0) (insert_answer new ids)) else []
retires Next ids = numbers_of (option_map (λ answer. answer.1) (next_answer ids))
retires (Rename id) ids = []

-- what a list of calls leaves
abbrev pub queue_run : List QueueCall → List KeptCid → List KeptCid
queue_run [] ids = ids
queue_run (call ∷ calls) ids = queue_run calls (queue_after call ids)

-- all numbers that the calls of a list tell to retire
abbrev pub retired_in : List QueueCall → List KeptCid → List ℕ
retired_in [] ids = []
retired_in (call ∷ calls) ids = retires call ids ++ retired_in calls (queue_after call ids)

-- the ids that the calls bring
abbrev pub given_in : List QueueCall → List (List ℕ)
given_in [] = []
given_in (Insert new ∷ calls) = new.id ∷ given_in calls
given_in (Next ∷ calls) = given_in calls
given_in (Rename id ∷ calls) = id ∷ given_in calls

-- no frame retires more than what lies below its own number
abbrev pub AreFrames : List QueueCall → Type 0
AreFrames [] = Unit {0}
AreFrames (Insert new ∷ calls) = (new.retire_prior_to ≤ new.sequence) × AreFrames calls
AreFrames (Next ∷ calls) = AreFrames calls
AreFrames (Rename id ∷ calls) = AreFrames calls

-- the id in use is one that was given
unfoldable pub UsesGiven : List ℕ → List QueueCall → Type 0
UsesGiven first calls = Contains (first ∷ given_in calls) (active_of (queue_run calls (first_cid first)))

-- each number is told to be retired at most once, and the one in use, or a later one, never
unfoldable pub RetiresOnce : List ℕ → List QueueCall → Type 0
RetiresOnce first calls = Rises 0 (active_seq_of (queue_run calls (first_cid first))) (retired_in calls (first_cid first))

-- at most five are kept
unfoldable pub KeepsFive : List ℕ → List QueueCall → Type 0
KeepsFive first calls = length (queue_run calls (first_cid first)) ≤ 5

-- whether the id of this number is kept
abbrev pub is_kept : ℕ → List KeptCid → Bool
is_kept n ids = list_any (λ x. x.sequence == n) ids

-- whether this number is among others
abbrev pub is_among : ℕ → List ℕ → Bool
is_among n ns = list_any (λ k. k == n) ns

-- a number whose id was kept and isn't any more was told to be retired (RFC 9000, section 5.1.2)
unfoldable pub TellsDropped : List ℕ → (before calls : List QueueCall) → ℕ → Type 0
TellsDropped first before calls n =
    is_kept n (queue_run before (first_cid first)) ≡ true → is_kept n (queue_run calls (queue_run before (first_cid first))) ≡ false
    → is_among n (retired_in calls (queue_run before (first_cid first))) ≡ true

-- the ids that frames bring, with their reset tokens
abbrev pub tokens_in : List QueueCall → List (List ℕ × List ℕ)
tokens_in [] = []
tokens_in (Insert new ∷ calls) = (new.id, new.reset_token) ∷ tokens_in calls
tokens_in (Next ∷ calls) = tokens_in calls
tokens_in (Rename id ∷ calls) = tokens_in calls

-- the reset token of the id in use came with this id (RFC 9000, section 10.3)
unfoldable pub UsesOwnToken : List ℕ → List QueueCall → Type 0
UsesOwnToken first calls =
    (token : List ℕ) → active_token_of (queue_run calls (first_cid first)) ≡ Some token → Contains (tokens_in calls) (active_of (queue_run calls (first_cid first)), token)
