-- The ids of the other end that are kept, by ascending sequence number. The first is the active one.
use Rattle.std.specs.Prelude.{ℕ, ◌+◌, ◌<◌, ◌≤◌, ◌&&◌, Bool, List, [], ◌∷◌, ◌++◌, Option, Some, None, IsSome, filter, min, max, nat_lt, nat_le, if◌then◌else◌}
use Rattle.std.specs.Option.{option_map}
use Rattle.std.specs.declared.ops.Range.{Range}
use Rattle.qc_frame.specs.declared.frames.NewConnectionId.{NewConnectionId}
use Rattle.qc_ids.specs.declared.cid_queue.KeptCid.{KeptCid}

-- the numbers ascend, from low up to, but without, high
abbrev pub Ascends : (low high : ℕ) → List KeptCid → Type 0
Ascends low high [] = Unit {0}
Ascends low high (x ∷ xs) = (low ≤ x.sequence) × (x.sequence < high) × Ascends (x.sequence + 1) high xs

-- each id above this number has a token
abbrev pub HasTokensAbove : ℕ → List KeptCid → Type 0
HasTokensAbove n [] = Unit {0}
HasTokensAbove n (x ∷ ids) = (n < x.sequence → IsSome x.reset_token) × HasTokensAbove n ids

-- one id at least, all of them less than 5 above the active one; and those that came by a frame have tokens
abbrev pub IsQueue : List KeptCid → Type 0
IsQueue [] = ⊥
IsQueue (x ∷ ids) = Ascends (x.sequence + 1) (x.sequence + 5) ids × HasTokensAbove x.sequence ids

-- the number of the active id
abbrev pub active_seq_of : List KeptCid → ℕ
active_seq_of [] = 0
active_seq_of (x ∷ xs) = x.sequence

-- the active id
abbrev pub active_of : List KeptCid → List ℕ
active_of [] = []
active_of (x ∷ xs) = x.id

-- the token of the active id
abbrev pub active_token_of : List KeptCid → Option (List ℕ)
active_token_of [] = None
active_token_of (x ∷ xs) = x.reset_token

-- a connection's first id of the other end has number 0
abbrev pub first_cid : List ℕ → List KeptCid
first_cid id = record { sequence = 0; id = id; reset_token = None } ∷ []

-- the id that a NEW_CONNECTION_ID frame gives
abbrev pub given_cid : NewConnectionId → KeptCid
given_cid new = record { sequence = new.sequence; id = new.id; reset_token = Some new.reset_token }

-- the number lies from low up to, but not at, high
abbrev pub is_between : (low high : ℕ) → KeptCid → Bool
is_between low high x = nat_le low x.sequence && nat_lt x.sequence high

-- those with numbers from low up to, but without, high
unfoldable pub kept_between : (low high : ℕ) → List KeptCid → List KeptCid
kept_between low high ids = filter (is_between low high) ids

-- the number lies above n
abbrev pub is_above : ℕ → KeptCid → Bool
is_above n x = nat_lt n x.sequence

-- those with numbers above n
unfoldable pub kept_above : ℕ → List KeptCid → List KeptCid
kept_above n ids = filter (is_above n) ids

-- what is kept once a frame was taken: its id stands at its place, in the stead of one with its number, and
-- those that the frame retires are gone
unfoldable pub inserted : NewConnectionId → List KeptCid → List KeptCid
inserted new ids = kept_between new.retire_prior_to new.sequence ids ++ given_cid new ∷ kept_above new.sequence ids

-- the range from one number up to, but without, another
abbrev pub numbers_from : (start end : ℕ) → Range ℕ
numbers_from start end = record { start = start; end = end }

-- the numbers that are to be retired where an active number gives way to a new one: from the old one up to the
-- new one, but no more than 5; and the token of the new one
unfoldable pub renewal_of : ℕ → List KeptCid → Option (Range ℕ × List ℕ)
renewal_of old ids = option_map (λ token. (numbers_from old (min (active_seq_of ids) (old + 5)), token)) (active_token_of ids)

-- what a frame that was taken brings about: a renewal, where it retires the active id
unfoldable pub insert_answer : NewConnectionId → List KeptCid → Option (Range ℕ × List ℕ)
insert_answer new ids = if nat_lt (active_seq_of ids) new.retire_prior_to then renewal_of (active_seq_of ids) (inserted new ids) else None

-- the next id becomes the active one, where there is one
abbrev pub after_next : List KeptCid → List KeptCid
after_next [] = []
after_next (x ∷ []) = x ∷ []
after_next (x ∷ y ∷ ids) = y ∷ ids

-- its token, and the numbers that are to be retired
abbrev pub next_answer : List KeptCid → Option (List ℕ × Range ℕ)
next_answer [] = None
next_answer (x ∷ []) = None
next_answer (x ∷ y ∷ ids) = option_map (λ token. (token, numbers_from x.sequence y.sequence)) y.reset_token

-- the active number stands for another id, which came without a token
abbrev pub renamed : List ℕ → List KeptCid → List KeptCid
renamed id [] = []
renamed id (x ∷ ids) = record { sequence = x.sequence; id = id; reset_token = None } ∷ ids

-- a frame whose number can be kept: it isn't retired, and lies less than 5 above the active number and what the
-- frame retires
pub record IsTaken (new : NewConnectionId) (ids : List KeptCid) : Type 0 where
  pub order : new.retire_prior_to ≤ new.sequence
  pub from_active : active_seq_of ids ≤ new.sequence
  pub within : new.sequence < max (active_seq_of ids) new.retire_prior_to + 5
  pub queue : IsQueue ids

-- a frame that isn't retired lies 5 or more above both
abbrev pub ExceedsLimit : NewConnectionId → List KeptCid → Type 0
ExceedsLimit new ids = (active_seq_of ids ≤ new.sequence) × (max (active_seq_of ids) new.retire_prior_to + 5 ≤ new.sequence)
