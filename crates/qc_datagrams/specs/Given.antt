-- Datagrams that are queued, and those that are given (RFC 9221, section 5)
use Rattle.std.specs.Prelude.{◌≡◌, ℕ, ◌+◌, ◌≤◌, ◌⊎◌, List, [], ◌∷◌, ◌++◌, length}
use Rattle.qc_datagrams.specs.Queue.{first, no_longer_than, queued, rest}

-- what happens to a queue
pub data Step : Type 0 where
  -- a datagram is queued, in a buffer of so many bytes
  Queues : ℕ → List ℕ → Step
  -- the oldest is taken
  Takes : Step
  -- those that are longer than so many bytes are dropped
  Drops : ℕ → Step
  -- all are dropped
  Clears : Step

-- what a step leaves
unfoldable pub after_step : Step → List (List ℕ) → List (List ℕ)
after_step (Queues limit d) ds = queued limit d ds
after_step Takes ds = rest ds
after_step (Drops most) ds = no_longer_than most ds
after_step Clears ds = []

-- what steps leave
unfoldable pub after : List Step → List (List ℕ) → List (List ℕ)
after [] ds = ds
after (x ∷ xs) ds = after xs (after_step x ds)

-- the datagram that a step queues
unfoldable pub queued_by : Step → List (List ℕ)
queued_by (Queues limit d) = d ∷ []
queued_by Takes = []
queued_by (Drops most) = []
queued_by Clears = []

-- all that were queued, one after the other
unfoldable pub all_queued : List Step → List (List ℕ)
all_queued [] = []
all_queued (x ∷ xs) = queued_by x ++ all_queued xs

-- the datagram that a step gives
unfoldable pub given_by : Step → List (List ℕ) → List (List ℕ)
given_by (Queues limit d) ds = []
given_by Takes ds = first ds
given_by (Drops most) ds = []
given_by Clears ds = []

-- all that were given, one after the other
unfoldable pub all_given : List Step → List (List ℕ) → List (List ℕ)
all_given [] ds = []
all_given (x ∷ xs) ds = given_by x ds ++ all_given xs (after_step x ds)

-- The first list has some of the second one's, in their order, each once
unfoldable pub AreInOrder : List (List ℕ) → (ys : List (List ℕ)) → Type 0
AreInOrder [] ys = Unit {0}
AreInOrder (x ∷ xs) [] = ⊥
AreInOrder (x ∷ xs) (y ∷ ys) = ((x ≡ y) × AreInOrder xs ys) ⊎ AreInOrder (x ∷ xs) ys

-- what those that wait take of a buffer: of each its bytes and 32 more
unfoldable pub held : List (List ℕ) → ℕ
held [] = 0
held (d ∷ ds) = length d + 32 + held ds

-- Each datagram that is queued fits beside those that wait then, and none is dropped
unfoldable pub AllFit : List Step → List (List ℕ) → Type 0
AllFit [] ds = Unit {0}
AllFit (Queues limit d ∷ xs) ds = (held ds + (length d + 32) ≤ limit) × AllFit xs (queued limit d ds)
AllFit (Takes ∷ xs) ds = AllFit xs (rest ds)
AllFit (Drops most ∷ xs) ds = ⊥
AllFit (Clears ∷ xs) ds = ⊥

-- What was given, and then what waits, was queued, in that order and each once
unfoldable pub GivesInOrder : List Step → Type 0
GivesInOrder xs = AreInOrder (all_given xs [] ++ after xs []) (all_queued xs)

-- Where all fit, what was given and what waits is all that was queued
unfoldable pub GivesAll : List Step → Type 0
GivesAll xs = AllFit xs [] → all_given xs [] ++ after xs [] ≡ all_queued xs

-- One that is queued waits alone, or all that wait fit into the buffer
unfoldable pub StaysWithin : List Step → Type 0
StaysWithin xs = (limit : ℕ) (d : List ℕ) → (after_step (Queues limit d) (after xs []) ≡ d ∷ []) ⊎ (held (after_step (Queues limit d) (after xs [])) ≤ limit)
