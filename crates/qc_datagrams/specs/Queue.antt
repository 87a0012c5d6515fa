-- Datagrams that wait, the oldest first (RFC 9221)
use Rattle.std.specs.Prelude.{ℕ, ◌+◌, ◌-◌, Bool, true, nat_le, if◌then◌else◌, List, [], ◌∷◌, ◌++◌, length, Option, None, Some}
use Rattle.std.specs.List.{filter}

-- what a datagram counts in a buffer: its length and 32 bytes
unfoldable pub weight : List ℕ → ℕ
weight d = length d + 32

-- what those in a buffer count together
unfoldable pub total : List (List ℕ) → ℕ
total [] = 0
total (d ∷ ds) = weight d + total ds

-- whether a datagram fits beside those
unfoldable pub fits : ℕ → List ℕ → List (List ℕ) → Bool
fits limit d ds = nat_le (total ds + weight d) limit

-- whether a datagram fits beside those, or there is none
unfoldable pub has_room : ℕ → List ℕ → List (List ℕ) → Bool
has_room limit d [] = true
has_room limit d (x ∷ xs) = fits limit d (x ∷ xs)

-- the oldest are dropped until a datagram fits beside the others, or none is left
unfoldable pub with_room : ℕ → List ℕ → List (List ℕ) → List (List ℕ)
with_room limit d [] = []
with_room limit d (x ∷ xs) = if has_room limit d (x ∷ xs) then x ∷ xs else with_room limit d xs

-- a datagram is queued, and the oldest make room for it
unfoldable pub queued : ℕ → List ℕ → List (List ℕ) → List (List ℕ)
queued limit d ds = with_room limit d ds ++ d ∷ []

-- how long a datagram may be that fits beside those
unfoldable pub space : ℕ → List (List ℕ) → ℕ
space limit ds = limit - total ds - 32

-- the oldest, where there is one
unfoldable pub first : List (List ℕ) → List (List ℕ)
first [] = []
first (d ∷ ds) = d ∷ []

-- those behind the oldest
unfoldable pub rest : List (List ℕ) → List (List ℕ)
rest [] = []
rest (d ∷ ds) = ds

-- how long the oldest is
unfoldable pub first_len : List (List ℕ) → Option ℕ
first_len [] = None
first_len (d ∷ ds) = Some (length d)

-- those that have at most so many bytes, in their order
unfoldable pub no_longer_than : ℕ → List (List ℕ) → List (List ℕ)
no_longer_than most ds = filter (λ d. nat_le (length d) most) ds
