-- A cache of tokens: names of servers, the most recently used first, each with a queue, the oldest token first
use Rattle.std.specs.Prelude.{ℕ, ◌-◌, ◌<◌, ◌≤◌, ◌==◌, ◌||◌, Bool, List, [], ◌∷◌, ◌++◌, Option, Some, None, length, take, drop, slice_get, nat_eq, nat_le, if◌then◌else◌}
use Rattle.std.specs.Option.{option_and_then}
use Rattle.std.specs.Map.{lookup, remove_entry}
use Rattle.std.specs.Cmp.Lexicographic.{pointwise}

-- how many names there may be, and how many tokens each; and the names with their queues
pub record CacheValues : Type 0 where
  pub max_server_names : ℕ
  pub max_tokens_per_server : ℕ
  pub entries : List (List ℕ × List (List ℕ))

-- a name is that one
abbrev pub is_name : (name other : List ℕ) → Bool
is_name name other = pointwise nat_eq name other

-- the queue of a name, if it is in the list
abbrev pub queue_of : List ℕ → List (List ℕ × List (List ℕ)) → Option (List (List ℕ))
queue_of name entries = lookup (is_name name) entries

-- the other names
abbrev pub others : List ℕ → List (List ℕ × List (List ℕ)) → List (List ℕ × List (List ℕ))
others name entries = remove_entry (is_name name) entries

-- an empty cache
abbrev pub empty_cache : (names tokens : ℕ) → CacheValues
empty_cache names tokens = record { max_server_names = names; max_tokens_per_server = tokens; entries = [] }

-- the token goes to the end; where the queue is full, its oldest one is dropped
unfoldable pub pushed : ℕ → List ℕ → List (List ℕ) → List (List ℕ)
pushed most token queue = (if nat_le most (length queue) then drop 1 queue else queue) ++ token ∷ []

-- the token is put into its name's queue, and the name goes first; a new name drops the last one where there
-- are as many as there may be
abbrev pub with_token : (names most : ℕ) → (name token : List ℕ) → List (List ℕ × List (List ℕ)) → Option (List (List ℕ)) → List (List ℕ × List (List ℕ))
with_token names most name token entries (Some queue) = (name, pushed most token queue) ∷ others name entries
with_token names most name token entries None = (name, token ∷ []) ∷ take (names - 1) entries

-- the names with their queues, once a token was put in
unfoldable pub entries_with : (names most : ℕ) → (name token : List ℕ) → List (List ℕ × List (List ℕ)) → List (List ℕ × List (List ℕ))
entries_with names most name token entries = with_token names most name token entries (queue_of name entries)

-- a cache that holds nothing
abbrev pub holds_nothing : CacheValues → Bool
holds_nothing c = c.max_server_names == 0 || c.max_tokens_per_server == 0

-- the cache once a token was put in
unfoldable pub cache_inserted : CacheValues → (name token : List ℕ) → CacheValues
cache_inserted c name token = if holds_nothing c then c else record c { entries = entries_with c.max_server_names c.max_tokens_per_server name token c.entries }

-- the name goes first, without its oldest token; without a token it goes
abbrev pub without_token : List ℕ → List (List ℕ × List (List ℕ)) → Option (List (List ℕ)) → List (List ℕ × List (List ℕ))
without_token name entries None = entries
without_token name entries (Some queue) = if nat_le (length queue) 1 then others name entries else (name, drop 1 queue) ∷ others name entries

-- the names with their queues, once the oldest token of a name was taken
unfoldable pub entries_without : List ℕ → List (List ℕ × List (List ℕ)) → List (List ℕ × List (List ℕ))
entries_without name entries = without_token name entries (queue_of name entries)

-- the oldest token of a name
unfoldable pub oldest_of : List ℕ → List (List ℕ × List (List ℕ)) → Option (List ℕ)
oldest_of name entries = option_and_then (λ queue. slice_get queue 0) (queue_of name entries)

-- the token that is taken of a name
unfoldable pub cache_taken : CacheValues → List ℕ → Option (List ℕ)
cache_taken c name = oldest_of name c.entries

-- the cache once a token was taken
unfoldable pub cache_after_take : CacheValues → List ℕ → CacheValues
cache_after_take c name = record c { entries = entries_without name c.entries }

-- each name has a token, and no more than it may have
abbrev pub HaveTokens : ℕ → List (List ℕ × List (List ℕ)) → Type 0
HaveTokens most [] = Unit {0}
HaveTokens most (e ∷ es) = (0 < length e.1) × (length e.1 ≤ most) × HaveTokens most es

-- how many names the list of the most recently used ones has room for
abbrev pub room_of : ℕ → ℕ
room_of names = if names == 0 then 1 else names
