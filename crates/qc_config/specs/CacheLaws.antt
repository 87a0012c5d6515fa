-- What holds of a cache of tokens, whatever calls come
use Rattle.std.specs.Prelude.{◌≡◌, ℕ, ◌+◌, ◌<◌, ◌≤◌, ◌⊎◌, Bool, List, [], ◌∷◌, ◌++◌, Option, Some, None, Contains, count_by, option_to_list, replicate, if◌then◌else◌}
use Rattle.qc_config.specs.TokenCache.{CacheValues, cache_after_take, cache_inserted, cache_taken, empty_cache, is_name}

-- a token that came from a server, or a server that one is taken of
pub data CacheCall : Type 0 where
  Put : (name token : List ℕ) → CacheCall
  Take : (name : List ℕ) → CacheCall

-- what a call leaves
abbrev pub cache_after : CacheCall → CacheValues → CacheValues
cache_after (Put name token) c = cache_inserted c name token
cache_after (Take name) c = cache_after_take c name

-- a token with the name of its server, where there is one
abbrev pub named : List ℕ → Option (List ℕ) → List (List ℕ × List ℕ)
named name None = []
named name (Some token) = (name, token) ∷ []

-- the tokens that the calls give, with the names that they were taken of
abbrev pub given_of : List CacheCall → CacheValues → List (List ℕ × List ℕ)
given_of [] c = []
given_of (Put name token ∷ calls) c = given_of calls (cache_inserted c name token)
given_of (Take name ∷ calls) c = named name (cache_taken c name) ++ given_of calls (cache_after_take c name)

-- the tokens that the calls bring, with the names that they came from
abbrev pub brought_by : List CacheCall → List (List ℕ × List ℕ)
brought_by [] = []
brought_by (Put name token ∷ calls) = (name, token) ∷ brought_by calls
brought_by (Take name ∷ calls) = brought_by calls

-- of the tokens that a test picks, no more are given than came: each is given at most once for each time that
-- it came, and to the server's own name
unfoldable pub GivesOnce : (names tokens : ℕ) → List CacheCall → Type 0
GivesOnce names tokens calls = (test : List ℕ × List ℕ → Bool) → count_by test (given_of calls (empty_cache names tokens)) ≤ count_by test (brought_by calls)

-- what a list of calls leaves
abbrev pub cache_run : List CacheCall → CacheValues → CacheValues
cache_run [] c = c
cache_run (call ∷ calls) c = cache_run calls (cache_after call c)

-- how many of the calls put a token under this name, and how many concern another name
abbrev pub puts_of : List ℕ → List CacheCall → ℕ
puts_of name [] = 0
puts_of name (Put other token ∷ calls) = (if is_name name other then 1 else 0) + puts_of name calls
puts_of name (Take other ∷ calls) = puts_of name calls

-- how many of the calls concern another name than this one
abbrev pub others_in : List ℕ → List CacheCall → ℕ
others_in name [] = 0
others_in name (Put other token ∷ calls) = (if is_name name other then 0 else 1) + others_in name calls
others_in name (Take other ∷ calls) = (if is_name name other then 0 else 1) + others_in name calls

-- A token that was put in is given, as long as it isn't pushed out: by as many tokens of its server as there may be, or by as many
-- other servers. It is given by later calls, or by takings of its server behind them.
unfoldable pub GivesKept : (names tokens : ℕ) → List CacheCall → (name token : List ℕ) → List CacheCall → Type 0
GivesKept names tokens before name token calls =
    puts_of name calls < tokens → others_in name calls < names
    → Contains (given_of (calls ++ replicate tokens (Take name)) (cache_inserted (cache_run before (empty_cache names tokens)) name token)) (name, token)

-- the tokens that the calls give of one name, and those that they bring for it
abbrev pub given_to : List ℕ → List CacheCall → CacheValues → List (List ℕ)
given_to name [] c = []
given_to name (Put other token ∷ calls) c = given_to name calls (cache_inserted c other token)
given_to name (Take other ∷ calls) c =
    (if is_name name other then option_to_list (cache_taken c other) else []) ++ given_to name calls (cache_after_take c other)

-- the tokens that the calls bring under one name
abbrev pub brought_for : List ℕ → List CacheCall → List (List ℕ)
brought_for name [] = []
brought_for name (Put other token ∷ calls) = (if is_name name other then token ∷ [] else []) ++ brought_for name calls
brought_for name (Take other ∷ calls) = brought_for name calls

-- a list is what is left of another one, in its order, where some are left out
abbrev pub IsPart : List (List ℕ) → (ys : List (List ℕ)) → Type 0
IsPart [] ys = Unit {0}
IsPart (x ∷ xs) [] = ⊥
IsPart (x ∷ xs) (y ∷ ys) = ((x ≡ y) × IsPart xs ys) ⊎ IsPart (x ∷ xs) ys

-- the tokens of a server are given in the order in which they came, the oldest first
unfoldable pub GivesInOrder : (names tokens : ℕ) → List ℕ → List CacheCall → Type 0
GivesInOrder names tokens name calls = IsPart (given_to name calls (empty_cache names tokens)) (brought_for name calls)
