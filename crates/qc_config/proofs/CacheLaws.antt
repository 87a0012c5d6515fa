-- A cache gives no more tokens than came
use Rattle.std.proofs.Common.{◌≡◌, ℕ, ◌+◌, ◌-◌, ◌≤◌, suc, zero, Bool, true, false, cond, List, [], ◌∷◌, ◌++◌, Some, None, length, take, drop, slice_get, nat_le, count_by, arith, refl, sym, if◌then◌else◌}
use Rattle.std.proofs.lemmas.Bool.Decides.{nat_tests}
use Rattle.std.proofs.lemmas.List.Sums.{sum_by-append, sum_by-cons}
use Rattle.std.specs.Map.{lookup, remove_entry}
use Rattle.std.specs.Option.{option_and_then}
use Rattle.std.specs.Cmp.Lexicographic.{same_text}
use Rattle.qc_config.specs.TokenCache.{CacheValues, cache_after_take, cache_inserted, cache_taken, empty_cache, entries_with, entries_without, holds_nothing, is_name, oldest_of, others, pushed, queue_of, with_token, without_token}
use Rattle.qc_config.specs.CacheLaws.{CacheCall, GivesOnce, Put, Take, brought_by, given_of, named}

module _ (test : List ℕ × List ℕ → Bool) where
  -- one for a token that the test picks
  abbrev one : List ℕ → List ℕ → ℕ
  one name token = cond (test (name, token)) 1 0

  -- how many of a queue's tokens the test picks
  abbrev picked : List ℕ → List (List ℕ) → ℕ
  picked name [] = 0
  picked name (t ∷ ts) = one name t + picked name ts

  abbrev held : List (List ℕ × List (List ℕ)) → ℕ
  held [] = 0
  held (e ∷ es) = picked e.0 e.1 + held es

  picked_push : (name token : List ℕ) (ts : List (List ℕ)) → picked name (ts ++ token ∷ []) ≡ picked name ts + one name token
  picked_push name token [] = omega arith
  picked_push name token (t ∷ ts) = omega (arith, picked_push name token ts)

  picked_drop : (name : List ℕ) (ts : List (List ℕ)) → picked name (drop 1 ts) ≤ picked name ts
  picked_drop name [] = omega arith
  picked_drop name (t ∷ ts) = omega arith

  picked_pushed : (most : ℕ) (name token : List ℕ) (ts : List (List ℕ)) → picked name (pushed most token ts) ≤ picked name ts + one name token
  unfolding pushed
  picked_pushed most name token ts =
      elim (nat_le most (length ts)) as (λ b. picked name ((if b then drop 1 ts else ts) ++ token ∷ []) ≤ picked name ts + one name token) [
        | true ↦ omega (arith, picked_push name token (drop 1 ts), picked_drop name ts)
        | false ↦ omega (arith, picked_push name token ts)
      ]

  held_take : (n : ℕ) (es : List (List ℕ × List (List ℕ))) → held (take n es) ≤ held es
  held_take zero es = omega arith
  held_take (suc n) [] = omega arith
  held_take (suc n) (e ∷ es) = omega (arith, held_take n es)

  held_split : (name : List ℕ) (es : List (List ℕ × List (List ℕ))) (queue : List (List ℕ)) → lookup (is_name name) es ≡ Some queue → picked name queue + held (others name es) ≡ held es
  held_split name [] queue h = cc
  held_split name (e ∷ es) queue h =
      (elim (is_name name e.0) as (λ b. is_name name e.0 ≡ b → cond b (Some e.1) (lookup (is_name name) es) ≡ Some queue → picked name queue + held (cond b es (e ∷ remove_entry (is_name name) es)) ≡ picked e.0 e.1 + held es) [
        | true ↦ λ t g. let same : name ≡ e.0 = same_text name e.0 (sym t) in let value : queue ≡ e.1 = cc in rw (same, value) refl
        | false ↦ λ t g. let rest = held_split name es queue g in omega (arith, rest)
      ]) refl h

  held_put : (cap most : ℕ) (name token : List ℕ) (es : List (List ℕ × List (List ℕ))) → held (entries_with cap most name token es) ≤ held es + one name token
  unfolding entries_with
  held_put cap most name token es =
      (elim (queue_of name es) as (λ q. queue_of name es ≡ q → held (with_token cap most name token es q) ≤ held es + one name token) [
        | None ↦ λ t. omega (arith, held_take (cap - 1) es)
        | Some queue ↦ λ t. omega (arith, held_split name es queue t, picked_pushed most name token queue)
      ]) refl

  held_inserted : (c : CacheValues) (name token : List ℕ) → held (cache_inserted c name token).entries ≤ held c.entries + one name token
  unfolding cache_inserted
  held_inserted c name token =
      elim (holds_nothing c) as (λ b. held (if b then c else record c { entries = entries_with c.max_server_names c.max_tokens_per_server name token c.entries }).entries ≤ held c.entries + one name token) [
        | true ↦ omega arith
        | false ↦ held_put c.max_server_names c.max_tokens_per_server name token c.entries
      ]

  -- what was given, and what is left
  queue_gives : (name : List ℕ) (es : List (List ℕ × List (List ℕ))) (queue : List (List ℕ)) → picked name queue + held (others name es) ≡ held es
      → held (without_token name es (Some queue)) + count_by test (named name (slice_get queue 0)) ≤ held es
  queue_gives name es [] h = omega arith
  queue_gives name es (t ∷ []) h = omega (arith, sum_by-cons (λ (x : List ℕ × List ℕ). cond (test x) 1 0) (name, t) [])
  queue_gives name es (t ∷ u ∷ ts) h =
      let several : nat_le (length (t ∷ u ∷ ts)) 1 ≡ false = grind (arith, nat_tests) in
      rw several (omega (arith, sum_by-cons (λ (x : List ℕ × List ℕ). cond (test x) 1 0) (name, t) []))

  held_taken : (name : List ℕ) (es : List (List ℕ × List (List ℕ))) → held (entries_without name es) + count_by test (named name (oldest_of name es)) ≤ held es
  unfolding entries_without oldest_of
  held_taken name es =
      (elim (queue_of name es) as (λ q. queue_of name es ≡ q → held (without_token name es q) + count_by test (named name (option_and_then (λ queue. slice_get queue 0) q)) ≤ held es) [
        | None ↦ λ t. omega arith
        | Some queue ↦ λ t. queue_gives name es queue (held_split name es queue t)
      ]) refl

  held_after : (c : CacheValues) (name : List ℕ) → held (cache_after_take c name).entries + count_by test (named name (cache_taken c name)) ≤ held c.entries
  unfolding cache_after_take cache_taken
  held_after c name = held_taken name c.entries

  gives : (calls : List CacheCall) (c : CacheValues) → count_by test (given_of calls c) ≤ held c.entries + count_by test (brought_by calls)
  gives [] c = omega arith
  gives (Put name token ∷ calls) c =
      omega (arith, gives calls (cache_inserted c name token), held_inserted c name token, sum_by-cons (λ (x : List ℕ × List ℕ). cond (test x) 1 0) (name, token) (brought_by calls))
  gives (Take name ∷ calls) c =
      omega (
        arith,
        gives calls (cache_after_take c name),
        held_after c name,
        sum_by-append (λ (x : List ℕ × List ℕ). cond (test x) 1 0) (named name (cache_taken c name)) (given_of calls (cache_after_take c name)),
      )

pub gives_once : (names tokens : ℕ) (calls : List CacheCall) → GivesOnce names tokens calls
unfolding GivesOnce
gives_once names tokens calls = λ test. omega (arith, gives test calls (empty_cache names tokens))
