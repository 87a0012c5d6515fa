-- Entries of a cache, as the least recently used list keeps them
use Rattle.std.proofs.Common.{◌≡◌, ℕ, ◌-◌, ◌<◌, ◌≤◌, suc, zero, Bool, true, false, cond, List, [], ◌∷◌, ◌++◌, Some, None, length, take, drop, slice_get, nat_eq, nat_le, arith, refl, subst, sym, if◌then◌else◌}
use Rattle.std.proofs.lemmas.List.{length_push, length-drop}
use Rattle.std.proofs.lemmas.Bool.Decides.{nat_tests}
use Rattle.std.proofs.lemmas.Map.Steps.{set_value_same}
use Rattle.std.specs.Map.{lookup, lookup_entry, remove_entry, set_value}
use Rattle.std.specs.Option.{option_map}
use Rattle.std.specs.Cmp.Lexicographic.{pointwise, same_text}
use Rattle.lru.specs.LruCache.{LruCache, lru_cache, promoted, put_entries}
use Rattle.qc_config.specs.TokenCache.{HaveTokens, entries_with, entries_without, is_name, oldest_of, others, pushed, queue_of, with_token, without_token}

module _ {X : Type 0} where
  -- what is found has the name that was sought
  found_named : (name : List ℕ) (es : List (List ℕ × X)) (v : X) → lookup (is_name name) es ≡ Some v → lookup_entry (is_name name) es ≡ Some (name, v)
  found_named name [] v h = cc
  found_named name (e ∷ es) v h =
      (elim (is_name name e.0) as (λ b. is_name name e.0 ≡ b → cond b (Some e.1) (lookup (is_name name) es) ≡ Some v → cond b (Some e) (lookup_entry (is_name name) es) ≡ Some (name, v)) [
        | true ↦ λ t g. let same : name ≡ e.0 = same_text name e.0 (sym t) in let value : e.1 ≡ v = cc in rw (same, sym value) refl
        | false ↦ λ t g. found_named name es v g
      ]) refl h

  none_named : (name : List ℕ) (es : List (List ℕ × X)) → lookup (is_name name) es ≡ None → lookup_entry (is_name name) es ≡ None
  none_named name [] h = refl
  none_named name (e ∷ es) h =
      (elim (is_name name e.0) as (λ b. cond b (Some e.1) (lookup (is_name name) es) ≡ None → cond b (Some e) (lookup_entry (is_name name) es) ≡ None) [
        | true ↦ λ g. cc
        | false ↦ λ g. none_named name es g
      ]) h

  -- another value under a name
  entry_set : (test : List ℕ → Bool) (es : List (List ℕ × X)) (w : X) → lookup_entry test (set_value test es w) ≡ option_map (λ e. (e.0, w)) (lookup_entry test es)
  entry_set test [] w = refl
  entry_set test (e ∷ es) w =
      (elim (test e.0) as (λ b. test e.0 ≡ b → lookup_entry test (cond b ((e.0, w) ∷ es) (e ∷ set_value test es w)) ≡ option_map (λ f. (f.0, w)) (cond b (Some e) (lookup_entry test es))) [
        | true ↦ λ t. rw t refl
        | false ↦ λ t. rw t (entry_set test es w)
      ]) refl

  pub remove_set : (test : List ℕ → Bool) (es : List (List ℕ × X)) (w : X) → remove_entry test (set_value test es w) ≡ remove_entry test es
  remove_set test [] w = refl
  remove_set test (e ∷ es) w =
      (elim (test e.0) as (λ b. test e.0 ≡ b → remove_entry test (cond b ((e.0, w) ∷ es) (e ∷ set_value test es w)) ≡ cond b es (e ∷ remove_entry test es)) [
        | true ↦ λ t. rw t refl
        | false ↦ λ t. rw (t, remove_set test es w) refl
      ]) refl

  -- a name with another value, brought to the front
  pub promoted_set : (name : List ℕ) (es : List (List ℕ × X)) (v w : X) → lookup (is_name name) es ≡ Some v
      → promoted (is_name name) (set_value (is_name name) es w) ≡ (name, w) ∷ remove_entry (is_name name) es
  promoted_set name es v w h = rw (entry_set (is_name name) es w, found_named name es v h, remove_set (is_name name) es w) refl

  pub put_new : (name : List ℕ) (c : LruCache (List ℕ) X) (v : X) → lookup (is_name name) c.entries ≡ None → put_entries (pointwise nat_eq) c name v ≡ (name, v) ∷ take (c.cap - 1) c.entries
  put_new name c v h = rw (none_named name c.entries h) refl

module _ (name : List ℕ) (c : LruCache (List ℕ) (List (List ℕ))) where
  -- a queue that didn't change
  pub back_same : (v w : List (List ℕ)) → lookup (is_name name) c.entries ≡ Some v → w ≡ v → lru_cache (set_value (is_name name) c.entries w) c.cap ≡ c
  back_same v w h e = rw (e, set_value_same (is_name name) c.entries v h) refl

  -- a token was put into a queue that was there
  pub stored_some : (most : ℕ) (token : List ℕ) (v w : List (List ℕ)) → lookup (is_name name) c.entries ≡ Some v → w ≡ pushed most token v
      → lru_cache (promoted (is_name name) (set_value (is_name name) c.entries w)) c.cap ≡ lru_cache (entries_with c.cap most name token c.entries) c.cap
  unfolding entries_with
  stored_some most token v w h e = rw (promoted_set name c.entries v w h, h, e) refl

  -- or into a new one
  pub stored_none : (most : ℕ) (token : List ℕ) (w : List (List ℕ)) → lookup (is_name name) c.entries ≡ None → w ≡ token ∷ []
      → lru_cache (put_entries (pointwise nat_eq) c name w) c.cap ≡ lru_cache (entries_with c.cap most name token c.entries) c.cap
  unfolding entries_with
  stored_none most token w h e = rw (put_new name c w h, h, e) refl

  -- the only token of a queue was taken
  pub taken_last : (v w : List (List ℕ)) → lookup (is_name name) c.entries ≡ Some v → nat_le (length v) 1 ≡ true
      → lru_cache (remove_entry (is_name name) (set_value (is_name name) c.entries w)) c.cap ≡ lru_cache (entries_without name c.entries) c.cap
  unfolding entries_without
  taken_last v w h last = rw (remove_set (is_name name) c.entries w, h, last) refl

  -- the oldest of several
  pub taken_one : (v w : List (List ℕ)) → lookup (is_name name) c.entries ≡ Some v → nat_le (length v) 1 ≡ false → w ≡ drop 1 v
      → lru_cache (promoted (is_name name) (set_value (is_name name) c.entries w)) c.cap ≡ lru_cache (entries_without name c.entries) c.cap
  unfolding entries_without
  taken_one v w h last e = rw (promoted_set name c.entries v w h, h, last, e) refl

  pub taken_none : lookup (is_name name) c.entries ≡ None → c ≡ lru_cache (entries_without name c.entries) c.cap
  unfolding entries_without
  taken_none h = rw h refl

  pub oldest_some : (v : List (List ℕ)) → lookup (is_name name) c.entries ≡ Some v → slice_get v 0 ≡ oldest_of name c.entries
  unfolding oldest_of
  oldest_some v h = rw h refl

  pub oldest_none : lookup (is_name name) c.entries ≡ None → None ≡ oldest_of name c.entries
  unfolding oldest_of
  oldest_none h = rw h refl

-- ---- each name has tokens, and not too many

others_have : (most : ℕ) (name : List ℕ) (es : List (List ℕ × List (List ℕ))) → HaveTokens most es → HaveTokens most (others name es)
others_have most name [] h = tt
others_have most name (e ∷ es) h =
    elim (is_name name e.0) as (λ b. HaveTokens most (cond b es (e ∷ remove_entry (is_name name) es))) [
      | true ↦ h.2
      | false ↦ (h.0, h.1, others_have most name es h.2)
    ]

take_have : (most n : ℕ) (es : List (List ℕ × List (List ℕ))) → HaveTokens most es → HaveTokens most (take n es)
take_have most zero es h = tt
take_have most (suc n) [] h = tt
take_have most (suc n) (e ∷ es) h = (h.0, h.1, take_have most n es h.2)

pub found_has : (most : ℕ) (name : List ℕ) (es : List (List ℕ × List (List ℕ))) (queue : List (List ℕ)) → lookup (is_name name) es ≡ Some queue → HaveTokens most es → (0 < length queue) × (length queue ≤ most)
found_has most name [] queue e h = cc
found_has most name (f ∷ es) queue e h =
    (elim (is_name name f.0) as (λ b. cond b (Some f.1) (lookup (is_name name) es) ≡ Some queue → (0 < length queue) × (length queue ≤ most)) [
      | true ↦ λ g. let same : f.1 ≡ queue = cc in subst (λ (q : List (List ℕ)). (0 < length q) × (length q ≤ most)) same (h.0, h.1)
      | false ↦ λ g. found_has most name es queue g h.2
    ]) e

pub pushed_size : (most : ℕ) (token : List ℕ) (queue : List (List ℕ)) → 0 < most → length queue ≤ most → (0 < length (pushed most token queue)) × (length (pushed most token queue) ≤ most)
unfolding pushed
pushed_size most token queue some few =
    (elim (nat_le most (length queue)) as (λ b. nat_le most (length queue) ≡ b → (0 < length ((if b then drop 1 queue else queue) ++ token ∷ [])) × (length ((if b then drop 1 queue else queue) ++ token ∷ []) ≤ most)) [
      | true ↦ λ t. (omega (arith, length_push (drop 1 queue) token), omega (arith, length_push (drop 1 queue) token, length-drop 1 queue))
      | false ↦ λ t. let room : length queue < most = grind (arith, nat_tests) in (omega (arith, length_push queue token), omega (arith, length_push queue token))
    ]) refl

pub with_tokens : (cap most : ℕ) (name token : List ℕ) (es es' : List (List ℕ × List (List ℕ))) → 0 < most → HaveTokens most es → es' ≡ entries_with cap most name token es → HaveTokens most es'
unfolding entries_with
with_tokens cap most name token es es' some h e =
    rw e ((elim (queue_of name es) as (λ q. queue_of name es ≡ q → HaveTokens most (with_token cap most name token es q)) [
      | None ↦ λ t. (omega arith, omega arith, take_have most (cap - 1) es h)
      | Some queue ↦ λ t. let size = pushed_size most token queue some (found_has most name es queue t h).1 in (size.0, size.1, others_have most name es h)
    ]) refl)

pub without_tokens : (most : ℕ) (name : List ℕ) (es es' : List (List ℕ × List (List ℕ))) → HaveTokens most es → es' ≡ entries_without name es → HaveTokens most es'
unfolding entries_without
without_tokens most name es es' h e =
    rw e ((elim (queue_of name es) as (λ q. queue_of name es ≡ q → HaveTokens most (without_token name es q)) [
      | None ↦ λ t. h
      | Some queue ↦ λ t.
          let few = (found_has most name es queue t h).1 in
          (elim (nat_le (length queue) 1) as (λ b. nat_le (length queue) 1 ≡ b → HaveTokens most (if b then others name es else (name, drop 1 queue) ∷ others name es)) [
            | true ↦ λ u. others_have most name es h
            | false ↦ λ u.
                let several : 1 < length queue = grind (arith, nat_tests) in
                (omega (arith, length-drop 1 queue), omega (arith, length-drop 1 queue), others_have most name es h)
          ]) refl
    ]) refl)
