-- A token that isn't pushed out is given, the oldest first
use Rattle.std.proofs.Common.{◌≡◌, ℕ, zero, suc, ◌+◌, ◌-◌, ◌<◌, ◌≤◌, ◌⊎◌, inl, inr, true, false, cond, List, [], ◌∷◌, ◌++◌, Option, Some, None, Contains, length, take, drop, slice_get, replicate, nat_le, option_to_list, arith, refl, sym, ap, subst, ◌∙◌, append_assoc, length-append, if◌then◌else◌}
use Rattle.std.proofs.lemmas.Bool.Decides.{nat_tests}
use Rattle.std.proofs.lemmas.List.{length_push, length-drop}
use Rattle.std.proofs.lemmas.List.Elements.{Contains-append_right}
use Rattle.std.specs.Map.{remove_entry}
use Rattle.std.specs.Option.{option_and_then}
use Rattle.std.specs.Cmp.Lexicographic.{bytes_decides}
use Rattle.qc_config.specs.TokenCache.{CacheValues, HaveTokens, cache_after_take, cache_inserted, cache_taken, empty_cache, entries_with, entries_without, holds_nothing, is_name, oldest_of, others, pushed, queue_of, with_token, without_token}
use Rattle.qc_config.specs.CacheLaws.{CacheCall, GivesInOrder, GivesKept, IsPart, Put, Take, brought_for, cache_run, given_of, given_to, named, others_in, puts_of}
use Rattle.qc_config.proofs.CacheEntries.{found_has, pushed_size, with_tokens, without_tokens}

abbrev Entries : Type 0
Entries = List (List ℕ × List (List ℕ))

own_name : (name : List ℕ) → is_name name name ≡ true
own_name name = (bytes_decides name name).1 refl

-- one name isn't another one's
other_name : (name other third : List ℕ) → is_name name other ≡ false → is_name other third ≡ true → is_name name third ≡ false
other_name name other third differs equal = let same : other ≡ third = (bytes_decides other third).0 equal in subst (λ (x : List ℕ). is_name name x ≡ false) same differs

same_name : (name other : List ℕ) → is_name name other ≡ true → name ≡ other
same_name name other equal = (bytes_decides name other).0 equal

-- ---- where a name stands

-- how many names stand before it
abbrev place_of : List ℕ → Entries → ℕ
place_of name [] = 0
place_of name (e ∷ es) = cond (is_name name e.0) 0 (place_of name es + 1)

-- the name has this queue, and at most so many names before it
record IsAt (name : List ℕ) (queue : List (List ℕ)) (most : ℕ) (es : Entries) : Type 0 where
  found : queue_of name es ≡ Some queue
  near : place_of name es ≤ most

others_found : (name other : List ℕ) (es : Entries) → is_name name other ≡ false → queue_of name (others other es) ≡ queue_of name es
others_found name other [] differs = refl
others_found name other (e ∷ es) differs =
    (elim (is_name other e.0) as (λ b. is_name other e.0 ≡ b → queue_of name (cond b es (e ∷ remove_entry (is_name other) es)) ≡ queue_of name (e ∷ es)) [
      | true ↦ λ t. let not_this : is_name name e.0 ≡ false = other_name name other e.0 differs t in rw not_this refl
      | false ↦ λ t. ap (λ (o : Option (List (List ℕ))). cond (is_name name e.0) (Some e.1) o) (others_found name other es differs)
    ]) refl

others_near : (name other : List ℕ) (es : Entries) → is_name name other ≡ false → place_of name (others other es) ≤ place_of name es
others_near name other [] differs = omega arith
others_near name other (e ∷ es) differs =
    (elim (is_name other e.0) as (λ b. is_name other e.0 ≡ b → place_of name (cond b es (e ∷ remove_entry (is_name other) es)) ≤ place_of name (e ∷ es)) [
      | true ↦ λ t. let not_this : is_name name e.0 ≡ false = other_name name other e.0 differs t in rw not_this (omega arith)
      | false ↦ λ t. elim (is_name name e.0) as (λ b. cond b 0 (place_of name (others other es) + 1) ≤ cond b 0 (place_of name es + 1)) [
        | true ↦ omega arith
        | false ↦ omega (arith, others_near name other es differs)
      ]
    ]) refl

take_found : (n : ℕ) (name : List ℕ) (queue : List (List ℕ)) (es : Entries) → queue_of name es ≡ Some queue → place_of name es < n
    → (queue_of name (take n es) ≡ Some queue) × (place_of name (take n es) ≤ place_of name es)
take_found zero name queue es h l = absurd (omega arith)
take_found (suc n) name queue [] h l = (h, omega arith)
take_found (suc n) name queue (e ∷ es) h l =
    (elim (is_name name e.0) as (λ b. cond b (Some e.1) (queue_of name es) ≡ Some queue → cond b 0 (place_of name es + 1) < suc n
    → (cond b (Some e.1) (queue_of name (take n es)) ≡ Some queue) × (cond b 0 (place_of name (take n es) + 1) ≤ cond b 0 (place_of name es + 1))) [
      | true ↦ λ g m. (g, omega arith)
      | false ↦ λ g m. let rest = take_found n name queue es g (omega arith) in (rest.0, omega (arith, rest.1))
    ]) h l

-- behind another name
behind_other : (name other : List ℕ) (q queue : List (List ℕ)) (most : ℕ) (es : Entries) → is_name name other ≡ false → IsAt name queue most es → IsAt name queue (most + 1) ((other, q) ∷ es)
behind_other name other q queue most es differs at = record { found = rw differs at.found; near = rw differs (omega (arith, at.near)) }

without_other : (name other : List ℕ) (queue : List (List ℕ)) (most : ℕ) (es : Entries) → is_name name other ≡ false → IsAt name queue most es → IsAt name queue most (others other es)
without_other name other queue most es differs at = record { found = others_found name other es differs ∙ at.found; near = omega (arith, others_near name other es differs, at.near) }

in_front : (name : List ℕ) (queue : List (List ℕ)) (es : Entries) → IsAt name queue 0 ((name, queue) ∷ es)
in_front name queue es = record { found = rw (own_name name) refl; near = rw (own_name name) (omega arith) }

later : (name : List ℕ) (queue : List (List ℕ)) (most more : ℕ) (es : Entries) → most ≤ more → IsAt name queue most es → IsAt name queue more es
later name queue most more es l at = record { found = at.found; near = omega (arith, at.near) }

-- ---- another name's calls

put_other : (names most : ℕ) (name other token : List ℕ) (queue : List (List ℕ)) (p : ℕ) (es : Entries) → is_name name other ≡ false → p + 1 < names → IsAt name queue p es
    → IsAt name queue (p + 1) (entries_with names most other token es)
unfolding entries_with
put_other names most name other token queue p es differs l at =
    (elim (queue_of other es) as (λ o. queue_of other es ≡ o → IsAt name queue (p + 1) (with_token names most other token es o)) [
      | Some q ↦ λ e. behind_other name other (pushed most token q) queue p (others other es) differs (without_other name other queue p es differs at)
      | None ↦ λ e. let kept = take_found (names - 1) name queue es at.found (omega (arith, at.near)) in
          behind_other name other (token ∷ []) queue p (take (names - 1) es) differs (record { found = kept.0; near = omega (arith, kept.1, at.near) })
    ]) refl

take_other : (name other : List ℕ) (queue : List (List ℕ)) (p : ℕ) (es : Entries) → is_name name other ≡ false → IsAt name queue p es → IsAt name queue (p + 1) (entries_without other es)
unfolding entries_without
take_other name other queue p es differs at =
    (elim (queue_of other es) as (λ o. IsAt name queue (p + 1) (without_token other es o)) [
      | None ↦ later name queue p (p + 1) es (omega arith) at
      | Some q ↦ elim (nat_le (length q) 1) as (λ b. IsAt name queue (p + 1) (cond b (others other es) ((other, drop 1 q) ∷ others other es))) [
        | true ↦ later name queue p (p + 1) (others other es) (omega arith) (without_other name other queue p es differs at)
        | false ↦ behind_other name other (drop 1 q) queue p (others other es) differs (without_other name other queue p es differs at)
      ]
    ])

-- ---- a queue that holds the token

-- older tokens, and so many newer ones
record Holds (token : List ℕ) (newer most : ℕ) (queue : List (List ℕ)) : Type 0 where
  older : List (List ℕ)
  behind : List (List ℕ)
  parts : queue ≡ older ++ token ∷ behind
  few : length behind ≤ newer
  fits : length queue ≤ most

drop_older : (older behind : List (List ℕ)) (token : List ℕ) → 0 < length older → drop 1 (older ++ token ∷ behind) ≡ drop 1 older ++ token ∷ behind
drop_older [] behind token l = absurd (omega arith)
drop_older (o ∷ older) behind token l = refl

push_holds : (most newer : ℕ) (token added : List ℕ) (queue : List (List ℕ)) → newer + 1 < most → Holds token newer most queue → Holds token (newer + 1) most (pushed most added queue)
unfolding pushed
push_holds most newer token added queue l h =
    let long : length queue ≡ length h.older + (length h.behind + 1) = ap (λ (x : List (List ℕ)). length x) h.parts ∙ length-append h.older (token ∷ h.behind) ∙ omega arith in
    (elim (nat_le most (length queue)) as (λ b. nat_le most (length queue) ≡ b → length ((if b then drop 1 queue else queue) ++ added ∷ []) ≤ most → Holds token (newer + 1) most ((if b then drop 1 queue else queue) ++ added ∷ [])) [
      | true ↦ λ e s.
          let full : most ≤ length queue = grind (arith, nat_tests) in
          let some : 0 < length h.older = omega (arith, h.few) in
          record {
            older = drop 1 h.older;
            behind = h.behind ++ added ∷ [];
            parts = ap (λ (x : List (List ℕ)). drop 1 x ++ added ∷ []) h.parts ∙ ap (λ (x : List (List ℕ)). x ++ added ∷ []) (drop_older h.older h.behind token some) ∙ append_assoc (drop 1 h.older) (token ∷ h.behind) (added ∷ []);
            few = omega (arith, length_push h.behind added, h.few);
            fits = s;
          }
      | false ↦ λ e s.
          record {
            older = h.older;
            behind = h.behind ++ added ∷ [];
            parts = ap (λ (x : List (List ℕ)). x ++ added ∷ []) h.parts ∙ append_assoc h.older (token ∷ h.behind) (added ∷ []);
            few = omega (arith, length_push h.behind added, h.few);
            fits = s;
          }
    ]) refl (pushed_size most added queue (omega arith) h.fits).1

-- ---- this name's calls

abbrev cache_of : ℕ → ℕ → Entries → CacheValues
cache_of names most es = record { max_server_names = names; max_tokens_per_server = most; entries = es }

put_own : (names most : ℕ) (name token : List ℕ) (queue : List (List ℕ)) (p : ℕ) (es : Entries) → IsAt name queue p es → IsAt name (pushed most token queue) 0 (entries_with names most name token es)
unfolding entries_with
put_own names most name token queue p es at = rw at.found (in_front name (pushed most token queue) (others name es))

taken_token : (names most : ℕ) (name : List ℕ) (queue : List (List ℕ)) (p : ℕ) (es : Entries) → IsAt name queue p es → cache_taken (cache_of names most es) name ≡ slice_get queue 0
unfolding cache_taken oldest_of
taken_token names most name queue p es at = rw at.found refl

take_own : (name : List ℕ) (x y : List ℕ) (queue : List (List ℕ)) (p : ℕ) (es : Entries) → IsAt name (x ∷ y ∷ queue) p es → IsAt name (y ∷ queue) 0 (entries_without name es)
unfolding entries_without
take_own name x y queue p es at =
    let several : nat_le (length (x ∷ y ∷ queue)) 1 ≡ false = grind (arith, nat_tests) in
    rw (at.found, several) (in_front name (y ∷ queue) (others name es))

-- what a taking gives stands in front of what comes of the others
contains_first : (name token : List ℕ) (rest : List (List ℕ × List ℕ)) → Contains (named name (Some token) ++ rest) (name, token)
contains_first name token rest = (0, omega arith, refl)

-- a taking of the name gives the token, or an older one
take_mine : (rest : List CacheCall) (names most : ℕ) (name token : List ℕ) (older behind : List (List ℕ)) (p : ℕ) (es : Entries) → IsAt name (older ++ token ∷ behind) p es
    → (0 < length older → IsAt name (drop 1 older ++ token ∷ behind) 0 (entries_without name es) → Contains (given_of rest (cache_of names most (entries_without name es))) (name, token))
    → Contains (given_of (Take name ∷ rest) (cache_of names most es)) (name, token)
unfolding cache_after_take
take_mine rest names most name token [] behind p es at next =
    rw (taken_token names most name (token ∷ behind) p es at) (contains_first name token (given_of rest (cache_of names most (entries_without name es))))
take_mine rest names most name token (o ∷ []) behind p es at next =
    Contains-append_right (named name (cache_taken (cache_of names most es) name)) (given_of rest (cache_of names most (entries_without name es))) (name, token)
    (next (omega arith) (take_own name o token behind p es at))
take_mine rest names most name token (o ∷ q ∷ older) behind p es at next =
    Contains-append_right (named name (cache_taken (cache_of names most es) name)) (given_of rest (cache_of names most (entries_without name es))) (name, token)
    (next (omega arith) (take_own name o q (older ++ token ∷ behind) p es at))

-- takings of the name give the token
takes_give : (k names most : ℕ) (name token : List ℕ) (older behind : List (List ℕ)) (p : ℕ) (es : Entries) → length older < k → IsAt name (older ++ token ∷ behind) p es
    → Contains (given_of (replicate k (Take name)) (cache_of names most es)) (name, token)
takes_give zero names most name token older behind p es l at = absurd (omega arith)
takes_give (suc k) names most name token older behind p es l at =
    take_mine (replicate k (Take name)) names most name token older behind p es at
    (λ some now. takes_give k names most name token (drop 1 older) behind 0 (entries_without name es) (omega (arith, length-drop 1 older)) now)

inserted_is : (names most : ℕ) (name token : List ℕ) (es : Entries) → 0 < names → 0 < most → cache_inserted (cache_of names most es) name token ≡ cache_of names most (entries_with names most name token es)
unfolding cache_inserted
inserted_is names most name token es some room =
    let nothing : holds_nothing (cache_of names most es) ≡ false = grind (arith, nat_tests) in
    rw nothing refl

-- any calls, while the token isn't pushed out
calls_give : (calls : List CacheCall) (names most : ℕ) (name token : List ℕ) (queue : List (List ℕ)) (p newer : ℕ) (es : Entries) → p + others_in name calls < names → newer + puts_of name calls < most
    → IsAt name queue p es → Holds token newer most queue → Contains (given_of (calls ++ replicate most (Take name)) (cache_of names most es)) (name, token)
unfolding cache_after_take
calls_give [] names most name token queue p newer es few room at h =
    let long : length queue ≡ length h.older + (length h.behind + 1) = ap (λ (x : List (List ℕ)). length x) h.parts ∙ length-append h.older (token ∷ h.behind) ∙ omega arith in
    takes_give most names most name token h.older h.behind p es (omega (arith, h.fits)) (subst (λ (q : List (List ℕ)). IsAt name q p es) h.parts at)
calls_give (Put other added ∷ calls) names most name token queue p newer es few room at h =
    (elim (is_name name other) as (λ b. is_name name other ≡ b → p + (cond b 0 1 + others_in name calls) < names → newer + (cond b 1 0 + puts_of name calls) < most
    → Contains (given_of (Put other added ∷ (calls ++ replicate most (Take name))) (cache_of names most es)) (name, token)) [
      | true ↦ λ t f r.
          let now = calls_give calls names most name token (pushed most added queue) 0 (newer + 1) (entries_with names most name added es) (omega arith) (omega arith)
          (put_own names most name added queue p es at) (push_holds most newer token added queue (omega arith) h) in
          let here : Contains (given_of (calls ++ replicate most (Take name)) (cache_inserted (cache_of names most es) name added)) (name, token) =
          subst (λ (x : CacheValues). Contains (given_of (calls ++ replicate most (Take name)) x) (name, token)) (sym (inserted_is names most name added es (omega arith) (omega arith))) now in
          subst (λ (x : List ℕ). Contains (given_of (Put x added ∷ (calls ++ replicate most (Take name))) (cache_of names most es)) (name, token)) (same_name name other t) here
      | false ↦ λ t f r.
          subst (λ (x : CacheValues). Contains (given_of (calls ++ replicate most (Take name)) x) (name, token)) (sym (inserted_is names most other added es (omega arith) (omega arith)))
          (calls_give calls names most name token queue (p + 1) newer (entries_with names most other added es) (omega arith) (omega arith) (put_other names most name other added queue p es t (omega arith) at) h)
    ]) refl few room
calls_give (Take other ∷ calls) names most name token queue p newer es few room at h =
    (elim (is_name name other) as (λ b. is_name name other ≡ b → p + (cond b 0 1 + others_in name calls) < names
    → Contains (given_of (Take other ∷ (calls ++ replicate most (Take name))) (cache_of names most es)) (name, token)) [
      | true ↦ λ t f.
          let long : length queue ≡ length h.older + (length h.behind + 1) = ap (λ (x : List (List ℕ)). length x) h.parts ∙ length-append h.older (token ∷ h.behind) ∙ omega arith in
          let here : Contains (given_of (Take name ∷ (calls ++ replicate most (Take name))) (cache_of names most es)) (name, token) =
          take_mine (calls ++ replicate most (Take name)) names most name token h.older h.behind p es (subst (λ (q : List (List ℕ)). IsAt name q p es) h.parts at)
          (λ some now. calls_give calls names most name token (drop 1 h.older ++ token ∷ h.behind) 0 newer (entries_without name es) (omega arith) room now
          (record { older = drop 1 h.older; behind = h.behind; parts = refl; few = h.few; fits = omega (arith, h.fits, length-append (drop 1 h.older) (token ∷ h.behind), length-drop 1 h.older) })) in
          subst (λ (x : List ℕ). Contains (given_of (Take x ∷ (calls ++ replicate most (Take name))) (cache_of names most es)) (name, token)) (same_name name other t) here
      | false ↦ λ t f.
          Contains-append_right (named other (cache_taken (cache_of names most es) other)) (given_of (calls ++ replicate most (Take name)) (cache_of names most (entries_without other es))) (name, token)
          (calls_give calls names most name token queue (p + 1) newer (entries_without other es) (omega arith) room (take_other name other queue p es t at) h)
    ]) refl few

-- ---- what a cache is made of

record IsOf (names most : ℕ) (c : CacheValues) : Type 0 where
  names_same : c.max_server_names ≡ names
  most_same : c.max_tokens_per_server ≡ most
  have : HaveTokens most c.entries

inserted_of : (names most : ℕ) (c : CacheValues) (name token : List ℕ) → IsOf names most c → IsOf names most (cache_inserted c name token)
unfolding cache_inserted
inserted_of names most c name token h =
    (elim (holds_nothing c) as (λ b. holds_nothing c ≡ b → IsOf names most (if b then c else record c { entries = entries_with c.max_server_names c.max_tokens_per_server name token c.entries })) [
      | true ↦ λ e. h
      | false ↦ λ e.
          let some : 0 < c.max_tokens_per_server = grind (arith, nat_tests) in
          record {
            names_same = h.names_same;
            most_same = h.most_same;
            have = with_tokens c.max_server_names most name token c.entries (entries_with c.max_server_names c.max_tokens_per_server name token c.entries) (omega (arith, h.most_same)) h.have
                (ap (λ (n : ℕ). entries_with c.max_server_names n name token c.entries) h.most_same);
          }
    ]) refl

run_of : (names most : ℕ) (calls : List CacheCall) (c : CacheValues) → IsOf names most c → IsOf names most (cache_run calls c)
unfolding cache_after_take
run_of names most [] c h = h
run_of names most (Put name token ∷ calls) c h = run_of names most calls (cache_inserted c name token) (inserted_of names most c name token h)
run_of names most (Take name ∷ calls) c h =
    run_of names most calls (record c { entries = entries_without name c.entries })
    (record { names_same = h.names_same; most_same = h.most_same; have = without_tokens most name c.entries (entries_without name c.entries) h.have refl })

-- a token that was just put in is the newest of its queue, in front
record IsNew (names most : ℕ) (name token : List ℕ) (es : Entries) : Type 0 where
  queue : List (List ℕ)
  at : IsAt name queue 0 (entries_with names most name token es)
  holds : Holds token 0 most queue

is_new : (names most : ℕ) (name token : List ℕ) (es : Entries) → 0 < most → HaveTokens most es → IsNew names most name token es
unfolding entries_with pushed
is_new names most name token es room have =
    (elim (queue_of name es) as (λ o. queue_of name es ≡ o → IsNew names most name token es) [
      | None ↦ λ e. record {
        queue = token ∷ [];
        at = rw e (in_front name (token ∷ []) (take (names - 1) es));
        holds = record { older = []; behind = []; parts = refl; few = omega arith; fits = omega arith };
      }
      | Some q ↦ λ e. record {
        queue = pushed most token q;
        at = rw e (in_front name (pushed most token q) (others name es));
        holds = record {
          older = if nat_le most (length q) then drop 1 q else q;
          behind = [];
          parts = refl;
          few = omega arith;
          fits = (pushed_size most token q room (found_has most name es q e have).1).1;
        };
      }
    ]) refl

same_cache : (names most : ℕ) (c : CacheValues) → c.max_server_names ≡ names → c.max_tokens_per_server ≡ most → c ≡ cache_of names most c.entries
same_cache names most c e f = ap (λ (n : ℕ). cache_of n c.max_tokens_per_server c.entries) e ∙ ap (λ (m : ℕ). cache_of names m c.entries) f

pub gives_kept : (names tokens : ℕ) (before : List CacheCall) (name token : List ℕ) (calls : List CacheCall) → GivesKept names tokens before name token calls
unfolding GivesKept
gives_kept names tokens before name token calls = λ room few.
    let c : CacheValues = cache_run before (empty_cache names tokens) in
    let of : IsOf names tokens c = run_of names tokens before (empty_cache names tokens) (record { names_same = refl; most_same = refl; have = tt }) in
    let same : c ≡ cache_of names tokens c.entries = same_cache names tokens c of.names_same of.most_same in
    let new : IsNew names tokens name token c.entries = is_new names tokens name token c.entries (omega arith) of.have in
    let now = calls_give calls names tokens name token new.queue 0 0 (entries_with names tokens name token c.entries) (omega arith) (omega arith) new.at new.holds in
    let there : cache_inserted c name token ≡ cache_of names tokens (entries_with names tokens name token c.entries) =
    ap (λ (x : CacheValues). cache_inserted x name token) same ∙ inserted_is names tokens name token c.entries (omega arith) (omega arith) in
    subst (λ (x : CacheValues). Contains (given_of (calls ++ replicate tokens (Take name)) x) (name, token)) (sym there) now

-- ---- in their order

part_more : (xs ys : List (List ℕ)) (y : List ℕ) → IsPart xs ys → IsPart xs (y ∷ ys)
part_more [] ys y h = tt
part_more (x ∷ xs) ys y h = inr h

part_same : (xs : List (List ℕ)) → IsPart xs xs
part_same [] = tt
part_same (x ∷ xs) = inl (refl, part_same xs)

part_drop : (xs ys : List (List ℕ)) → IsPart xs ys → IsPart (drop 1 xs) ys
part_drop [] ys h = tt
part_drop (x ∷ xs) [] h = absurd h
part_drop (x ∷ xs) (y ∷ ys) h = elim h as (λ _. IsPart xs (y ∷ ys)) [ inl k ↦ part_more xs ys y k.1 | inr k ↦ part_more xs ys y (part_drop (x ∷ xs) ys k) ]

part_push : (xs ys : List (List ℕ)) (z : List ℕ) → IsPart xs ys → IsPart (xs ++ z ∷ []) (ys ++ z ∷ [])
part_push [] [] z h = inl (refl, tt)
part_push [] (y ∷ ys) z h = inr (part_push [] ys z tt)
part_push (x ∷ xs) [] z h = absurd h
part_push (x ∷ xs) (y ∷ ys) z h = elim h as (λ _. IsPart (x ∷ (xs ++ z ∷ [])) (y ∷ (ys ++ z ∷ []))) [ inl k ↦ inl (k.0, part_push xs ys z k.1) | inr k ↦ inr (part_push (x ∷ xs) ys z k) ]

pushed_part : (most : ℕ) (token : List ℕ) (queue seen : List (List ℕ)) → IsPart queue seen → IsPart (pushed most token queue) (seen ++ token ∷ [])
unfolding pushed
pushed_part most token queue seen h =
    elim (nat_le most (length queue)) as (λ b. IsPart ((if b then drop 1 queue else queue) ++ token ∷ []) (seen ++ token ∷ [])) [
      | true ↦ part_push (drop 1 queue) seen token (part_drop queue seen h)
      | false ↦ part_push queue seen token h
    ]

part_wider : (xs ys zs : List (List ℕ)) → IsPart xs ys → IsPart xs (ys ++ zs)
part_wider [] ys zs h = tt
part_wider (x ∷ xs) [] zs h = absurd h
part_wider (x ∷ xs) (y ∷ ys) zs h = elim h as (λ _. IsPart (x ∷ xs) (y ∷ (ys ++ zs))) [ inl k ↦ inl (k.0, part_wider xs ys zs k.1) | inr k ↦ inr (part_wider (x ∷ xs) ys zs k) ]

-- what comes first of a part comes first, whatever is part of what is behind it
part_then : (x : List ℕ) (xs ys rest zs : List (List ℕ)) → IsPart (x ∷ xs) ys → ((ws : List (List ℕ)) → IsPart xs ws → IsPart rest (ws ++ zs)) → IsPart (x ∷ rest) (ys ++ zs)
part_then x xs [] rest zs h next = absurd h
part_then x xs (y ∷ ys) rest zs h next =
    elim h as (λ _. IsPart (x ∷ rest) (y ∷ (ys ++ zs))) [ inl k ↦ inl (k.0, next ys k.1) | inr k ↦ inr (part_then x xs ys rest zs k next) ]

-- how often a name stands there
abbrev count_of : List ℕ → Entries → ℕ
count_of name [] = 0
count_of name (e ∷ es) = cond (is_name name e.0) 1 0 + count_of name es

none_of : (name : List ℕ) (es : Entries) → count_of name es ≡ 0 → queue_of name es ≡ None
none_of name [] h = refl
none_of name (e ∷ es) h =
    (elim (is_name name e.0) as (λ b. cond b 1 0 + count_of name es ≡ 0 → cond b (Some e.1) (queue_of name es) ≡ None) [
      | true ↦ λ g. absurd (omega arith)
      | false ↦ λ g. none_of name es (omega arith)
    ]) h

of_none : (name : List ℕ) (es : Entries) → queue_of name es ≡ None → count_of name es ≡ 0
of_none name [] h = refl
of_none name (e ∷ es) h =
    (elim (is_name name e.0) as (λ b. cond b (Some e.1) (queue_of name es) ≡ None → cond b 1 0 + count_of name es ≡ 0) [
      | true ↦ λ g. cc
      | false ↦ λ g. omega (arith, of_none name es g)
    ]) h

count_own : (name : List ℕ) (queue : List (List ℕ)) (es : Entries) → queue_of name es ≡ Some queue → count_of name (others name es) + 1 ≡ count_of name es
count_own name queue [] h = cc
count_own name queue (e ∷ es) h =
    (elim (is_name name e.0) as (λ b. is_name name e.0 ≡ b → cond b (Some e.1) (queue_of name es) ≡ Some queue → count_of name (cond b es (e ∷ others name es)) + 1 ≡ cond b 1 0 + count_of name es) [
      | true ↦ λ t g. omega arith
      | false ↦ λ t g. rw t (omega (arith, count_own name queue es g))
    ]) refl h

count_others : (name other : List ℕ) (es : Entries) → count_of name (others other es) ≤ count_of name es
count_others name other [] = omega arith
count_others name other (e ∷ es) =
    elim (is_name other e.0) as (λ b. count_of name (cond b es (e ∷ others other es)) ≤ cond (is_name name e.0) 1 0 + count_of name es) [
      | true ↦ omega arith
      | false ↦ omega (arith, count_others name other es)
    ]

count_take : (n : ℕ) (name : List ℕ) (es : Entries) → count_of name (take n es) ≤ count_of name es
count_take zero name es = omega arith
count_take (suc n) name [] = omega arith
count_take (suc n) name (e ∷ es) = omega (arith, count_take n name es)

-- the tokens that are kept of a name
abbrev queue_or : Option (List (List ℕ)) → List (List ℕ)
queue_or None = []
queue_or (Some queue) = queue

take_part : (n : ℕ) (name : List ℕ) (es : Entries) (seen : List (List ℕ)) → IsPart (queue_or (queue_of name es)) seen → IsPart (queue_or (queue_of name (take n es))) seen
take_part zero name es seen h = tt
take_part (suc n) name [] seen h = h
take_part (suc n) name (e ∷ es) seen h =
    (elim (is_name name e.0) as (λ b. IsPart (queue_or (cond b (Some e.1) (queue_of name es))) seen → IsPart (queue_or (cond b (Some e.1) (queue_of name (take n es)))) seen) [
      | true ↦ λ g. g
      | false ↦ λ g. take_part n name es seen g
    ]) h

-- a name stands there once at most, and its queue is part of what came for it
record Follows (name : List ℕ) (seen : List (List ℕ)) (es : Entries) : Type 0 where
  once : count_of name es ≤ 1
  part : IsPart (queue_or (queue_of name es)) seen

in_front_follows : (name : List ℕ) (queue seen : List (List ℕ)) (es : Entries) → count_of name es ≡ 0 → IsPart queue seen → Follows name seen ((name, queue) ∷ es)
in_front_follows name queue seen es none h = record { once = rw (own_name name) (omega arith); part = rw (own_name name) h }

behind_follows : (name other : List ℕ) (q seen : List (List ℕ)) (es : Entries) → is_name name other ≡ false → Follows name seen es → Follows name seen ((other, q) ∷ es)
behind_follows name other q seen es differs h = record { once = rw differs (omega (arith, h.once)); part = rw differs h.part }

others_follow : (name other : List ℕ) (seen : List (List ℕ)) (es : Entries) → is_name name other ≡ false → Follows name seen es → Follows name seen (others other es)
others_follow name other seen es differs h = record { once = omega (arith, count_others name other es, h.once); part = rw (others_found name other es differs) h.part }

put_mine_follows : (names most : ℕ) (name token : List ℕ) (seen : List (List ℕ)) (es : Entries) → Follows name seen es → Follows name (seen ++ token ∷ []) (entries_with names most name token es)
unfolding entries_with
put_mine_follows names most name token seen es h =
    (elim (queue_of name es) as (λ o. queue_of name es ≡ o → IsPart (queue_or o) seen → Follows name (seen ++ token ∷ []) (with_token names most name token es o)) [
      | None ↦ λ e p. in_front_follows name (token ∷ []) (seen ++ token ∷ []) (take (names - 1) es) (omega (arith, count_take (names - 1) name es, of_none name es e)) (part_push [] seen token tt)
      | Some q ↦ λ e p. in_front_follows name (pushed most token q) (seen ++ token ∷ []) (others name es) (omega (arith, count_own name q es e, h.once)) (pushed_part most token q seen p)
    ]) refl h.part

put_other_follows : (names most : ℕ) (name other token : List ℕ) (seen : List (List ℕ)) (es : Entries) → is_name name other ≡ false → Follows name seen es → Follows name seen (entries_with names most other token es)
unfolding entries_with
put_other_follows names most name other token seen es differs h =
    elim (queue_of other es) as (λ o. Follows name seen (with_token names most other token es o)) [
      | None ↦ behind_follows name other (token ∷ []) seen (take (names - 1) es) differs (record { once = omega (arith, count_take (names - 1) name es, h.once); part = take_part (names - 1) name es seen h.part })
      | Some q ↦ behind_follows name other (pushed most token q) seen (others other es) differs (others_follow name other seen es differs h)
    ]

take_other_follows : (name other : List ℕ) (seen : List (List ℕ)) (es : Entries) → is_name name other ≡ false → Follows name seen es → Follows name seen (entries_without other es)
unfolding entries_without
take_other_follows name other seen es differs h =
    elim (queue_of other es) as (λ o. Follows name seen (without_token other es o)) [
      | None ↦ h
      | Some q ↦ elim (nat_le (length q) 1) as (λ b. Follows name seen (cond b (others other es) ((other, drop 1 q) ∷ others other es))) [
        | true ↦ others_follow name other seen es differs h
        | false ↦ behind_follows name other (drop 1 q) seen (others other es) differs (others_follow name other seen es differs h)
      ]
    ]

put_wider : (name token : List ℕ) (seen : List (List ℕ)) (es : Entries) → Follows name seen es → Follows name (seen ++ token ∷ []) es
put_wider name token seen es h = record { once = h.once; part = part_wider (queue_or (queue_of name es)) seen (token ∷ []) h.part }

inserted_follows : (c : CacheValues) (name token : List ℕ) (seen : List (List ℕ)) → Follows name seen c.entries → Follows name (seen ++ token ∷ []) (cache_inserted c name token).entries
unfolding cache_inserted
inserted_follows c name token seen h =
    elim (holds_nothing c) as (λ b. Follows name (seen ++ token ∷ []) (if b then c else record c { entries = entries_with c.max_server_names c.max_tokens_per_server name token c.entries }).entries) [
      | true ↦ put_wider name token seen c.entries h
      | false ↦ put_mine_follows c.max_server_names c.max_tokens_per_server name token seen c.entries h
    ]

other_inserted_follows : (c : CacheValues) (name other token : List ℕ) (seen : List (List ℕ)) → is_name name other ≡ false → Follows name seen c.entries → Follows name seen (cache_inserted c other token).entries
unfolding cache_inserted
other_inserted_follows c name other token seen differs h =
    elim (holds_nothing c) as (λ b. Follows name seen (if b then c else record c { entries = entries_with c.max_server_names c.max_tokens_per_server other token c.entries }).entries) [
      | true ↦ h
      | false ↦ put_other_follows c.max_server_names c.max_tokens_per_server name other token seen c.entries differs h
    ]

-- what a taking gives, and what is left
queue_taken : (name : List ℕ) (es : Entries) (queue seen rest zs : List (List ℕ)) → queue_of name es ≡ Some queue → count_of name es ≤ 1 → IsPart queue seen
    → ((ws : List (List ℕ)) → Follows name ws (without_token name es (Some queue)) → IsPart rest (ws ++ zs)) → IsPart (option_to_list (slice_get queue 0) ++ rest) (seen ++ zs)
queue_taken name es [] seen rest zs found once h next =
    let gone : count_of name (others name es) ≡ 0 = omega (arith, count_own name [] es found) in
    next seen (record { once = omega arith; part = rw (none_of name (others name es) gone) tt })
queue_taken name es (x ∷ []) seen rest zs found once h next =
    let gone : count_of name (others name es) ≡ 0 = omega (arith, count_own name (x ∷ []) es found) in
    part_then x [] seen rest zs h (λ ws p. next ws (record { once = omega arith; part = rw (none_of name (others name es) gone) tt }))
queue_taken name es (x ∷ y ∷ queue) seen rest zs found once h next =
    let gone : count_of name (others name es) ≡ 0 = omega (arith, count_own name (x ∷ y ∷ queue) es found) in
    let several : nat_le (length (x ∷ y ∷ queue)) 1 ≡ false = grind (arith, nat_tests) in
    part_then x (y ∷ queue) seen rest zs h (λ ws p. next ws (rw several (in_front_follows name (y ∷ queue) ws (others name es) gone p)))

taken_in_order : (name : List ℕ) (es : Entries) (seen rest zs : List (List ℕ)) → Follows name seen es
    → ((ws : List (List ℕ)) → Follows name ws (entries_without name es) → IsPart rest (ws ++ zs)) → IsPart (option_to_list (oldest_of name es) ++ rest) (seen ++ zs)
unfolding entries_without oldest_of
taken_in_order name es seen rest zs h next =
    (elim (queue_of name es) as (λ o. queue_of name es ≡ o → IsPart (queue_or o) seen → ((ws : List (List ℕ)) → Follows name ws (without_token name es o) → IsPart rest (ws ++ zs))
    → IsPart (option_to_list (option_and_then (λ queue. slice_get queue 0) o) ++ rest) (seen ++ zs)) [
      | None ↦ λ e p n. n seen h
      | Some queue ↦ λ e p n. queue_taken name es queue seen rest zs e h.once p n
    ]) refl h.part next

calls_in_order : (name : List ℕ) (calls : List CacheCall) (c : CacheValues) (seen : List (List ℕ)) → Follows name seen c.entries → IsPart (given_to name calls c) (seen ++ brought_for name calls)
unfolding cache_after_take cache_taken
calls_in_order name [] c seen h = tt
calls_in_order name (Put other token ∷ calls) c seen h =
    (elim (is_name name other) as (λ b. is_name name other ≡ b → IsPart (given_to name calls (cache_inserted c other token)) (seen ++ (cond b (token ∷ []) [] ++ brought_for name calls))) [
      | true ↦ λ t.
          let now : IsPart (given_to name calls (cache_inserted c name token)) ((seen ++ token ∷ []) ++ brought_for name calls) = calls_in_order name calls (cache_inserted c name token) (seen ++ token ∷ []) (inserted_follows c name token seen h) in
          let here : IsPart (given_to name calls (cache_inserted c name token)) (seen ++ (token ∷ brought_for name calls)) = rw append_assoc at now in
          subst (λ (x : List ℕ). IsPart (given_to name calls (cache_inserted c x token)) (seen ++ (token ∷ brought_for name calls))) (same_name name other t) here
      | false ↦ λ t. calls_in_order name calls (cache_inserted c other token) seen (other_inserted_follows c name other token seen t h)
    ]) refl
calls_in_order name (Take other ∷ calls) c seen h =
    (elim (is_name name other) as (λ b. is_name name other ≡ b
    → IsPart (cond b (option_to_list (oldest_of other c.entries)) [] ++ given_to name calls (record c { entries = entries_without other c.entries })) (seen ++ brought_for name calls)) [
      | true ↦ λ t.
          let here : IsPart (option_to_list (oldest_of name c.entries) ++ given_to name calls (record c { entries = entries_without name c.entries })) (seen ++ brought_for name calls) =
          taken_in_order name c.entries seen (given_to name calls (record c { entries = entries_without name c.entries })) (brought_for name calls) h
          (λ ws f. calls_in_order name calls (record c { entries = entries_without name c.entries }) ws f) in
          subst (λ (x : List ℕ). IsPart (option_to_list (oldest_of x c.entries) ++ given_to name calls (record c { entries = entries_without x c.entries })) (seen ++ brought_for name calls)) (same_name name other t) here
      | false ↦ λ t. calls_in_order name calls (record c { entries = entries_without other c.entries }) seen (take_other_follows name other seen c.entries t h)
    ]) refl

pub gives_in_order : (names tokens : ℕ) (name : List ℕ) (calls : List CacheCall) → GivesInOrder names tokens name calls
unfolding GivesInOrder
gives_in_order names tokens name calls = calls_in_order name calls (empty_cache names tokens) [] (record { once = omega arith; part = tt })
