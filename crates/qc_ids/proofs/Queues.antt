-- Lists of kept ids
use Rattle.std.proofs.Common.{◌≡◌, Option, Some, None, IsSome, ℕ, ◌+◌, ◌<◌, ◌≤◌, Bool, true, false, List, [], ◌∷◌, ◌++◌, length, drop, get_or, max, arith, refl, ap, sym, ◌∙◌, append_assoc, append-nil}
use Rattle.std.proofs.lemmas.List.{drop_more, drop_all, length-append, length_push}
use Rattle.std.proofs.lemmas.Bool.Decides.{nat_tests}
use Rattle.std.specs.List.{filter}
use Rattle.qc_ids.specs.declared.cid_queue.KeptCid.{KeptCid}
use Rattle.qc_ids.specs.CidQueue.{Ascends, HasTokensAbove, IsQueue, IsTaken, active_seq_of, active_token_of, given_cid, is_above, is_between, kept_above, kept_between, inserted, renewal_of}
use Rattle.std.specs.Option.{option_map}
use Rattle.qc_frame.specs.declared.frames.NewConnectionId.{NewConnectionId}

-- ---- one step of the walks along the ids

filter_in : {X : Type 0} (p : X → Bool) (start out xs : List X) (i : ℕ) (x : X) → i < length xs → x ≡ get_or xs i x → p x ≡ true
    → out ++ filter p (drop i xs) ≡ start → (out ++ x ∷ []) ++ filter p (drop (i + 1) xs) ≡ start
filter_in p start out xs i x fits e pass h =
    let split : drop i xs ≡ x ∷ drop (i + 1) xs = drop_more xs i x fits ∙ ap (λ y. y ∷ drop (i + 1) xs) (sym e) in
    let kept = rw (split, pass) at h in
    rw append_assoc kept

filter_out : {X : Type 0} (p : X → Bool) (start out xs : List X) (i : ℕ) (x : X) → i < length xs → x ≡ get_or xs i x → p x ≡ false
    → out ++ filter p (drop i xs) ≡ start → out ++ filter p (drop (i + 1) xs) ≡ start
filter_out p start out xs i x fits e pass h =
    let split : drop i xs ≡ x ∷ drop (i + 1) xs = drop_more xs i x fits ∙ ap (λ y. y ∷ drop (i + 1) xs) (sym e) in
    rw (split, pass) at h

pub between_in : (low high : ℕ) (start out xs : List KeptCid) (i : ℕ) (x : KeptCid) → i < length xs → x ≡ get_or xs i x → is_between low high x ≡ true
    → out ++ kept_between low high (drop i xs) ≡ start → (out ++ x ∷ []) ++ kept_between low high (drop (i + 1) xs) ≡ start
unfolding kept_between
between_in low high = filter_in (is_between low high)

pub between_out : (low high : ℕ) (start out xs : List KeptCid) (i : ℕ) (x : KeptCid) → i < length xs → x ≡ get_or xs i x → is_between low high x ≡ false
    → out ++ kept_between low high (drop i xs) ≡ start → out ++ kept_between low high (drop (i + 1) xs) ≡ start
unfolding kept_between
between_out low high = filter_out (is_between low high)

pub between_end : (low high : ℕ) (start out xs : List KeptCid) (i : ℕ) → length xs ≤ i → out ++ kept_between low high (drop i xs) ≡ start → out ≡ start
unfolding kept_between
between_end low high start out xs i all h = sym (append-nil out) ∙ rw (drop_all i xs all) at h

-- while one is to come, there is room
pub between_room : (low high : ℕ) (start out xs : List KeptCid) (i : ℕ) (x : KeptCid) → i < length xs → x ≡ get_or xs i x → is_between low high x ≡ true
    → out ++ kept_between low high (drop i xs) ≡ start → length out < length start
between_room low high start out xs i x fits e pass h =
    let all = ap length (between_in low high start out xs i x fits e pass h) in
    omega (arith, all, length-append (out ++ x ∷ []) (kept_between low high (drop (i + 1) xs)), length_push out x)

pub above_in : (n : ℕ) (start out xs : List KeptCid) (i : ℕ) (x : KeptCid) → i < length xs → x ≡ get_or xs i x → is_above n x ≡ true
    → out ++ kept_above n (drop i xs) ≡ start → (out ++ x ∷ []) ++ kept_above n (drop (i + 1) xs) ≡ start
unfolding kept_above
above_in n = filter_in (is_above n)

pub above_out : (n : ℕ) (start out xs : List KeptCid) (i : ℕ) (x : KeptCid) → i < length xs → x ≡ get_or xs i x → is_above n x ≡ false
    → out ++ kept_above n (drop i xs) ≡ start → out ++ kept_above n (drop (i + 1) xs) ≡ start
unfolding kept_above
above_out n = filter_out (is_above n)

pub above_end : (n : ℕ) (start out xs : List KeptCid) (i : ℕ) → length xs ≤ i → out ++ kept_above n (drop i xs) ≡ start → out ≡ start
unfolding kept_above
above_end n start out xs i all h = sym (append-nil out) ∙ rw (drop_all i xs all) at h

pub above_room : (n : ℕ) (start out xs : List KeptCid) (i : ℕ) (x : KeptCid) → i < length xs → x ≡ get_or xs i x → is_above n x ≡ true
    → out ++ kept_above n (drop i xs) ≡ start → length out < length start
above_room n start out xs i x fits e pass h =
    let all = ap length (above_in n start out xs i x fits e pass h) in
    omega (arith, all, length-append (out ++ x ∷ []) (kept_above n (drop (i + 1) xs)), length_push out x)

-- ---- the order of the numbers

pub weaken : (low low' high high' : ℕ) (ids : List KeptCid) → low' ≤ low → high ≤ high' → Ascends low high ids → Ascends low' high' ids
weaken low low' high high' [] l h s = tt
weaken low low' high high' (x ∷ ids) l h s =
    let a : low ≤ x.sequence = s.0 in let b : x.sequence < high = s.1 in
    (omega arith, omega arith, weaken (x.sequence + 1) (x.sequence + 1) high high' ids (omega arith) h s.2)

pub few : (low high : ℕ) (ids : List KeptCid) → low ≤ high → Ascends low high ids → length ids + low ≤ high
few low high [] l s = omega arith
few low high (x ∷ ids) l s =
    let a : low ≤ x.sequence = s.0 in let b : x.sequence < high = s.1 in
    let rest = few (x.sequence + 1) high ids (omega arith) s.2 in omega arith

pub between_ascends : (low s l h : ℕ) (ids : List KeptCid) → Ascends l h ids → Ascends (max l low) s (kept_between low s ids)
unfolding kept_between
between_ascends low s l h [] asc = tt
between_ascends low s l h (x ∷ ids) asc =
    let a : l ≤ x.sequence = asc.0 in
    let rest = between_ascends low s (x.sequence + 1) h ids asc.2 in
    (elim (is_between low s x) as (λ b. is_between low s x ≡ b → Ascends (max l low) s (filter (is_between low s) (x ∷ ids))) [
      | true ↦ λ e. let c : (low ≤ x.sequence) × (x.sequence < s) = grind (arith, nat_tests) in
          rw e (omega (arith, c.0), c.1, weaken (max (x.sequence + 1) low) (x.sequence + 1) s s (kept_between low s ids) (omega arith) (omega arith) rest)
      | false ↦ λ e. rw e (weaken (max (x.sequence + 1) low) (max l low) s s (kept_between low s ids) (omega arith) (omega arith) rest)
    ]) refl

pub above_ascends : (n l h : ℕ) (ids : List KeptCid) → Ascends l h ids → Ascends (max l (n + 1)) h (kept_above n ids)
unfolding kept_above
above_ascends n l h [] asc = tt
above_ascends n l h (x ∷ ids) asc =
    let a : l ≤ x.sequence = asc.0 in
    let rest = above_ascends n (x.sequence + 1) h ids asc.2 in
    (elim (is_above n x) as (λ b. is_above n x ≡ b → Ascends (max l (n + 1)) h (filter (is_above n) (x ∷ ids))) [
      | true ↦ λ e. let c : n < x.sequence = grind (arith, nat_tests) in
          rw e (omega arith, asc.1, weaken (max (x.sequence + 1) (n + 1)) (x.sequence + 1) h h (kept_above n ids) (omega arith) (omega arith) rest)
      | false ↦ λ e. rw e (weaken (max (x.sequence + 1) (n + 1)) (max l (n + 1)) h h (kept_above n ids) (omega arith) (omega arith) rest)
    ]) refl

pub join : (low s high : ℕ) (xs ys : List KeptCid) (c : KeptCid) → Ascends low s xs → low ≤ s → s < high → c.sequence ≡ s → Ascends (s + 1) high ys
    → Ascends low high (xs ++ c ∷ ys)
join low s high [] ys c asc l h e rest = (omega arith, omega arith, weaken (s + 1) (c.sequence + 1) high high ys (omega arith) (omega arith) rest)
join low s high (x ∷ xs) ys c asc l h e rest =
    let a : x.sequence < s = asc.1 in
    (asc.0, omega arith, join (x.sequence + 1) s high xs ys c asc.2 (omega arith) h e rest)

-- ---- what is kept once a frame was taken

pub queue_ascends : (ids : List KeptCid) → IsQueue ids → Ascends (active_seq_of ids) (active_seq_of ids + 5) ids
queue_ascends [] q = absurd q
queue_ascends (x ∷ ids) q = (omega arith, omega arith, q.0)

before_ascends : (new : NewConnectionId) (ids : List KeptCid) → IsTaken new ids
    → Ascends (max (active_seq_of ids) new.retire_prior_to) new.sequence (kept_between new.retire_prior_to new.sequence ids)
before_ascends new ids t = between_ascends new.retire_prior_to new.sequence (active_seq_of ids) (active_seq_of ids + 5) ids (queue_ascends ids t.queue)

pub inserted_ascends : (new : NewConnectionId) (ids : List KeptCid) → IsTaken new ids
    → Ascends (max (active_seq_of ids) new.retire_prior_to) (max (active_seq_of ids) new.retire_prior_to + 5) (inserted new ids)
unfolding inserted
inserted_ascends new ids t =
    let order = t.order in let from = t.from_active in let within = t.within in
    let behind = above_ascends new.sequence (active_seq_of ids) (active_seq_of ids + 5) ids (queue_ascends ids t.queue) in
    join (max (active_seq_of ids) new.retire_prior_to) new.sequence (max (active_seq_of ids) new.retire_prior_to + 5)
    (kept_between new.retire_prior_to new.sequence ids) (kept_above new.sequence ids) (given_cid new) (before_ascends new ids t)
    (omega arith) within refl
    (weaken (max (active_seq_of ids) (new.sequence + 1)) (new.sequence + 1) (active_seq_of ids + 5) (max (active_seq_of ids) new.retire_prior_to + 5) (kept_above new.sequence ids) (omega arith) (omega arith) behind)

pub inserted_few : (new : NewConnectionId) (ids : List KeptCid) → IsTaken new ids → length (inserted new ids) ≤ 5
inserted_few new ids t =
    let m = max (active_seq_of ids) new.retire_prior_to in
    omega (arith, few (max (active_seq_of ids) new.retire_prior_to) (max (active_seq_of ids) new.retire_prior_to + 5) (inserted new ids) (omega arith) (inserted_ascends new ids t))

pub room_behind : (new : NewConnectionId) (ids out : List KeptCid) → IsTaken new ids → out ≡ kept_between new.retire_prior_to new.sequence ids ++ given_cid new ∷ []
    → length out + length (kept_above new.sequence ids) ≤ 5
unfolding inserted
room_behind new ids out t e =
    omega (
      arith,
      inserted_few new ids t,
      ap length e,
      length_push (kept_between new.retire_prior_to new.sequence ids) (given_cid new),
      length-append (kept_between new.retire_prior_to new.sequence ids) (given_cid new ∷ kept_above new.sequence ids),
    )

pub room_before : (new : NewConnectionId) (ids : List KeptCid) → IsTaken new ids → length (kept_between new.retire_prior_to new.sequence ids) < 5
unfolding inserted
room_before new ids t =
    omega (
      arith,
      inserted_few new ids t,
      length-append (kept_between new.retire_prior_to new.sequence ids) (given_cid new ∷ kept_above new.sequence ids),
    )

-- ---- the queue that is left

tokens_weaker : (n m : ℕ) (ids : List KeptCid) → n ≤ m → HasTokensAbove n ids → HasTokensAbove m ids
tokens_weaker n m [] l h = tt
tokens_weaker n m (x ∷ ids) l h = (λ above. h.0 (omega arith), tokens_weaker n m ids l h.1)

tokens_append : (n : ℕ) (xs ys : List KeptCid) → HasTokensAbove n xs → HasTokensAbove n ys → HasTokensAbove n (xs ++ ys)
tokens_append n [] ys a b = b
tokens_append n (x ∷ xs) ys a b = (a.0, tokens_append n xs ys a.1 b)

tokens_filter : (n : ℕ) (p : KeptCid → Bool) (ids : List KeptCid) → HasTokensAbove n ids → HasTokensAbove n (filter p ids)
tokens_filter n p [] h = tt
tokens_filter n p (x ∷ ids) h =
    (elim (p x) as (λ b. p x ≡ b → HasTokensAbove n (filter p (x ∷ ids))) [
      | true ↦ λ e. rw e (h.0, tokens_filter n p ids h.1)
      | false ↦ λ e. rw e (tokens_filter n p ids h.1)
    ]) refl

queue_tokens : (ids : List KeptCid) → IsQueue ids → HasTokensAbove (active_seq_of ids) ids
queue_tokens [] q = absurd q
queue_tokens (x ∷ ids) q = (λ h. absurd (omega arith), q.1)

inserted_tokens : (new : NewConnectionId) (ids : List KeptCid) → IsQueue ids → HasTokensAbove (active_seq_of ids) (inserted new ids)
unfolding inserted kept_between kept_above
inserted_tokens new ids q =
    let all = queue_tokens ids q in
    tokens_append (active_seq_of ids) (kept_between new.retire_prior_to new.sequence ids) (given_cid new ∷ kept_above new.sequence ids)
    (tokens_filter (active_seq_of ids) (is_between new.retire_prior_to new.sequence) ids all)
    ((λ _. refl), tokens_filter (active_seq_of ids) (is_above new.sequence) ids all)

-- a list that ascends from an active number on, and begins, is a queue
queue_from : (a m : ℕ) (ids : List KeptCid) → a ≤ m → 0 < length ids → Ascends m (m + 5) ids → HasTokensAbove a ids → IsQueue ids
queue_from a m [] l n asc tokens = absurd (omega arith)
queue_from a m (x ∷ ids) l n asc tokens =
    let from : m ≤ x.sequence = asc.0 in (
      weaken (x.sequence + 1) (x.sequence + 1) (m + 5) (x.sequence + 5) ids (omega arith) (omega arith) asc.2,
      tokens_weaker a x.sequence ids (omega arith) tokens.1,
    )

inserted_some : (new : NewConnectionId) (ids : List KeptCid) → 0 < length (inserted new ids)
unfolding inserted
inserted_some new ids = omega (arith, length-append (kept_between new.retire_prior_to new.sequence ids) (given_cid new ∷ kept_above new.sequence ids))

pub inserted_queue : (new : NewConnectionId) (ids ids' : List KeptCid) → IsTaken new ids → ids' ≡ inserted new ids → IsQueue ids'
inserted_queue new ids ids' t e =
    rw e (queue_from (active_seq_of ids) (max (active_seq_of ids) new.retire_prior_to) (inserted new ids) (omega arith) (inserted_some new ids) (inserted_ascends new ids t)
    (inserted_tokens new ids t.queue))

pub queue_few : (ids : List KeptCid) → IsQueue ids → length ids ≤ 5
queue_few ids q = omega (arith, few (active_seq_of ids) (active_seq_of ids + 5) ids (omega arith) (queue_ascends ids q))

-- the first of a list that begins above an active number has a token
token_above : (a m : ℕ) (ids : List KeptCid) → a < m → 0 < length ids → Ascends m (m + 5) ids → HasTokensAbove a ids → IsSome (active_token_of ids)
token_above a m [] l n asc tokens = absurd (omega arith)
token_above a m (x ∷ ids) l n asc tokens = let from : m ≤ x.sequence = asc.0 in tokens.0 (omega arith)

IsSome-option_map : {X Y : Type 0} (f : X → Y) (o : Option X) → IsSome o → IsSome (option_map f o)
IsSome-option_map f None s = s
IsSome-option_map f (Some x) s = refl

pub renews : (new : NewConnectionId) (ids : List KeptCid) → IsTaken new ids → active_seq_of ids < new.retire_prior_to
    → IsSome (renewal_of (active_seq_of ids) (inserted new ids))
unfolding renewal_of
renews new ids t h =
    IsSome-option_map _ (active_token_of (inserted new ids))
    (token_above (active_seq_of ids) (max (active_seq_of ids) new.retire_prior_to) (inserted new ids) (omega arith) (inserted_some new ids) (inserted_ascends new ids t)
    (inserted_tokens new ids t.queue))

-- the next id becomes the active one
pub tail_queue : (ids : List KeptCid) → 1 < length ids → IsQueue ids → IsQueue (drop 1 ids)
tail_queue [] l q = absurd (omega arith)
tail_queue (x ∷ []) l q = absurd (omega arith)
tail_queue (x ∷ y ∷ ids) l q =
    let from : x.sequence + 1 ≤ y.sequence = q.0.0 in
    (weaken (y.sequence + 1) (y.sequence + 1) (x.sequence + 5) (y.sequence + 5) ids (omega arith) (omega arith) q.0.2, tokens_weaker x.sequence y.sequence ids (omega arith) q.1.1)
