-- What a queue drops, it tells; and a token stays with its id
use Rattle.std.proofs.Common.{◌≡◌, ℕ, zero, suc, ◌+◌, ◌-◌, ◌<◌, ◌≤◌, ◌==◌, ◌||◌, Bool, true, false, List, [], ◌∷◌, ◌++◌, Some, None, IsSome, min, max, nat_eq, nat_lt, Contains, if◌then◌else◌, arith, refl, ◌∙◌, append_assoc, Option}
use Rattle.std.proofs.lemmas.Bool.Decides.{nat_tests}
use Rattle.std.proofs.lemmas.List.Elements.{Contains-append_left, Contains-append_right}
use Rattle.std.proofs.lemmas.List.Folds.{list_any-append}
use Rattle.std.specs.List.{filter}
use Rattle.std.specs.Option.{option_map}
use Rattle.std.specs.declared.ops.Range.{Range}
use Rattle.qc_frame.specs.declared.frames.NewConnectionId.{NewConnectionId}
use Rattle.qc_ids.specs.declared.cid_queue.KeptCid.{KeptCid}
use Rattle.qc_ids.specs.CidQueue.{Ascends, IsQueue, IsTaken, active_of, active_seq_of, active_token_of, first_cid, given_cid, insert_answer, inserted, is_above, is_between, kept_above, kept_between, numbers_from, renewal_of}
use Rattle.qc_ids.specs.Numbers.{numbers_on}
use Rattle.qc_ids.specs.QueueLaws.{AreFrames, QueueCall, Insert, Next, Rename, TellsDropped, UsesOwnToken, is_among, is_kept, is_taken, numbers_of, queue_after, queue_run, retired_in, retires, tokens_in}
use Rattle.qc_ids.proofs.Queues.{inserted_ascends, inserted_queue, queue_ascends, renews}
use Rattle.qc_ids.proofs.QueueLaws.{first_queue, insert_steps, next_steps, rename_steps, run_steps, taken_by}

-- ---- numbers among others

among_left : (n : ℕ) (ns ms : List ℕ) → is_among n ns ≡ true → is_among n (ns ++ ms) ≡ true
among_left n ns ms h = list_any-append (λ k. k == n) ns ms ∙ rw h refl

or_right : (b : Bool) → (b || true) ≡ true
or_right true = refl
or_right false = refl

among_right : (n : ℕ) (ns ms : List ℕ) → is_among n ms ≡ true → is_among n (ns ++ ms) ≡ true
among_right n ns ms h = list_any-append (λ k. k == n) ns ms ∙ rw h (or_right (is_among n ns))

numbers_have : (n start count : ℕ) → start ≤ n → n < start + count → is_among n (numbers_on start count) ≡ true
numbers_have n start zero low high = absurd (omega arith)
numbers_have n start (suc count) low high =
    (elim (nat_eq start n) as (λ b. nat_eq start n ≡ b → (b || is_among n (numbers_on (start + 1) count)) ≡ true) [
      | true ↦ λ e. refl
      | false ↦ λ e. numbers_have n (start + 1) count (let other : start < n = grind (arith, nat_tests) in omega arith) (omega arith)
    ]) refl

-- ---- ids among others

kept_append_left : (n : ℕ) (xs ys : List KeptCid) → is_kept n xs ≡ true → is_kept n (xs ++ ys) ≡ true
kept_append_left n xs ys h = list_any-append (λ (x : KeptCid). x.sequence == n) xs ys ∙ rw h refl

kept_append_right : (n : ℕ) (xs ys : List KeptCid) → is_kept n ys ≡ true → is_kept n (xs ++ ys) ≡ true
kept_append_right n xs ys h = list_any-append (λ (x : KeptCid). x.sequence == n) xs ys ∙ rw h (or_right (is_kept n xs))

kept_filter : (p : KeptCid → Bool) (n : ℕ) (ids : List KeptCid) → ((x : KeptCid) → x.sequence ≡ n → p x ≡ true) → is_kept n ids ≡ true → is_kept n (filter p ids) ≡ true
kept_filter p n [] passes h = h
kept_filter p n (x ∷ ids) passes h =
    (elim (nat_eq x.sequence n) as (λ b. nat_eq x.sequence n ≡ b → (b || is_kept n ids) ≡ true → is_kept n (filter p (x ∷ ids)) ≡ true) [
      | true ↦ λ e g. let here : p x ≡ true = passes x (grind (arith, nat_tests)) in rw (here, e) refl
      | false ↦ λ e g.
          elim (p x) as (λ b. is_kept n (if b then x ∷ filter p ids else filter p ids) ≡ true) [
            | true ↦ rw e (kept_filter p n ids passes g)
            | false ↦ kept_filter p n ids passes g
          ]
    ]) refl h

kept_bounds : (low high n : ℕ) (ids : List KeptCid) → Ascends low high ids → is_kept n ids ≡ true → (low ≤ n) × (n < high)
kept_bounds low high n [] asc h = absurd (let wrong : false ≡ true = h in cc)
kept_bounds low high n (x ∷ ids) asc h =
    (elim (nat_eq x.sequence n) as (λ b. nat_eq x.sequence n ≡ b → (b || is_kept n ids) ≡ true → (low ≤ n) × (n < high)) [
      | true ↦ λ e g. let same : x.sequence ≡ n = grind (arith, nat_tests) in let a : low ≤ x.sequence = asc.0 in let b : x.sequence < high = asc.1 in (omega arith, omega arith)
      | false ↦ λ e g. let rest = kept_bounds (x.sequence + 1) high n ids asc.2 g in let a : low ≤ x.sequence = asc.0 in (omega arith, rest.1)
    ]) refl h

-- what a frame doesn't retire stays
stays_inserted : (n : ℕ) (new : NewConnectionId) (ids : List KeptCid) → new.retire_prior_to ≤ n → is_kept n ids ≡ true → is_kept n (inserted new ids) ≡ true
unfolding inserted kept_between kept_above
stays_inserted n new ids from h =
    let front : List KeptCid = filter (is_between new.retire_prior_to new.sequence) ids in
    let behind : List KeptCid = filter (is_above new.sequence) ids in
    (elim (nat_lt n new.sequence) as (λ b. nat_lt n new.sequence ≡ b → is_kept n (front ++ given_cid new ∷ behind) ≡ true) [
      | true ↦ λ e. kept_append_left n front (given_cid new ∷ behind) (kept_filter (is_between new.retire_prior_to new.sequence) n ids (λ x same. grind (arith, nat_tests)) h)
      | false ↦ λ e. kept_append_right n front (given_cid new ∷ behind) (
          (elim (nat_eq new.sequence n) as (λ b. nat_eq new.sequence n ≡ b → (b || is_kept n behind) ≡ true) [
            | true ↦ λ g. refl
            | false ↦ λ g. kept_filter (is_above new.sequence) n ids (λ x same. grind (arith, nat_tests)) h
          ]) refl)
    ]) refl

-- ---- what a call drops

-- a range with a token
abbrev with_token : ℕ → ℕ → List ℕ → Range ℕ × List ℕ
with_token old new t = (numbers_from old new, t)

renewal_tells : (old n : ℕ) (ids : List KeptCid) → IsSome (renewal_of old ids) → old ≤ n → n < active_seq_of ids → n < old + 5
    → is_among n (numbers_of (option_map (λ (answer : Range ℕ × List ℕ). answer.0) (renewal_of old ids))) ≡ true
unfolding renewal_of
renewal_tells old n ids some low high few =
    (elim (active_token_of ids) as (λ token. IsSome (option_map (with_token old (min (active_seq_of ids) (old + 5))) token)
    → is_among n (numbers_of (option_map (λ (answer : Range ℕ × List ℕ). answer.0) (option_map (with_token old (min (active_seq_of ids) (old + 5))) token))) ≡ true) [
      | None ↦ λ s. absurd (let wrong : false ≡ true = s in cc)
      | Some t ↦ λ s. numbers_have n old (min (active_seq_of ids) (old + 5) - old) low (omega arith)
    ]) some

first_above : (low high : ℕ) (ids : List KeptCid) → IsQueue ids → Ascends low high ids → low ≤ active_seq_of ids
first_above low high [] q asc = absurd q
first_above low high (x ∷ ids) q asc = asc.0

inserted_from : (new : NewConnectionId) (ids : List KeptCid) → IsTaken new ids → new.retire_prior_to ≤ active_seq_of (inserted new ids)
inserted_from new ids t =
    omega (arith, first_above (max (active_seq_of ids) new.retire_prior_to) (max (active_seq_of ids) new.retire_prior_to + 5) (inserted new ids) (inserted_queue new ids (inserted new ids) t refl) (inserted_ascends new ids t))

not_both : (b : Bool) → b ≡ true → b ≡ false → ⊥
not_both b t f = cc

insert_tells : (n : ℕ) (new : NewConnectionId) (ids : List KeptCid) → new.retire_prior_to ≤ new.sequence → IsQueue ids → is_kept n ids ≡ true → is_kept n (queue_after (Insert new) ids) ≡ false
    → is_among n (retires (Insert new) ids) ≡ true
unfolding queue_after retires insert_answer
insert_tells n new ids order q h gone =
    (elim (is_taken new ids) as (λ b. is_taken new ids ≡ b → is_kept n (if b then inserted new ids else ids) ≡ false
    → is_among n (if b then numbers_of (option_map (λ (answer : Range ℕ × List ℕ). answer.0) (insert_answer new ids)) else []) ≡ true) [
      | false ↦ λ e g. absurd (not_both (is_kept n ids) h g)
      | true ↦ λ e g.
          let t : IsTaken new ids = taken_by new ids order q e in
          let below : n < new.retire_prior_to = elim (nat_lt n new.retire_prior_to) as (λ b. nat_lt n new.retire_prior_to ≡ b → n < new.retire_prior_to) [
            | true ↦ λ l. grind (arith, nat_tests)
            | false ↦ λ l. absurd (not_both (is_kept n (inserted new ids)) (stays_inserted n new ids (grind (arith, nat_tests)) h) g)
          ] refl in
          let within = kept_bounds (active_seq_of ids) (active_seq_of ids + 5) n ids (queue_ascends ids q) h in
          let risen : active_seq_of ids < new.retire_prior_to = omega arith in
          let asks : nat_lt (active_seq_of ids) new.retire_prior_to ≡ true = grind (arith, nat_tests) in
          let from : new.retire_prior_to ≤ active_seq_of (inserted new ids) = inserted_from new ids t in
          rw asks (renewal_tells (active_seq_of ids) n (inserted new ids) (renews new ids t risen) within.0 (omega arith) within.1)
    ]) refl gone

next_tells : (n : ℕ) (ids : List KeptCid) → IsQueue ids → is_kept n ids ≡ true → is_kept n (queue_after Next ids) ≡ false → is_among n (retires Next ids) ≡ true
unfolding queue_after retires
next_tells n [] q h gone = absurd q
next_tells n (x ∷ []) q h gone = absurd (not_both (is_kept n (x ∷ [])) h gone)
next_tells n (x ∷ y ∷ ids) q h gone =
    let from : x.sequence + 1 ≤ y.sequence = q.0.0 in
    let some : IsSome y.reset_token = q.1.0 (omega arith) in
    (elim (nat_eq x.sequence n) as (λ b. nat_eq x.sequence n ≡ b → (b || is_kept n (y ∷ ids)) ≡ true → is_among n (retires Next (x ∷ y ∷ ids)) ≡ true) [
      | false ↦ λ e g. absurd (not_both (is_kept n (y ∷ ids)) g gone)
      | true ↦ λ e g.
          let same : x.sequence ≡ n = grind (arith, nat_tests) in
          (elim (y.reset_token) as (λ token. IsSome token → is_among n (numbers_of (option_map (λ (answer : List ℕ × Range ℕ). answer.1) (option_map (λ t. (t, numbers_from x.sequence y.sequence)) token))) ≡ true) [
            | None ↦ λ s. absurd (let wrong : false ≡ true = s in cc)
            | Some t ↦ λ s. numbers_have n x.sequence (y.sequence - x.sequence) (omega arith) (omega arith)
          ]) some
    ]) refl h

rename_keeps : (n : ℕ) (id : List ℕ) (ids : List KeptCid) → is_kept n ids ≡ true → is_kept n (queue_after (Rename id) ids) ≡ true
unfolding queue_after
rename_keeps n id [] h = h
rename_keeps n id (x ∷ ids) h = h

-- one call, and those behind it
then_tells : (n : ℕ) (ids : List KeptCid) (calls : List QueueCall) (ns : List ℕ)
    → (is_kept n ids ≡ false → is_among n ns ≡ true) → (is_kept n ids ≡ true → is_among n (retired_in calls ids) ≡ true) → is_among n (ns ++ retired_in calls ids) ≡ true
then_tells n ids calls ns now later =
    (elim (is_kept n ids) as (λ b. is_kept n ids ≡ b → is_among n (ns ++ retired_in calls ids) ≡ true) [
      | true ↦ λ e. among_right n ns (retired_in calls ids) (later e)
      | false ↦ λ e. among_left n ns (retired_in calls ids) (now e)
    ]) refl

run_tells : (n : ℕ) (calls : List QueueCall) (ids : List KeptCid) → AreFrames calls → IsQueue ids → is_kept n ids ≡ true → is_kept n (queue_run calls ids) ≡ false → is_among n (retired_in calls ids) ≡ true
run_tells n [] ids f q h gone = absurd (not_both (is_kept n ids) h gone)
run_tells n (Insert new ∷ calls) ids f q h gone =
    then_tells n (queue_after (Insert new) ids) calls (retires (Insert new) ids) (insert_tells n new ids f.0 q h)
    (λ still. run_tells n calls (queue_after (Insert new) ids) f.1 (insert_steps new ids f.0 q).queue still gone)
run_tells n (Next ∷ calls) ids f q h gone =
    then_tells n (queue_after Next ids) calls (retires Next ids) (next_tells n ids q h)
    (λ still. run_tells n calls (queue_after Next ids) f (next_steps ids q).queue still gone)
run_tells n (Rename id ∷ calls) ids f q h gone =
    then_tells n (queue_after (Rename id) ids) calls (retires (Rename id) ids) (λ g. absurd (not_both (is_kept n (queue_after (Rename id) ids)) (rename_keeps n id ids h) g))
    (λ still. run_tells n calls (queue_after (Rename id) ids) f (rename_steps id ids q).queue still gone)

pub tells_dropped : (first : List ℕ) (before calls : List QueueCall) (n : ℕ) → AreFrames before → AreFrames calls → TellsDropped first before calls n
unfolding TellsDropped
tells_dropped first before calls n f g =
    run_tells n calls (queue_run before (first_cid first)) g (run_steps before (first_cid first) f (first_queue first)).queue

-- ---- tokens

-- each token came with the id that it stands beside
AllOwn : List (List ℕ × List ℕ) → List KeptCid → Type 0
AllOwn seen [] = Unit {0}
AllOwn seen (x ∷ ids) = ((token : List ℕ) → x.reset_token ≡ Some token → Contains seen (x.id, token)) × AllOwn seen ids

own_more : (seen more : List (List ℕ × List ℕ)) (ids : List KeptCid) → AllOwn seen ids → AllOwn (seen ++ more) ids
unfolding AllOwn
own_more seen more [] h = tt
own_more seen more (x ∷ ids) h = (λ token e. Contains-append_left seen more (x.id, token) (h.0 token e), own_more seen more ids h.1)

own_append : (seen : List (List ℕ × List ℕ)) (xs ys : List KeptCid) → AllOwn seen xs → AllOwn seen ys → AllOwn seen (xs ++ ys)
unfolding AllOwn
own_append seen [] ys a b = b
own_append seen (x ∷ xs) ys a b = (a.0, own_append seen xs ys a.1 b)

own_filter : (seen : List (List ℕ × List ℕ)) (p : KeptCid → Bool) (ids : List KeptCid) → AllOwn seen ids → AllOwn seen (filter p ids)
unfolding AllOwn
own_filter seen p [] h = tt
own_filter seen p (x ∷ ids) h =
    (elim (p x) as (λ b. p x ≡ b → AllOwn seen (filter p (x ∷ ids))) [
      | true ↦ λ e. rw e (h.0, own_filter seen p ids h.1)
      | false ↦ λ e. rw e (own_filter seen p ids h.1)
    ]) refl

last_own : (seen : List (List ℕ × List ℕ)) (id given token : List ℕ) → ◌≡◌ {A = Option (List ℕ)} (Some given) (Some token) → Contains (seen ++ (id, given) ∷ []) (id, token)
last_own seen id given token e =
    let same : given ≡ token = cc in
    Contains-append_right seen ((id, given) ∷ []) (id, token) (0, omega arith, rw same refl)

own_inserted : (seen : List (List ℕ × List ℕ)) (new : NewConnectionId) (ids : List KeptCid) → AllOwn seen ids → AllOwn (seen ++ (new.id, new.reset_token) ∷ []) (inserted new ids)
unfolding AllOwn inserted kept_between kept_above
own_inserted seen new ids h =
    let more : List (List ℕ × List ℕ) = (new.id, new.reset_token) ∷ [] in
    let all = own_more seen more ids h in
    own_append (seen ++ more) (filter (is_between new.retire_prior_to new.sequence) ids) (given_cid new ∷ filter (is_above new.sequence) ids)
    (own_filter (seen ++ more) (is_between new.retire_prior_to new.sequence) ids all)
    (λ token e. last_own seen new.id new.reset_token token e, own_filter (seen ++ more) (is_above new.sequence) ids all)

own_insert : (seen : List (List ℕ × List ℕ)) (new : NewConnectionId) (ids : List KeptCid) → AllOwn seen ids → AllOwn (seen ++ (new.id, new.reset_token) ∷ []) (queue_after (Insert new) ids)
unfolding queue_after
own_insert seen new ids h =
    elim (is_taken new ids) as (λ b. AllOwn (seen ++ (new.id, new.reset_token) ∷ []) (if b then inserted new ids else ids)) [
      | true ↦ own_inserted seen new ids h
      | false ↦ own_more seen ((new.id, new.reset_token) ∷ []) ids h
    ]

own_next : (seen : List (List ℕ × List ℕ)) (ids : List KeptCid) → AllOwn seen ids → AllOwn seen (queue_after Next ids)
unfolding AllOwn queue_after
own_next seen [] h = h
own_next seen (x ∷ []) h = h
own_next seen (x ∷ y ∷ ids) h = h.1

own_rename : (seen : List (List ℕ × List ℕ)) (id : List ℕ) (ids : List KeptCid) → AllOwn seen ids → AllOwn seen (queue_after (Rename id) ids)
unfolding AllOwn queue_after
own_rename seen id [] h = tt
own_rename seen id (x ∷ ids) h = (λ token e. cc, h.1)

own_run : (calls : List QueueCall) (seen : List (List ℕ × List ℕ)) (ids : List KeptCid) → AllOwn seen ids → AllOwn (seen ++ tokens_in calls) (queue_run calls ids)
own_run [] seen ids h = own_more seen [] ids h
own_run (Insert new ∷ calls) seen ids h =
    rw (← append_assoc seen ((new.id, new.reset_token) ∷ []) (tokens_in calls)) (own_run calls (seen ++ (new.id, new.reset_token) ∷ []) (queue_after (Insert new) ids) (own_insert seen new ids h))
own_run (Next ∷ calls) seen ids h = own_run calls seen (queue_after Next ids) (own_next seen ids h)
own_run (Rename id ∷ calls) seen ids h = own_run calls seen (queue_after (Rename id) ids) (own_rename seen id ids h)

first_own : (seen : List (List ℕ × List ℕ)) (ids : List KeptCid) (token : List ℕ) → AllOwn seen ids → active_token_of ids ≡ Some token → Contains seen (active_of ids, token)
unfolding AllOwn
first_own seen [] token h e = cc
first_own seen (x ∷ ids) token h e = h.0 token e

pub uses_own_token : (first : List ℕ) (calls : List QueueCall) → UsesOwnToken first calls
unfolding UsesOwnToken AllOwn
uses_own_token first calls = λ token e.
    first_own (tokens_in calls) (queue_run calls (first_cid first)) token (own_run calls [] (first_cid first) (λ t g. cc, tt)) e
