-- Any calls of a queue
use Rattle.std.proofs.Common.{◌≡◌, ℕ, ◌+◌, ◌-◌, ◌<◌, ◌≤◌, Bool, true, false, List, [], ◌∷◌, ◌++◌, Some, None, length, min, max, nat_lt, Contains, if◌then◌else◌, arith, refl, append_assoc}
use Rattle.std.proofs.lemmas.Grind.{common_steps}
use Rattle.std.proofs.lemmas.Bool.Decides.{nat_tests}
use Rattle.std.proofs.lemmas.List.Elements.{Contains-append_left, Contains-append_right}
use Rattle.std.specs.List.{filter}
use Rattle.std.specs.Option.{option_map}
use Rattle.std.specs.declared.ops.Range.{Range}
use Rattle.qc_frame.specs.declared.frames.NewConnectionId.{NewConnectionId}
use Rattle.qc_ids.specs.declared.cid_queue.KeptCid.{KeptCid}
use Rattle.qc_ids.specs.CidQueue.{Ascends, IsQueue, IsTaken, active_of, active_seq_of, active_token_of, first_cid, given_cid, insert_answer, inserted, is_above, is_between, kept_above, kept_between, numbers_from, renewal_of}
use Rattle.qc_ids.specs.Numbers.{Rises}
use Rattle.qc_ids.specs.QueueLaws.{AreFrames, KeepsFive, QueueCall, Insert, Next, Rename, RetiresOnce, UsesGiven, given_in, is_taken, numbers_of, queue_after, queue_run, retired_in, retires}
use Rattle.qc_ids.proofs.Numbers.{numbers_rise, rises_append}
use Rattle.qc_ids.proofs.Queues.{inserted_ascends, inserted_queue, queue_few, tail_queue}

-- ---- every id that is kept was given

AllSeen : List (List ℕ) → List KeptCid → Type 0
AllSeen seen [] = Unit {0}
AllSeen seen (x ∷ ids) = Contains seen x.id × AllSeen seen ids

seen_more : (seen more : List (List ℕ)) (ids : List KeptCid) → AllSeen seen ids → AllSeen (seen ++ more) ids
unfolding AllSeen
seen_more seen more [] h = tt
seen_more seen more (x ∷ ids) h = (Contains-append_left seen more x.id h.0, seen_more seen more ids h.1)

seen_append : (seen : List (List ℕ)) (xs ys : List KeptCid) → AllSeen seen xs → AllSeen seen ys → AllSeen seen (xs ++ ys)
unfolding AllSeen
seen_append seen [] ys a b = b
seen_append seen (x ∷ xs) ys a b = (a.0, seen_append seen xs ys a.1 b)

seen_filter : (seen : List (List ℕ)) (p : KeptCid → Bool) (ids : List KeptCid) → AllSeen seen ids → AllSeen seen (filter p ids)
unfolding AllSeen
seen_filter seen p [] h = tt
seen_filter seen p (x ∷ ids) h =
    (elim (p x) as (λ b. p x ≡ b → AllSeen seen (filter p (x ∷ ids))) [
      | true ↦ λ e. rw e (h.0, seen_filter seen p ids h.1)
      | false ↦ λ e. rw e (seen_filter seen p ids h.1)
    ]) refl

last_seen : (seen : List (List ℕ)) (id : List ℕ) → Contains (seen ++ id ∷ []) id
last_seen seen id = Contains-append_right seen (id ∷ []) id (0, omega arith, refl)

seen_inserted : (seen : List (List ℕ)) (new : NewConnectionId) (ids : List KeptCid) → AllSeen seen ids → AllSeen (seen ++ new.id ∷ []) (inserted new ids)
unfolding AllSeen inserted kept_between kept_above
seen_inserted seen new ids h =
    let all = seen_more seen (new.id ∷ []) ids h in
    seen_append (seen ++ new.id ∷ []) (filter (is_between new.retire_prior_to new.sequence) ids) (given_cid new ∷ filter (is_above new.sequence) ids)
    (seen_filter (seen ++ new.id ∷ []) (is_between new.retire_prior_to new.sequence) ids all)
    (last_seen seen new.id, seen_filter (seen ++ new.id ∷ []) (is_above new.sequence) ids all)

seen_insert : (seen : List (List ℕ)) (new : NewConnectionId) (ids : List KeptCid) → AllSeen seen ids → AllSeen (seen ++ new.id ∷ []) (queue_after (Insert new) ids)
unfolding queue_after
seen_insert seen new ids h =
    elim (is_taken new ids) as (λ b. AllSeen (seen ++ new.id ∷ []) (if b then inserted new ids else ids)) [
      | true ↦ seen_inserted seen new ids h
      | false ↦ seen_more seen (new.id ∷ []) ids h
    ]

seen_next : (seen : List (List ℕ)) (ids : List KeptCid) → AllSeen seen ids → AllSeen seen (queue_after Next ids)
unfolding AllSeen queue_after
seen_next seen [] h = h
seen_next seen (x ∷ []) h = h
seen_next seen (x ∷ y ∷ ids) h = h.1

seen_rename : (seen : List (List ℕ)) (id : List ℕ) (ids : List KeptCid) → AllSeen seen ids → AllSeen (seen ++ id ∷ []) (queue_after (Rename id) ids)
unfolding AllSeen queue_after
seen_rename seen id [] h = tt
seen_rename seen id (x ∷ ids) h = (last_seen seen id, seen_more seen (id ∷ []) ids h.1)

seen_run : (calls : List QueueCall) (seen : List (List ℕ)) (ids : List KeptCid) → AllSeen seen ids → AllSeen (seen ++ given_in calls) (queue_run calls ids)
seen_run [] seen ids h = seen_more seen [] ids h
seen_run (Insert new ∷ calls) seen ids h = rw (← append_assoc seen (new.id ∷ []) (given_in calls)) (seen_run calls (seen ++ new.id ∷ []) (queue_after (Insert new) ids) (seen_insert seen new ids h))
seen_run (Next ∷ calls) seen ids h = seen_run calls seen (queue_after Next ids) (seen_next seen ids h)
seen_run (Rename id ∷ calls) seen ids h = rw (← append_assoc seen (id ∷ []) (given_in calls)) (seen_run calls (seen ++ id ∷ []) (queue_after (Rename id) ids) (seen_rename seen id ids h))

-- ---- a queue stays a queue, and its active number never falls

-- what a call tells to retire lies from the active number up to the new one
pub record Steps (ids ids' : List KeptCid) (ns : List ℕ) : Type 0 where
  pub queue : IsQueue ids'
  pub later : active_seq_of ids ≤ active_seq_of ids'
  pub rises : Rises (active_seq_of ids) (active_seq_of ids') ns

pub taken_by : (new : NewConnectionId) (ids : List KeptCid) → new.retire_prior_to ≤ new.sequence → IsQueue ids → is_taken new ids ≡ true → IsTaken new ids
taken_by new ids order q t =
    let both : (active_seq_of ids ≤ new.sequence) × (new.sequence < max (active_seq_of ids) new.retire_prior_to + 5) = grind (arith, nat_tests) in
    record { order = order; from_active = both.0; within = both.1; queue = q }

first_from : (low high : ℕ) (ids : List KeptCid) → IsQueue ids → Ascends low high ids → low ≤ active_seq_of ids
first_from low high [] q asc = absurd q
first_from low high (x ∷ ids) q asc = asc.0

renewal_numbers : (old : ℕ) (ids : List KeptCid) → old ≤ active_seq_of ids
    → Rises old (active_seq_of ids) (numbers_of (option_map (λ (answer : Range ℕ × List ℕ). answer.0) (renewal_of old ids)))
unfolding renewal_of
renewal_numbers old ids l =
    elim (active_token_of ids) as (λ token. Rises old (active_seq_of ids) (numbers_of (option_map (λ (answer : Range ℕ × List ℕ). answer.0) (option_map (λ t. (numbers_from old (min (active_seq_of ids) (old + 5)), t)) token)))) [
      | None ↦ tt
      | Some t ↦ numbers_rise old (min (active_seq_of ids) (old + 5) - old) (active_seq_of ids) (omega arith)
    ]

pub insert_steps : (new : NewConnectionId) (ids : List KeptCid) → new.retire_prior_to ≤ new.sequence → IsQueue ids → Steps ids (queue_after (Insert new) ids) (retires (Insert new) ids)
unfolding queue_after retires insert_answer
insert_steps new ids order q =
    (elim (is_taken new ids) as (λ b. is_taken new ids ≡ b → Steps ids (if b then inserted new ids else ids) (if b then numbers_of (option_map (λ (answer : Range ℕ × List ℕ). answer.0) (insert_answer new ids)) else [])) [
      | true ↦ λ e.
          let t = taken_by new ids order q e in
          let queue = inserted_queue new ids (inserted new ids) t refl in
          let from = first_from (max (active_seq_of ids) new.retire_prior_to) (max (active_seq_of ids) new.retire_prior_to + 5) (inserted new ids) queue (inserted_ascends new ids t) in
          record {
            queue = queue;
            later = omega arith;
            rises = elim (nat_lt (active_seq_of ids) new.retire_prior_to)
                as (λ b. Rises (active_seq_of ids) (active_seq_of (inserted new ids)) (numbers_of (option_map (λ (answer : Range ℕ × List ℕ). answer.0) (if b then renewal_of (active_seq_of ids) (inserted new ids) else None)))) [
                  | true ↦ renewal_numbers (active_seq_of ids) (inserted new ids) (omega arith)
                  | false ↦ tt
                ];
          }
      | false ↦ λ e. record { queue = q; later = omega arith; rises = tt }
    ]) refl

pub next_steps : (ids : List KeptCid) → IsQueue ids → Steps ids (queue_after Next ids) (retires Next ids)
unfolding queue_after retires
next_steps [] q = absurd q
next_steps (x ∷ []) q = record { queue = q; later = omega arith; rises = tt }
next_steps (x ∷ y ∷ ids) q =
    let from : x.sequence + 1 ≤ y.sequence = q.0.0 in
    record {
      queue = tail_queue (x ∷ y ∷ ids) (omega arith) q;
      later = omega arith;
      rises = elim (y.reset_token) as (λ token. Rises x.sequence y.sequence (numbers_of (option_map (λ (answer : List ℕ × Range ℕ). answer.1) (option_map (λ t. (t, numbers_from x.sequence y.sequence)) token)))) [
        | None ↦ tt
        | Some t ↦ numbers_rise x.sequence (y.sequence - x.sequence) y.sequence (omega arith)
      ];
    }

pub rename_steps : (id : List ℕ) (ids : List KeptCid) → IsQueue ids → Steps ids (queue_after (Rename id) ids) (retires (Rename id) ids)
unfolding queue_after retires
rename_steps id [] q = absurd q
rename_steps id (x ∷ ids) q = record { queue = q; later = omega arith; rises = tt }

both_steps : (ids ids' ids'' : List KeptCid) (ns ms : List ℕ) → Steps ids ids' ns → Steps ids' ids'' ms → Steps ids ids'' (ns ++ ms)
both_steps ids ids' ids'' ns ms a b =
    let one = a.later in let two = b.later in
    record { queue = b.queue; later = omega arith; rises = rises_append (active_seq_of ids) (active_seq_of ids') (active_seq_of ids'') ns ms a.rises two one b.rises }

pub run_steps : (calls : List QueueCall) (ids : List KeptCid) → AreFrames calls → IsQueue ids → Steps ids (queue_run calls ids) (retired_in calls ids)
run_steps [] ids f q = record { queue = q; later = omega arith; rises = tt }
run_steps (Insert new ∷ calls) ids f q = let s = insert_steps new ids f.0 q in both_steps ids (queue_after (Insert new) ids) _ _ _ s (run_steps calls (queue_after (Insert new) ids) f.1 s.queue)
run_steps (Next ∷ calls) ids f q = let s = next_steps ids q in both_steps ids (queue_after Next ids) _ _ _ s (run_steps calls (queue_after Next ids) f s.queue)
run_steps (Rename id ∷ calls) ids f q = let s = rename_steps id ids q in both_steps ids (queue_after (Rename id) ids) _ _ _ s (run_steps calls (queue_after (Rename id) ids) f s.queue)

-- ---- the laws

in_use : (seen : List (List ℕ)) (ids : List KeptCid) → 0 < length ids → AllSeen seen ids → Contains seen (active_of ids)
unfolding AllSeen
in_use seen [] l h = absurd (omega arith)
in_use seen (x ∷ ids) l h = h.0

some_left : (call : QueueCall) (ids : List KeptCid) → 0 < length ids → 0 < length (queue_after call ids)
unfolding queue_after inserted
some_left (Insert new) ids l =
    elim (is_taken new ids) as (λ b. 0 < length (if b then kept_between new.retire_prior_to new.sequence ids ++ given_cid new ∷ kept_above new.sequence ids else ids)) [
      | true ↦ grind (arith, common_steps)
      | false ↦ l
    ]
some_left Next [] l = l
some_left Next (x ∷ []) l = l
some_left Next (x ∷ y ∷ ids) l = omega arith
some_left (Rename id) [] l = l
some_left (Rename id) (x ∷ ids) l = omega arith

some_run : (calls : List QueueCall) (ids : List KeptCid) → 0 < length ids → 0 < length (queue_run calls ids)
some_run [] ids l = l
some_run (call ∷ calls) ids l = some_run calls (queue_after call ids) (some_left call ids l)

pub uses_given : (first : List ℕ) (calls : List QueueCall) → UsesGiven first calls
unfolding UsesGiven AllSeen
uses_given first calls =
    in_use (first ∷ given_in calls) (queue_run calls (first_cid first)) (some_run calls (first_cid first) (omega arith))
    (seen_run calls (first ∷ []) (first_cid first) ((0, omega arith, refl), tt))

pub first_queue : (first : List ℕ) → IsQueue (first_cid first)
first_queue first = (tt, tt)

pub retires_once : (first : List ℕ) (calls : List QueueCall) → AreFrames calls → RetiresOnce first calls
unfolding RetiresOnce
retires_once first calls f = (run_steps calls (first_cid first) f (first_queue first)).rises

pub keeps_five : (first : List ℕ) (calls : List QueueCall) → AreFrames calls → KeepsFive first calls
unfolding KeepsFive
keeps_five first calls f = queue_few (queue_run calls (first_cid first)) (run_steps calls (first_cid first) f (first_queue first)).queue
