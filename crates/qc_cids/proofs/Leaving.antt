-- What becomes of a NEW_CONNECTION_ID, case by case
use Rattle.std.proofs.Common.{◌≡◌, ℕ, ◌+◌, ◌-◌, ◌<◌, ◌≤◌, ◌↔◌, true, false, Bool, Option, Some, None, Result, Ok, Err, IfSome, OnOk, OnErr, List, length, max, min, nat_eq, nat_le, nat_lt, arith, refl, if◌then◌else◌, is_some}
use Rattle.std.proofs.lemmas.Bool.Decides.{nat_tests}
use Rattle.std.specs.Option.{option_map}
use Rattle.std.specs.declared.ops.Range.{Range}
use Rattle.qc_base.specs.declared.transport_error.TransportError.{TransportError}
use Rattle.qc_frame.specs.declared.frames.NewConnectionId.{NewConnectionId}
use Rattle.qc_ids.specs.declared.cid_queue.InsertError.{InsertError}
use Rattle.qc_ids.specs.declared.cid_queue.InsertError.TheVariants.{Retired, ExceedsLimit as Exceeds}
use Rattle.qc_ids.specs.declared.cid_queue.KeptCid.{KeptCid}
use Rattle.qc_ids.specs.CidQueue.{ExceedsLimit, active_of, active_seq_of, active_token_of, insert_answer, inserted, numbers_from, renewal_of}
use Rattle.qc_ids.specs.LocalCids.{allows_one_more, may_retire, retired}
use Rattle.qc_ids.specs.QueueLaws.{Insert, numbers_of, queue_after, retires}
use Rattle.qc_cids.specs.declared.connection_ids.ConnectionIds.{ConnectionIds}
use Rattle.qc_cids.specs.declared.taking.NewTaken.{NewTaken}
use Rattle.qc_cids.specs.Steps.{Asked, RetireCame, after_step}
use Rattle.qc_cids.specs.Cids.{asks_one, limit_error, new_refusal, numbers_placed, number_placed, retires_by, token_by, violation}

-- what a frame leaves: why it is refused, the token of the id that it took into use, the queue, and the numbers that wait
pub record Leaves (new : NewConnectionId) (ids : List KeptCid) (ks : List ℕ) (why : Option TransportError) (found : Option (List ℕ)) (ids' : List KeptCid) (ks' : List ℕ) : Type 0 where
  pub refused : why ≡ new_refusal new ids
  pub token : found ≡ token_by new ids
  pub queue : ids' ≡ (if is_some (new_refusal new ids) then ids else queue_after (Insert new) ids)
  pub numbers : ks' ≡ (if is_some (new_refusal new ids) then ks else numbers_placed (retires_by new ids) ks)

pub leaves_none : (new : NewConnectionId) (ids : List KeptCid) (ks : List ℕ) → nat_eq (length (active_of ids)) 0 ≡ true → Leaves new ids ks (Some violation) None ids ks
unfolding new_refusal token_by
leaves_none new ids ks e = record { refused = rw e refl; token = rw e refl; queue = rw e refl; numbers = rw e refl }

pub leaves_below : (new : NewConnectionId) (ids : List KeptCid) (ks : List ℕ) → nat_eq (length (active_of ids)) 0 ≡ false → new.sequence < active_seq_of ids
    → Leaves new ids ks None None ids (number_placed new.sequence ks)
unfolding new_refusal token_by queue_after retires_by
leaves_below new ids ks e l =
    let from : nat_le (active_seq_of ids) new.sequence ≡ false = grind (arith, nat_tests) in
    let below : nat_lt new.sequence (active_seq_of ids) ≡ true = grind (arith, nat_tests) in
    record { refused = rw (e, from) refl; token = rw (e, from) refl; queue = rw (e, from) refl; numbers = rw (e, from, below) refl }

pub leaves_beyond : (new : NewConnectionId) (ids : List KeptCid) (ks : List ℕ) → nat_eq (length (active_of ids)) 0 ≡ false → ExceedsLimit new ids
    → Leaves new ids ks (Some limit_error) None ids ks
unfolding new_refusal token_by
leaves_beyond new ids ks e x =
    let a = x.0 in
    let b = x.1 in
    let from : nat_le (active_seq_of ids) new.sequence ≡ true = grind (arith, nat_tests) in
    let within : nat_lt new.sequence (max (active_seq_of ids) new.retire_prior_to + 5) ≡ false = grind (arith, nat_tests) in
    record { refused = rw (e, from, within) refl; token = rw (e, from, within) refl; queue = rw (e, from, within) refl; numbers = rw (e, from, within) refl }

pub leaves_taken : (new : NewConnectionId) (ids : List KeptCid) (ks : List ℕ) (answer : Option (Range ℕ × List ℕ)) → nat_eq (length (active_of ids)) 0 ≡ false
    → (new.sequence < active_seq_of ids → ⊥) → (ExceedsLimit new ids → ⊥) → answer ≡ insert_answer new ids
    → Leaves new ids ks None (option_map (λ x. x.1) answer) (inserted new ids) (numbers_placed (numbers_of (option_map (λ x. x.0) answer)) ks)
unfolding new_refusal token_by queue_after retires_by retires
leaves_taken new ids ks answer e b x is =
    let above : active_seq_of ids ≤ new.sequence = omega (arith, b) in
    let under : new.sequence < max (active_seq_of ids) new.retire_prior_to + 5 = omega (arith, λ (h : max (active_seq_of ids) new.retire_prior_to + 5 ≤ new.sequence). x (above, h)) in
    let from : nat_le (active_seq_of ids) new.sequence ≡ true = grind (arith, nat_tests) in
    let below : nat_lt new.sequence (active_seq_of ids) ≡ false = grind (arith, nat_tests) in
    let within : nat_lt new.sequence (max (active_seq_of ids) new.retire_prior_to + 5) ≡ true = grind (arith, nat_tests) in
    record { refused = rw (e, from, within) refl; token = rw (e, from, within, is) refl; queue = rw (e, from, within) refl; numbers = rw (e, from, within, below, is) refl }

few : (old next : ℕ) (found : Option (List ℕ)) → IfSome {T = Range ℕ × List ℕ} (option_map (λ t. (numbers_from old (min next (old + 5)), t)) found) (λ a. a.0.end - a.0.start ≤ 5)
few old next None = tt
few old next (Some t) = omega arith

-- no answer tells more than five numbers
pub insert_few : (new : NewConnectionId) (ids : List KeptCid) → IfSome (insert_answer new ids) (λ a. a.0.end - a.0.start ≤ 5)
unfolding insert_answer renewal_of
insert_few new ids =
    elim (nat_lt (active_seq_of ids) new.retire_prior_to) as
    (λ b. IfSome {T = Range ℕ × List ℕ} (if b then option_map (λ t. (numbers_from (active_seq_of ids) (min (active_seq_of (inserted new ids)) (active_seq_of ids + 5)), t)) (active_token_of (inserted new ids)) else None)
    (λ a. a.0.end - a.0.start ≤ 5)) [
      | false ↦ tt
      | true ↦ few (active_seq_of ids) (active_seq_of (inserted new ids)) (active_token_of (inserted new ids))
    ]

range_room : (answer : Option (Range ℕ × List ℕ)) (len cap : ℕ) → len + 5 ≤ cap → IfSome answer (λ a. a.0.end - a.0.start ≤ 5)
    → IfSome answer (λ a. len + (a.0.end - a.0.start) ≤ cap)
range_room None len cap l h = tt
range_room (Some a) len cap l h = omega arith

-- so there is room for them
pub insert_room : (new : NewConnectionId) (ids : List KeptCid) (answer : Option (Range ℕ × List ℕ)) (len cap : ℕ) → len + 5 ≤ cap → answer ≡ insert_answer new ids
    → IfSome answer (λ a. len + (a.0.end - a.0.start) ≤ cap)
insert_room new ids answer len cap l e = range_room answer len cap l (rw e (insert_few new ids))

pub next_room : (answer : Option (List ℕ × Range ℕ)) (len cap : ℕ) → len + 4 ≤ cap → IfSome answer (λ a. a.1.end ≤ a.1.start + 4)
    → IfSome answer (λ a. len + (a.1.end - a.1.start) ≤ cap)
next_room None len cap l h = tt
next_room (Some a) len cap l h = omega arith

differ : (answer : Option (Range ℕ × List ℕ)) (why : InsertError) → ◌≡◌ {A = Result (Option (Range ℕ × List ℕ)) InsertError} (Ok answer) (Err why) → ⊥
differ answer why e = cc

-- what a call of the queue leaves
pub after_insert : (new : NewConnectionId) (ids ids' : List KeptCid) (result : Result (Option (Range ℕ × List ℕ)) InsertError)
    → ((result ≡ Err Retired) ↔ (new.sequence < active_seq_of ids)) → ((result ≡ Err Exceeds) ↔ ExceedsLimit new ids)
    → OnOk result (ids' ≡ inserted new ids) → OnErr result (ids' ≡ ids) → ids' ≡ queue_after (Insert new) ids
unfolding queue_after
after_insert new ids ids' (Ok answer) b x k e =
    let above : active_seq_of ids ≤ new.sequence = omega (arith, λ (h : new.sequence < active_seq_of ids). differ answer Retired (b.1 h)) in
    let under : new.sequence < max (active_seq_of ids) new.retire_prior_to + 5
    = omega (arith, λ (h : max (active_seq_of ids) new.retire_prior_to + 5 ≤ new.sequence). differ answer Exceeds (x.1 (above, h))) in
    let from : nat_le (active_seq_of ids) new.sequence ≡ true = grind (arith, nat_tests) in
    let within : nat_lt new.sequence (max (active_seq_of ids) new.retire_prior_to + 5) ≡ true = grind (arith, nat_tests) in
    rw (from, within) k
after_insert new ids ids' (Err Retired) b x k e =
    let below : new.sequence < active_seq_of ids = b.0 refl in
    let from : nat_le (active_seq_of ids) new.sequence ≡ false = grind (arith, nat_tests) in
    rw from e
after_insert new ids ids' (Err Exceeds) b x k e =
    let beyond = x.0 refl in
    let above = beyond.1 in
    let within : nat_lt new.sequence (max (active_seq_of ids) new.retire_prior_to + 5) ≡ false = grind (arith, nat_tests) in
    let from : nat_le (active_seq_of ids) new.sequence ≡ true = let a = beyond.0 in grind (arith, nat_tests) in
    rw (from, within) e

pub leaves_ok : (new : NewConnectionId) (ids : List KeptCid) (ks : List ℕ) (answer : Option (Range ℕ × List ℕ)) → nat_eq (length (active_of ids)) 0 ≡ false
    → (◌≡◌ {A = Result (Option (Range ℕ × List ℕ)) InsertError} (Ok answer) (Err Retired) ↔ (new.sequence < active_seq_of ids))
    → (◌≡◌ {A = Result (Option (Range ℕ × List ℕ)) InsertError} (Ok answer) (Err Exceeds) ↔ ExceedsLimit new ids) → answer ≡ insert_answer new ids
    → Leaves new ids ks None (option_map (λ x. x.1) answer) (inserted new ids) (numbers_placed (numbers_of (option_map (λ x. x.0) answer)) ks)
leaves_ok new ids ks answer e b x is = leaves_taken new ids ks answer e (λ h. differ answer Retired (b.1 h)) (λ h. differ answer Exceeds (x.1 h)) is

pub leaves_err : (new : NewConnectionId) (ids : List KeptCid) (ks ks' : List ℕ) (error : InsertError) (taken : NewTaken) → nat_eq (length (active_of ids)) 0 ≡ false
    → (◌≡◌ {A = Result (Option (Range ℕ × List ℕ)) InsertError} (Err error) (Err Retired) ↔ (new.sequence < active_seq_of ids))
    → (◌≡◌ {A = Result (Option (Range ℕ × List ℕ)) InsertError} (Err error) (Err Exceeds) ↔ ExceedsLimit new ids)
    → (error ≡ Retired → (taken ≡ record { refused = None; token = None }) × (ks' ≡ number_placed new.sequence ks))
    → (error ≡ Exceeds → (taken ≡ record { refused = Some limit_error; token = None }) × (ks' ≡ ks)) → Leaves new ids ks taken.refused taken.token ids ks'
leaves_err new ids ks ks' Retired taken e b x r z =
    let left = r refl in
    rw (left.0, left.1) (leaves_below new ids ks e (b.0 refl))
leaves_err new ids ks ks' Exceeds taken e b x r z =
    let left = z refl in
    rw (left.0, left.1) (leaves_beyond new ids ks e (x.0 refl))

pub leaves_retired : (limit n : ℕ) (s : ConnectionIds) (asks : Bool) → may_retire n s.local ≡ true → asks ≡ allows_one_more limit (retired n s.local)
    → after_step (Asked (if asks then 1 else 0)) (record s { local = retired n s.local }) ≡ after_step (RetireCame limit n) s
unfolding after_step asks_one
leaves_retired limit n s asks may e = rw (may, e) refl
