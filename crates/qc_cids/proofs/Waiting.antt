-- What waits to be told was to be retired, or was given
use Rattle.std.proofs.Common.{◌≡◌, ℕ, ◌<◌, ◌^◌, Bool, true, false, Some, None, List, [], ◌∷◌, ◌++◌, Contains, length, get_or, suc, zero, nat_eq, nat_lt, refl, append_assoc, append-nil, arith, if◌then◌else◌, is_some, option_to_list}
use Rattle.std.proofs.lemmas.List.Elements.{Contains-append_left, Contains-append_right}
use Rattle.qc_base.specs.declared.ids.IssuedCid.{IssuedCid}
use Rattle.qc_cids.specs.declared.connection_ids.ConnectionIds.{ConnectionIds}
use Rattle.qc_cids.specs.Cids.{asked_more, asks_one, cid_dropped, cid_placed, first_ids, first_issued, new_refusal, next_retired, number_dropped, number_placed, numbers_placed, retired_first, retires_by}
use Rattle.qc_cids.specs.Laws.{AllSealNext, AllTellNext, RetiresWhatIsDue, SealsNext, TellsNext, TellsWhatWasGiven, due_by, due_in, issued_by, issued_in, sealed_with, told_with_step}
use Rattle.qc_cids.specs.Steps.{Step, NewCame, Switched, Renamed, Preferred, RetireCame, Asked, Given, Expired, TellSealed, RetireSealed, TellLost, RetireLost, after, after_step, new_taken}
use Rattle.qc_frame.specs.declared.frames.NewConnectionId.{NewConnectionId}
use Rattle.qc_ids.specs.LocalCids.{LocalCids, may_retire, retired}
use Rattle.qc_ids.specs.QueueLaws.{Next, retires}

-- ---- lists whose elements are all among others

AllAmong : {A : Type 0} → List A → List A → Type 0
AllAmong seen [] = Unit {0}
AllAmong seen (x ∷ xs) = Contains seen x × AllAmong seen xs

among_more : {A : Type 0} (seen more xs : List A) → AllAmong seen xs → AllAmong (seen ++ more) xs
unfolding AllAmong
among_more seen more [] h = tt
among_more seen more (x ∷ xs) h = (Contains-append_left seen more x h.0, among_more seen more xs h.1)

among_behind : {A : Type 0} (seen more xs : List A) → AllAmong more xs → AllAmong (seen ++ more) xs
unfolding AllAmong
among_behind seen more [] h = tt
among_behind seen more (x ∷ xs) h = (Contains-append_right seen more x h.0, among_behind seen more xs h.1)

contains_next : {A : Type 0} (y x : A) (xs : List A) → Contains xs x → Contains (y ∷ xs) x
contains_next y x xs h = Contains-append_right (y ∷ []) xs x h

among_next : {A : Type 0} (y : A) (seen xs : List A) → AllAmong seen xs → AllAmong (y ∷ seen) xs
unfolding AllAmong
among_next y seen [] h = tt
among_next y seen (x ∷ xs) h = (contains_next y x seen h.0, among_next y seen xs h.1)

among_self : {A : Type 0} (xs : List A) → AllAmong xs xs
unfolding AllAmong
among_self [] = tt
among_self (x ∷ xs) = ((0, omega arith, refl), among_next x xs xs (among_self xs))

among_append : {A : Type 0} (seen xs ys : List A) → AllAmong seen xs → AllAmong seen ys → AllAmong seen (xs ++ ys)
unfolding AllAmong
among_append seen [] ys a b = b
among_append seen (x ∷ xs) ys a b = (a.0, among_append seen xs ys a.1 b)

among_nil : {A : Type 0} (seen xs : List A) → AllAmong seen xs → AllAmong (seen ++ []) xs
among_nil seen xs h = rw (append-nil seen) h

-- all that is among these is, too
among_at : {A : Type 0} (seen xs : List A) (x : A) (k : ℕ) → AllAmong seen xs → k < length xs → get_or xs k x ≡ x → Contains seen x
unfolding AllAmong
among_at seen [] x k h l e = absurd (omega arith)
among_at seen (y ∷ ys) x zero h l e = rw (← e) h.0
among_at seen (y ∷ ys) x (suc k) h l e = among_at seen ys x k h.1 (omega arith) e

contains_among : {A : Type 0} (seen xs : List A) (x : A) → AllAmong seen xs → Contains xs x → Contains seen x
contains_among seen xs x h c = among_at seen xs x c.0 h c.1 c.2

-- ---- numbers that wait

number_among : (seen : List ℕ) (n : ℕ) (ks : List ℕ) → Contains seen n → AllAmong seen ks → AllAmong seen (number_placed n ks)
unfolding AllAmong
number_among seen n [] c h = (c, tt)
number_among seen n (k ∷ ks) c h =
    elim (nat_lt n k) as (λ b. AllAmong seen (if b then n ∷ k ∷ ks else k ∷ number_placed n ks)) [
      | true ↦ (c, h)
      | false ↦ (h.0, number_among seen n ks c h.1)
    ]

numbers_among : (seen ns ks : List ℕ) → AllAmong seen ns → AllAmong seen ks → AllAmong seen (numbers_placed ns ks)
unfolding AllAmong
numbers_among seen [] ks a h = h
numbers_among seen (n ∷ ns) ks a h = numbers_among seen ns (number_placed n ks) a.1 (number_among seen n ks a.0 h)

dropped_among : (seen : List ℕ) (n : ℕ) (ks : List ℕ) → AllAmong seen ks → AllAmong seen (number_dropped n ks)
unfolding AllAmong
dropped_among seen n [] h = tt
dropped_among seen n (k ∷ ks) h =
    elim (nat_eq k n) as (λ b. AllAmong seen (if b then ks else k ∷ number_dropped n ks)) [
      | true ↦ h.1
      | false ↦ (h.0, dropped_among seen n ks h.1)
    ]

next_among : (seen : List ℕ) (n : ℕ) (ks : List ℕ) → AllAmong seen ks → retired_first ks ≡ Some n → Contains seen n
unfolding AllAmong
next_among seen n [] h e = absurd (cc)
next_among seen n (k ∷ ks) h e =
    (elim (nat_lt k (2 ^ 62)) as (λ b. (if b then Some k else None) ≡ Some n → Contains seen n) [
      | true ↦ λ d. let same : k ≡ n = cc in rw (← same) h.0
      | false ↦ λ d. absurd (cc)
    ]) e

-- what waits and what was sealed was to be retired
record Due (due gone : List ℕ) (s : ConnectionIds) : Type 0 where
  waits : AllAmong due s.retired
  sealed : AllAmong due gone

due_same : (due sealed : List ℕ) (s s' : ConnectionIds) → s'.retired ≡ s.retired → Due due sealed s → Due (due ++ []) sealed s'
due_same due sealed s s' e d = record { waits = rw e (among_nil due s.retired d.waits); sealed = among_nil due sealed d.sealed }

due_with : (due more sealed : List ℕ) (s s' : ConnectionIds) → s'.retired ≡ numbers_placed more s.retired → Due due sealed s → Due (due ++ more) sealed s'
due_with due more sealed s s' e d = record {
  waits = rw e (numbers_among (due ++ more) more s.retired (among_behind due more more (among_self more)) (among_more due more s.retired d.waits));
  sealed = among_more due more sealed d.sealed;
}

due_new : (b : Bool) (due sealed : List ℕ) (new : NewConnectionId) (s : ConnectionIds) → Due due sealed s
    → Due (due ++ (if b then [] else retires_by new s.remote)) sealed (if b then s else new_taken new s)
unfolding new_taken
due_new true due sealed new s d = due_same due sealed s s refl d
due_new false due sealed new s d = due_with due (retires_by new s.remote) sealed s (new_taken new s) refl d

due_retire : (b : Bool) (due sealed : List ℕ) (n count : ℕ) (s : ConnectionIds) → Due due sealed s
    → Due (due ++ []) sealed (if b then asked_more count (record s { local = retired n s.local }) else s)
unfolding asked_more
due_retire true due sealed n count s d = due_same due sealed s (asked_more count (record s { local = retired n s.local })) refl d
due_retire false due sealed n count s d = due_same due sealed s s refl d

due_step : (x : Step) (due sealed : List ℕ) (s : ConnectionIds) → SealsNext x sealed s → Due due sealed s → Due (due ++ due_by x s) (sealed_with x sealed) (after_step x s)
unfolding after_step asked_more next_retired AllAmong
due_step (NewCame new) due sealed s m d = due_new (is_some (new_refusal new s.remote)) due sealed new s d
due_step Switched due sealed s m d = due_with due (retires Next s.remote) sealed s (after_step Switched s) refl d
due_step (Renamed id) due sealed s m d = due_same due sealed s (after_step (Renamed id) s) refl d
due_step (Preferred new) due sealed s m d = due_same due sealed s (after_step (Preferred new) s) refl d
due_step (RetireCame limit n) due sealed s m d = due_retire (may_retire n s.local) due sealed n (if asks_one limit n s then 1 else 0) s d
due_step (Asked n) due sealed s m d = due_same due sealed s (after_step (Asked n) s) refl d
due_step (Given ids time) due sealed s m d = due_same due sealed s (after_step (Given ids time) s) refl d
due_step Expired due sealed s m d = due_same due sealed s (after_step Expired s) refl d
due_step (TellSealed n) due sealed s m d = due_same due sealed s (after_step (TellSealed n) s) refl d
due_step (RetireSealed n) due sealed s m d = record {
  waits = among_nil due (number_dropped n s.retired) (dropped_among due n s.retired d.waits);
  sealed = among_nil due (n ∷ sealed) (next_among due n s.retired d.waits m, d.sealed);
}
due_step (TellLost c) due sealed s m d = due_same due sealed s (after_step (TellLost c) s) refl d
due_step (RetireLost n) due sealed s m d = record {
  waits = among_nil due (number_placed n s.retired) (number_among due n s.retired (contains_among due sealed n d.sealed m) d.waits);
  sealed = among_nil due sealed d.sealed;
}

due_steps : (xs : List Step) (due sealed : List ℕ) (s : ConnectionIds) → AllSealNext xs sealed s → Due due sealed s → AllAmong (due ++ due_in xs s) (after xs s).retired
unfolding after
due_steps [] due sealed s m d = among_nil due s.retired d.waits
due_steps (x ∷ xs) due sealed s m d =
    rw (← append_assoc due (due_by x s) (due_in xs (after_step x s)))
    (due_steps xs (due ++ due_by x s) (sealed_with x sealed) (after_step x s) m.1 (due_step x due sealed s m.0 d))

due_first : (remote : List ℕ) (local : LocalCids) → Due [] [] (first_ids remote local)
unfolding first_ids AllAmong
due_first remote local = record { waits = tt; sealed = tt }

pub retires_what_is_due : (remote : List ℕ) (local : LocalCids) (xs : List Step) (n : ℕ) → RetiresWhatIsDue remote local xs n
unfolding RetiresWhatIsDue next_retired
retires_what_is_due remote local xs n m e =
    next_among (due_in xs (first_ids remote local)) n (after xs (first_ids remote local)).retired
    (due_steps xs [] [] (first_ids remote local) m (due_first remote local)) e

-- ---- ids that wait

cid_among : (seen : List IssuedCid) (c : IssuedCid) (xs : List IssuedCid) → Contains seen c → AllAmong seen xs → AllAmong seen (cid_placed c xs)
unfolding AllAmong
cid_among seen c [] m h = (m, tt)
cid_among seen c (x ∷ xs) m h =
    elim (nat_lt c.sequence x.sequence) as (λ b. AllAmong seen (if b then c ∷ x ∷ xs else if nat_eq x.sequence c.sequence then x ∷ xs else x ∷ cid_placed c xs)) [
      | true ↦ (m, h)
      | false ↦ elim (nat_eq x.sequence c.sequence) as (λ b. AllAmong seen (if b then x ∷ xs else x ∷ cid_placed c xs)) [
        | true ↦ h
        | false ↦ (h.0, cid_among seen c xs m h.1)
      ]
    ]

cid_gone_among : (seen : List IssuedCid) (n : ℕ) (xs : List IssuedCid) → AllAmong seen xs → AllAmong seen (cid_dropped n xs)
unfolding AllAmong
cid_gone_among seen n [] h = tt
cid_gone_among seen n (x ∷ xs) h =
    elim (nat_eq x.sequence n) as (λ b. AllAmong seen (if b then xs else x ∷ cid_dropped n xs)) [
      | true ↦ h.1
      | false ↦ (h.0, cid_gone_among seen n xs h.1)
    ]

first_among : (seen xs : List IssuedCid) → AllAmong seen xs → AllAmong seen (option_to_list (first_issued xs))
unfolding AllAmong
first_among seen [] h = tt
first_among seen (x ∷ xs) h = (h.0, tt)

-- what waits and what was told was given
record Known (given gone : List IssuedCid) (s : ConnectionIds) : Type 0 where
  waits : AllAmong given s.unsent
  told : AllAmong given gone

known_same : (given told : List IssuedCid) (s s' : ConnectionIds) → s'.unsent ≡ s.unsent → Known given told s → Known (given ++ []) told s'
known_same given told s s' e d = record { waits = rw e (among_nil given s.unsent d.waits); told = among_nil given told d.told }

known_new : (b : Bool) (given told : List IssuedCid) (new : NewConnectionId) (s : ConnectionIds) → Known given told s → Known (given ++ []) told (if b then s else new_taken new s)
unfolding new_taken
known_new true given told new s d = known_same given told s s refl d
known_new false given told new s d = known_same given told s (new_taken new s) refl d

known_retire : (b : Bool) (given told : List IssuedCid) (n count : ℕ) (s : ConnectionIds) → Known given told s
    → Known (given ++ []) told (if b then asked_more count (record s { local = retired n s.local }) else s)
unfolding asked_more
known_retire true given told n count s d = known_same given told s (asked_more count (record s { local = retired n s.local })) refl d
known_retire false given told n count s d = known_same given told s s refl d

known_step : (x : Step) (given told : List IssuedCid) (s : ConnectionIds) → TellsNext x told s → Known given told s → Known (given ++ issued_by x) (told_with_step x told s) (after_step x s)
unfolding after_step asked_more
known_step (NewCame new) given told s m d = known_new (is_some (new_refusal new s.remote)) given told new s d
known_step Switched given told s m d = known_same given told s (after_step Switched s) refl d
known_step (Renamed id) given told s m d = known_same given told s (after_step (Renamed id) s) refl d
known_step (Preferred new) given told s m d = known_same given told s (after_step (Preferred new) s) refl d
known_step (RetireCame limit n) given told s m d = known_retire (may_retire n s.local) given told n (if asks_one limit n s then 1 else 0) s d
known_step (Asked n) given told s m d = known_same given told s (after_step (Asked n) s) refl d
known_step (Given ids time) given told s m d = record {
  waits = among_append (given ++ ids) s.unsent ids (among_more given ids s.unsent d.waits) (among_behind given ids ids (among_self ids));
  told = among_more given ids told d.told;
}
known_step Expired given told s m d = known_same given told s (after_step Expired s) refl d
known_step (TellSealed n) given told s m d = record {
  waits = among_nil given (cid_dropped n s.unsent) (cid_gone_among given n s.unsent d.waits);
  told = among_nil given (option_to_list (first_issued s.unsent) ++ told) (among_append given (option_to_list (first_issued s.unsent)) told (first_among given s.unsent d.waits) d.told);
}
known_step (RetireSealed n) given told s m d = known_same given told s (after_step (RetireSealed n) s) refl d
known_step (TellLost c) given told s m d = record {
  waits = among_nil given (cid_placed c s.unsent) (cid_among given c s.unsent (contains_among given told c d.told m) d.waits);
  told = among_nil given told d.told;
}
known_step (RetireLost n) given told s m d = known_same given told s (after_step (RetireLost n) s) refl d

known_steps : (xs : List Step) (given told : List IssuedCid) (s : ConnectionIds) → AllTellNext xs told s → Known given told s → AllAmong (given ++ issued_in xs) (after xs s).unsent
unfolding after
known_steps [] given told s m d = among_nil given s.unsent d.waits
known_steps (x ∷ xs) given told s m d =
    rw (← append_assoc given (issued_by x) (issued_in xs))
    (known_steps xs (given ++ issued_by x) (told_with_step x told s) (after_step x s) m.1 (known_step x given told s m.0 d))

known_first : (remote : List ℕ) (local : LocalCids) → Known [] [] (first_ids remote local)
unfolding first_ids AllAmong
known_first remote local = record { waits = tt; told = tt }

pub tells_what_was_given : (remote : List ℕ) (local : LocalCids) (xs : List Step) (c : IssuedCid) → TellsWhatWasGiven remote local xs c
unfolding TellsWhatWasGiven
tells_what_was_given remote local xs c m h =
    contains_among (issued_in xs) (after xs (first_ids remote local)).unsent c (known_steps xs [] [] (first_ids remote local) m (known_first remote local)) h
