-- Bytes and the entries in them
use Rattle.std.proofs.Common.{◌≡◌, ℕ, zero, suc, ◌+◌, ◌<◌, ◌≤◌, Bool, true, false, List, [], ◌∷◌, ◌++◌, length, Option, Some, None, refl, arith, sym, ap, ◌∙◌, nat_eq, length-append}
use Rattle.std.proofs.lemmas.Bool.Decides.{nat_tests}
use Rattle.std.specs.Prelude.{option_to_list}
use Rattle.std.specs.Option.{option_and_then}
use Rattle.qc_base.specs.Reading.{varint_of, blob_of, bytes_of}
use Rattle.qc_base.proofs.Front.{bytes_take}
use Rattle.qc_base.proofs.Varints.{varint_shorter}
use Rattle.qc_params.specs.ParametersReading.{entry_of, entries_within, entries_of, only_one, value_in}
use Rattle.qc_params.specs.ParametersGrammar.{Entry, values_of}

-- ---- what is read leaves fewer bytes

pub in_some : {X : Type 0} (x y : X) → Some x ≡ Some y → x ≡ y
in_some x y e = cc

bytes_shorter : (n : ℕ) (a x z : List ℕ) → bytes_of n a ≡ Some (x, z) → length z + n ≡ length a
bytes_shorter n a x z e =
    let t = bytes_take n a x z e in
    let all = ap length t.1 in
    omega (arith, t.0, all, length-append x z)

-- a reading that goes on behind another one, with its two values
abbrev entry_after : (ℕ × List ℕ) → (List ℕ × List ℕ) → Entry × List ℕ
entry_after id value = ((id.0, value.0), value.1)

blob_shorter_from : (a : List ℕ) (o : Option (ℕ × List ℕ)) (x z : List ℕ) → varint_of a ≡ o → option_and_then (λ n. bytes_of n.0 n.1) o ≡ Some (x, z) → length z < length a
blob_shorter_from a None x z e h = cc
blob_shorter_from a (Some n) x z e h =
    omega (arith, varint_shorter a n.0 n.1 e, bytes_shorter n.0 n.1 x z h)

pub blob_shorter : (a x z : List ℕ) → blob_of a ≡ Some (x, z) → length z < length a
unfolding blob_of
blob_shorter a x z e = blob_shorter_from a (varint_of a) x z refl e

entry_shorter_behind : (id : ℕ × List ℕ) (o : Option (List ℕ × List ℕ)) (e : Entry) (z : List ℕ) → blob_of id.1 ≡ o → option_and_then (λ value. Some (entry_after id value)) o ≡ Some (e, z) → length z < length id.1
entry_shorter_behind id None e z b h = cc
entry_shorter_behind id (Some value) e z b h =
    let back : value.1 ≡ z = ap (λ (p : Entry × List ℕ). p.1) (in_some _ _ h) in
    rw (← back) (blob_shorter id.1 value.0 value.1 b)

entry_shorter_from : (a : List ℕ) (o : Option (ℕ × List ℕ)) (e : Entry) (z : List ℕ) → varint_of a ≡ o → option_and_then (λ id. option_and_then (λ value. Some (entry_after id value)) (blob_of id.1)) o ≡ Some (e, z) → length z < length a
entry_shorter_from a None e z v h = cc
entry_shorter_from a (Some id) e z v h =
    omega (arith, varint_shorter a id.0 id.1 v, entry_shorter_behind id (blob_of id.1) e z refl h)

pub entry_shorter : (a : List ℕ) (e : Entry) (z : List ℕ) → entry_of a ≡ Some (e, z) → length z < length a
unfolding entry_of
entry_shorter a e z h = entry_shorter_from a (varint_of a) e z refl h

-- ---- the count that bounds the entries plays no part

-- the first entry, and then the others
abbrev entries_behind : (List ℕ → Option (List Entry)) → Option (Entry × List ℕ) → Option (List Entry)
entries_behind others o = option_and_then (λ e. option_and_then (λ es. Some (e.0 ∷ es)) (others e.1)) o

behind_same : (n m b : ℕ) (bytes : List ℕ) (o : Option (Entry × List ℕ)) → ((a : List ℕ) → length a ≤ n → length a ≤ m → entries_within n a ≡ entries_within m a) → entry_of (b ∷ bytes) ≡ o → length bytes ≤ n → length bytes ≤ m → entries_behind (entries_within n) o ≡ entries_behind (entries_within m) o
behind_same n m b bytes None same e p q = refl
behind_same n m b bytes (Some x) same e p q =
    let less : length x.1 < length (b ∷ bytes) = entry_shorter (b ∷ bytes) x.0 x.1 e in
    let k : length x.1 ≤ n = omega arith in
    let l : length x.1 ≤ m = omega arith in
    rw (same x.1 k l) refl

within_same : (n m : ℕ) (a : List ℕ) → length a ≤ n → length a ≤ m → entries_within n a ≡ entries_within m a
unfolding entries_within
within_same zero zero a p q = refl
within_same zero (suc m) [] p q = refl
within_same zero (suc m) (b ∷ a) p q = absurd (omega arith)
within_same (suc n) zero [] p q = refl
within_same (suc n) zero (b ∷ a) p q = absurd (omega arith)
within_same (suc n) (suc m) [] p q = refl
within_same (suc n) (suc m) (b ∷ a) p q =
    let k : length a ≤ n = omega arith in
    let l : length a ≤ m = omega arith in
    behind_same n m b a (entry_of (b ∷ a)) (within_same n m) refl k l

pub entries_none : entries_of [] ≡ Some []
unfolding entries_of entries_within
entries_none = refl

entries_step_from : (b : ℕ) (a : List ℕ) (o : Option (Entry × List ℕ)) → entry_of (b ∷ a) ≡ o → entries_of (b ∷ a) ≡ entries_behind entries_of o
unfolding entries_of entries_within
entries_step_from b a None e = rw e refl
entries_step_from b a (Some x) e =
    let less : length x.1 < length (b ∷ a) = entry_shorter (b ∷ a) x.0 x.1 e in
    let k : length x.1 ≤ length a = omega arith in
    let l : length x.1 ≤ length x.1 = omega arith in
    rw (e, within_same (length a) (length x.1) x.1 k l) refl

-- the entries are the first one and those behind it
pub entries_step : (b : ℕ) (a : List ℕ) → entries_of (b ∷ a) ≡ entries_behind entries_of (entry_of (b ∷ a))
entries_step b a = entries_step_from b a (entry_of (b ∷ a)) refl

-- ---- the value under an id, read on from entry to entry

-- the value under an id, where `found` stood before these bytes
unfoldable pub value_behind : ℕ → Option (List ℕ) → List ℕ → Option (Option (List ℕ))
value_behind id found bytes = option_and_then (λ es. only_one (option_to_list found ++ values_of id es)) (entries_of bytes)

pub value_in_all : (id : ℕ) (bytes : List ℕ) → value_in id bytes ≡ value_behind id None bytes
unfolding value_in value_behind
value_in_all id bytes = refl

behind_end : (id : ℕ) (found : Option (List ℕ)) → value_behind id found [] ≡ Some found
unfolding value_behind
behind_end id None = rw entries_none refl
behind_end id (Some v) = rw entries_none refl

-- the first entry, where there is one
behind_cut : (id b : ℕ) (found : Option (List ℕ)) (a : List ℕ) → entry_of (b ∷ a) ≡ None → value_behind id found (b ∷ a) ≡ None
unfolding value_behind
behind_cut id b found a e = rw (entries_step b a, e) refl

other_from : (id : ℕ) (found : Option (List ℕ)) (e : Entry) (o : Option (List Entry)) → nat_eq e.0 id ≡ false
    → option_and_then (λ es. only_one (option_to_list found ++ values_of id es)) (option_and_then (λ es. Some (e ∷ es)) o)
    ≡ option_and_then (λ es. only_one (option_to_list found ++ values_of id es)) o
other_from id found e None t = refl
other_from id found e (Some es) t = rw t refl

behind_other : (id b : ℕ) (found : Option (List ℕ)) (e : Entry) (a rest : List ℕ) → entry_of (b ∷ a) ≡ Some (e, rest) → nat_eq e.0 id ≡ false → value_behind id found (b ∷ a) ≡ value_behind id found rest
unfolding value_behind
behind_other id b found e a rest h t = rw (entries_step b a, h) (other_from id found e (entries_of rest) t)

first_from : (id : ℕ) (e : Entry) (o : Option (List Entry)) → nat_eq e.0 id ≡ true
    → option_and_then (λ es. only_one (values_of id es)) (option_and_then (λ es. Some (e ∷ es)) o)
    ≡ option_and_then (λ es. only_one ((e.1 ∷ []) ++ values_of id es)) o
first_from id e None t = refl
first_from id e (Some es) t = rw t refl

behind_first : (id b : ℕ) (e : Entry) (a rest : List ℕ) → entry_of (b ∷ a) ≡ Some (e, rest) → nat_eq e.0 id ≡ true → value_behind id None (b ∷ a) ≡ value_behind id (Some e.1) rest
unfolding value_behind
behind_first id b e a rest h t = rw (entries_step b a, h) (first_from id e (entries_of rest) t)

again_from : (id : ℕ) (v : List ℕ) (e : Entry) (o : Option (List Entry)) → nat_eq e.0 id ≡ true
    → option_and_then (λ es. only_one ((v ∷ []) ++ values_of id es)) (option_and_then (λ es. Some (e ∷ es)) o) ≡ None
again_from id v e None t = refl
again_from id v e (Some es) t = rw t refl

behind_again : (id b : ℕ) (v : List ℕ) (e : Entry) (a rest : List ℕ) → entry_of (b ∷ a) ≡ Some (e, rest) → nat_eq e.0 id ≡ true → value_behind id (Some v) (b ∷ a) ≡ None
unfolding value_behind
behind_again id b v e a rest h t = rw (entries_step b a, h) (again_from id v e (entries_of rest) t)

-- ---- the same, of bytes that aren't taken apart

pub nothing : (e : Entry) (rest : List ℕ) → entry_of [] ≡ Some (e, rest) → ⊥
unfolding entry_of varint_of
nothing e rest h = cc

pub is_cut : (id : ℕ) (found : Option (List ℕ)) (a : List ℕ) → 0 < length a → entry_of a ≡ None → value_behind id found a ≡ None
is_cut id found [] p e = absurd (omega arith)
is_cut id found (b ∷ a) p e = behind_cut id b found a e

pub is_other : (id k : ℕ) (found : Option (List ℕ)) (v a rest : List ℕ) → entry_of a ≡ Some ((k, v), rest) → (k ≡ id → ⊥) → value_behind id found a ≡ value_behind id found rest
is_other id k found v [] rest h t = absurd (nothing (k, v) rest h)
is_other id k found v (b ∷ a) rest h t =
    let e : Entry = (k, v) in
    let unequal : nat_eq k id ≡ false = grind (arith, nat_tests) in
    behind_other id b found e a rest h unequal

pub is_first : (id k : ℕ) (v a rest : List ℕ) → entry_of a ≡ Some ((k, v), rest) → k ≡ id → value_behind id None a ≡ value_behind id (Some v) rest
is_first id k v [] rest h t = absurd (nothing (k, v) rest h)
is_first id k v (b ∷ a) rest h t =
    let e : Entry = (k, v) in
    let equal : nat_eq k id ≡ true = grind (arith, nat_tests) in
    behind_first id b e a rest h equal

pub is_again : (id k : ℕ) (w v a rest : List ℕ) → entry_of a ≡ Some ((k, v), rest) → k ≡ id → value_behind id (Some w) a ≡ None
is_again id k w v [] rest h t = absurd (nothing (k, v) rest h)
is_again id k w v (b ∷ a) rest h t =
    let e : Entry = (k, v) in
    let equal : nat_eq k id ≡ true = grind (arith, nat_tests) in
    behind_again id b w e a rest h equal

pub is_end : (id : ℕ) (found : Option (List ℕ)) (a : List ℕ) → length a ≡ 0 → value_behind id found a ≡ Some found
is_end id found [] e = behind_end id found
is_end id found (b ∷ a) e = absurd (omega arith)
