-- Where numbers and ids take their places, and where they are taken out
use Rattle.std.proofs.Common.{◌≡◌, ◌≢◌, ℕ, suc, zero, ◌+◌, ◌-◌, ◌<◌, ◌≤◌, true, false, List, [], ◌∷◌, length, get_or, nat_eq, nat_lt, arith, refl, ap}
use Rattle.std.proofs.lemmas.Bool.Decides.{nat_tests}
use Rattle.std.specs.List.{insert, remove}
use Rattle.qc_base.specs.declared.ids.IssuedCid.{IssuedCid}
use Rattle.qc_ids.specs.LocalCids.{sequences}
use Rattle.qc_ids.specs.Numbers.{numbers_on}
use Rattle.qc_cids.specs.Cids.{cid_dropped, cid_placed, number_dropped, number_placed, numbers_placed}

pub number_place : (n i : ℕ) (ks : List ℕ) → i ≤ length ks → ((k : ℕ) → k < i → get_or ks k 0 ≤ n) → (i < length ks → n < get_or ks i 0)
    → insert ks i n ≡ number_placed n ks
number_place n zero [] l b h = refl
number_place n (suc i) [] l b h = absurd (omega arith)
number_place n zero (k ∷ ks) l b h =
    let here : n < k = h (omega arith) in
    let test : nat_lt n k ≡ true = grind (arith, nat_tests) in
    rw test refl
number_place n (suc i) (k ∷ ks) l b h =
    let first : k ≤ n = b zero (omega arith) in
    let test : nat_lt n k ≡ false = grind (arith, nat_tests) in
    rw test (ap (λ js. k ∷ js) (number_place n i ks (omega arith) (λ j lt. b (suc j) (omega arith)) (λ lt. h (omega arith))))

pub number_out : (n i : ℕ) (ks : List ℕ) → i < length ks → get_or ks i 0 ≡ n → ((k : ℕ) → k < i → get_or ks k 0 ≢ n) → remove ks i ≡ number_dropped n ks
number_out n i [] l e b = absurd (omega arith)
number_out n zero (k ∷ ks) l e b =
    let test : nat_eq k n ≡ true = grind (arith, nat_tests) in
    rw test refl
number_out n (suc i) (k ∷ ks) l e b =
    let other : k ≢ n = b zero (omega arith) in
    let test : nat_eq k n ≡ false = grind (arith, nat_tests) in
    rw test (ap (λ js. k ∷ js) (number_out n i ks (omega arith) e (λ j lt. b (suc j) (omega arith))))

pub number_none : (n : ℕ) (ks : List ℕ) → ((k : ℕ) → k < length ks → get_or ks k 0 ≢ n) → ks ≡ number_dropped n ks
number_none n [] b = refl
number_none n (k ∷ ks) b =
    let other : k ≢ n = b zero (omega arith) in
    let test : nat_eq k n ≡ false = grind (arith, nat_tests) in
    rw test (ap (λ js. k ∷ js) (number_none n ks (λ j lt. b (suc j) (omega arith))))

-- one more of the numbers from one to another takes its place
pub placed_more : (n end : ℕ) (ks ks' before : List ℕ) → n < end → ks' ≡ number_placed n ks → numbers_placed (numbers_on n (end - n)) ks ≡ before
    → numbers_placed (numbers_on (n + 1) (end - (n + 1))) ks' ≡ before
placed_more n end ks ks' before l e h =
    let count : end - n ≡ suc (end - (n + 1)) = omega arith in
    rw e (rw count at h)

pub placed_all : (n end : ℕ) (ks before : List ℕ) → end ≤ n → numbers_placed (numbers_on n (end - n)) ks ≡ before → ks ≡ before
placed_all n end ks before l h =
    let count : end - n ≡ zero = omega arith in
    rw count at h

pub cid_place : (c : IssuedCid) (i : ℕ) (xs : List IssuedCid) → i ≤ length xs → ((k : ℕ) → k < i → get_or (sequences xs) k 0 < c.sequence)
    → (i < length xs → c.sequence < get_or (sequences xs) i 0) → insert xs i c ≡ cid_placed c xs
cid_place c zero [] l b h = refl
cid_place c (suc i) [] l b h = absurd (omega arith)
cid_place c zero (x ∷ xs) l b h =
    let here : c.sequence < x.sequence = h (omega arith) in
    let test : nat_lt c.sequence x.sequence ≡ true = grind (arith, nat_tests) in
    rw test refl
cid_place c (suc i) (x ∷ xs) l b h =
    let first : x.sequence < c.sequence = b zero (omega arith) in
    let test : nat_lt c.sequence x.sequence ≡ false = grind (arith, nat_tests) in
    let same : nat_eq x.sequence c.sequence ≡ false = grind (arith, nat_tests) in
    rw (test, same) (ap (λ ys. x ∷ ys) (cid_place c i xs (omega arith) (λ j lt. b (suc j) (omega arith)) (λ lt. h (omega arith))))

-- one with its number is there
pub cid_there : (c : IssuedCid) (i : ℕ) (xs : List IssuedCid) → i < length xs → ((k : ℕ) → k < i → get_or (sequences xs) k 0 < c.sequence)
    → get_or (sequences xs) i 0 ≡ c.sequence → xs ≡ cid_placed c xs
cid_there c i [] l b h = absurd (omega arith)
cid_there c zero (x ∷ xs) l b h =
    let here : x.sequence ≡ c.sequence = h in
    let test : nat_lt c.sequence x.sequence ≡ false = grind (arith, nat_tests) in
    let same : nat_eq x.sequence c.sequence ≡ true = grind (arith, nat_tests) in
    rw (test, same) refl
cid_there c (suc i) (x ∷ xs) l b h =
    let first : x.sequence < c.sequence = b zero (omega arith) in
    let test : nat_lt c.sequence x.sequence ≡ false = grind (arith, nat_tests) in
    let same : nat_eq x.sequence c.sequence ≡ false = grind (arith, nat_tests) in
    rw (test, same) (ap (λ ys. x ∷ ys) (cid_there c i xs (omega arith) (λ j lt. b (suc j) (omega arith)) h))

pub cid_out : (n i : ℕ) (xs : List IssuedCid) → i < length xs → get_or (sequences xs) i 0 ≡ n → ((k : ℕ) → k < i → get_or (sequences xs) k 0 ≢ n)
    → remove xs i ≡ cid_dropped n xs
cid_out n i [] l e b = absurd (omega arith)
cid_out n zero (x ∷ xs) l e b =
    let here : x.sequence ≡ n = e in
    let test : nat_eq x.sequence n ≡ true = grind (arith, nat_tests) in
    rw test refl
cid_out n (suc i) (x ∷ xs) l e b =
    let other : x.sequence ≢ n = b zero (omega arith) in
    let test : nat_eq x.sequence n ≡ false = grind (arith, nat_tests) in
    rw test (ap (λ ys. x ∷ ys) (cid_out n i xs (omega arith) e (λ j lt. b (suc j) (omega arith))))

pub cid_none : (n : ℕ) (xs : List IssuedCid) → ((k : ℕ) → k < length xs → get_or (sequences xs) k 0 ≢ n) → xs ≡ cid_dropped n xs
cid_none n [] b = refl
cid_none n (x ∷ xs) b =
    let other : x.sequence ≢ n = b zero (omega arith) in
    let test : nat_eq x.sequence n ≡ false = grind (arith, nat_tests) in
    rw test (ap (λ ys. x ∷ ys) (cid_none n xs (λ j lt. b (suc j) (omega arith))))
