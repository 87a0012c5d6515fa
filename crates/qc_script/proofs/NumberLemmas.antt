-- Decimals read from the left.
use Rattle.std.proofs.Common.{◌≡◌, ℕ, zero, suc, ◌+◌, ◌-◌, ◌*◌, ◌%◌, ◌^◌, ◌<◌, ◌≤◌, List, [], ◌∷◌, ◌++◌, length, take, drop, get_or, refl, sym, ◌∙◌, ap, subst, ◌⊎◌, ⊎_elim, arith, rules}
use Rattle.std.specs.Fmt.{decimal}
use Rattle.std.specs.Int.{IsInRange}
use Rattle.std.proofs.lemmas.Str.Parse.{IsNumeralModel, numerals_by_fold, tells_by_index}
use Rattle.std.proofs.lemmas.Fmt.{digits_decimal, digits_value-decimal, decimal-digits_value, first_decimal, decimal_digit, decimal_nonempty, decimal_by_steps}
use Rattle.std.proofs.lemmas.List.{drop-drop, drop_more, take_more, take_all, take-append-drop}
use Rattle.std.proofs.Math.Seq.{take-add}
use Rattle.std.specs.Simd.{first_chunks}
use Rattle.qc_script.specs.Fields.{Lacks}

-- the number that these digits go on to, after the number so far
abbrev pub read_on : ℕ → List ℕ → ℕ
read_on n [] = n
read_on n (c ∷ cs) = read_on (n * 10 + (c - 48)) cs

abbrev pub AreDigits : List ℕ → Type 0
AreDigits ds = (i : ℕ) → i < length ds → IsInRange 48 57 (get_or ds i 0)

pub own : IsNumeralModel AreDigits (read_on 0)
own = numerals_by_fold _ tells_by_index read_on (search rules)

-- reading on makes no number less
pub read_on-le : (n : ℕ) (cs : List ℕ) → n ≤ read_on n cs
read_on-le n [] = omega arith
read_on-le n (c ∷ cs) = omega (arith, read_on-le (n * 10 + (c - 48)) cs)

pub digits_of_decimal : (ds : List ℕ) (n : ℕ) → n < 2 ^ 64 → ds ≡ decimal n → AreDigits ds
digits_of_decimal ds n h e = subst AreDigits (sym e) (digits_decimal own n h)

pub value_of_decimal : (ds : List ℕ) (n : ℕ) → n < 2 ^ 64 → ds ≡ decimal n → read_on 0 ds ≡ n
value_of_decimal ds n h e = ap (read_on 0) e ∙ digits_value-decimal own n h

pub decimal_isnt_empty : (ds : List ℕ) (n : ℕ) → n < 2 ^ 64 → ds ≡ decimal n → 0 < length ds
decimal_isnt_empty ds n h e = subst (λ (x : List ℕ). 0 < length x) (sym e) (decimal_nonempty n h)

-- a zero in front is alone
pub decimal_zero_alone : (ds : List ℕ) (n : ℕ) → n < 2 ^ 64 → ds ≡ decimal n → get_or ds 0 0 ≡ 48 → 1 < length ds → ⊥
decimal_zero_alone ds zero h e first long = omega (arith, ap length (e ∙ decimal_digit 0 (omega arith)))
decimal_zero_alone ds (suc n) h e first long = omega (arith, first_decimal (suc n) (omega arith) h, ap (λ (x : List ℕ). get_or x 0 0) e)

-- a digit that can't go on the number so far stands in no decimal
pub stops_decimal : (ds : List ℕ) (i number byte n : ℕ) → n < 2 ^ 64 → ds ≡ decimal n → i < length ds → byte ≡ get_or ds i 0 → read_on number (drop i ds) ≡ read_on 0 ds → (IsInRange 48 57 byte → 2 ^ 64 ≤ number * 10 + (byte - 48)) → ⊥
stops_decimal ds i number byte n h e inside is so_far stops =
    let digit : IsInRange 48 57 byte = rw is (digits_of_decimal ds n h e i inside) in
    let rest : drop i ds ≡ byte ∷ drop (i + 1) ds = rw is (drop_more ds i 0 inside) in
    let value : read_on (number * 10 + (byte - 48)) (drop (i + 1) ds) ≡ n = sym (ap (read_on number) rest) ∙ so_far ∙ value_of_decimal ds n h e in
    omega (arith, stops digit, read_on-le (number * 10 + (byte - 48)) (drop (i + 1) ds), value)

-- digits without a zero in front that isn't alone are the decimal of their value
pub decimal_read : (ds : List ℕ) (number : ℕ) → 0 < length ds → AreDigits ds → (((get_or ds 0 0 ≡ 48) × (length ds ≤ 1)) ⊎ (get_or ds 0 0 ≡ 48 → ⊥)) → number < 2 ^ 64 → number ≡ read_on 0 ds → ds ≡ decimal number
decimal_read ds number some digits lead small is =
    let alone : get_or ds 0 0 ≡ 48 → length ds ≡ 1 = λ zero. ⊎_elim (λ one. omega (arith, one.1)) (λ none. absurd (none zero)) lead in
    sym (decimal-digits_value own ds digits some alone (omega arith)) ∙ ap decimal (sym is)

pub Lacks-append : (b : ℕ) (xs ys : List ℕ) → Lacks b xs → Lacks b ys → Lacks b (xs ++ ys)
Lacks-append b [] ys h k = k
Lacks-append b (x ∷ xs) ys h k = (h.0, Lacks-append b xs ys h.1 k)

Lacks-parts : (b : ℕ) (xs ys : List ℕ) → Lacks b (xs ++ ys) → Lacks b xs × Lacks b ys
Lacks-parts b [] ys h = (tt, h)
Lacks-parts b (x ∷ xs) ys h = let rest = Lacks-parts b xs ys h.1 in ((h.0, rest.0), rest.1)

-- a decimal has digits alone
pub Lacks-decimal : (b n : ℕ) → (b < 48) → n < 2 ^ 64 → Lacks b (decimal n)
Lacks-decimal b n low h = decimal_by_steps (λ m ds. Lacks b ds) (λ m l. ((λ e. omega (arith, e)), tt)) (λ m ds l front. Lacks-append b ds ((48 + m % 10) ∷ []) front ((λ e. omega (arith, e)), tt)) n h

-- a text has one part before its first such byte
pub first_split : (b : ℕ) (xs xs' ys ys' : List ℕ) → Lacks b xs → Lacks b xs' → xs ++ b ∷ ys ≡ xs' ++ b ∷ ys' → (xs ≡ xs') × (ys ≡ ys')
first_split b [] [] ys ys' h k e = (refl, cc)
first_split b [] (x ∷ xs') ys ys' h k e = absurd (k.0 (cc))
first_split b (x ∷ xs) [] ys ys' h k e = absurd (h.0 (cc))
first_split b (x ∷ xs) (x' ∷ xs') ys ys' h k e =
    let same : x ≡ x' = cc in
    let rest = first_split b xs xs' ys ys' h.1 k.1 (cc) in
    let front : xs ≡ xs' = rest.0 in
    (cc, rest.1)

-- a text that lacks a byte has no split at it
pub no_split : (b : ℕ) (text xs ys : List ℕ) → Lacks b text → text ≡ xs ++ b ∷ ys → ⊥
no_split b [] [] ys h e = cc
no_split b [] (x ∷ xs) ys h e = cc
no_split b (t ∷ text) [] ys h e = h.0 (cc)
no_split b (t ∷ text) (x ∷ xs) ys h e = no_split b text xs ys h.1 (cc)

pub lacks_more : (b i : ℕ) (xs : List ℕ) → i < length xs → (get_or xs i 0 ≡ b → ⊥) → Lacks b (take i xs) → Lacks b (take (i + 1) xs)
lacks_more b i xs inside other front = rw (take_more xs i 0 inside) (Lacks-append b (take i xs) (get_or xs i 0 ∷ []) front (other, tt))

pub lacks_less : (b i : ℕ) (xs : List ℕ) → i < length xs → Lacks b (take (i + 1) xs) → (get_or xs i 0 ≡ b → ⊥) × Lacks b (take i xs)
lacks_less b i xs inside h = let parts = Lacks-parts b (take i xs) (get_or xs i 0 ∷ []) (rw (take_more xs i 0 inside) at h) in (parts.1.0, parts.0)

pub lacks_all : (b i : ℕ) (xs : List ℕ) → length xs ≤ i → Lacks b (take i xs) → Lacks b xs
lacks_all b i xs past front = rw (take_all i xs past) at front

pub split_found : (b i : ℕ) (xs : List ℕ) → i < length xs → get_or xs i 0 ≡ b → xs ≡ take i xs ++ b ∷ drop (i + 1) xs
split_found b i xs inside is = sym (take-append-drop i xs) ∙ ap (λ (r : List ℕ). take i xs ++ r) (drop_more xs i 0 inside ∙ ap (λ (x : ℕ). x ∷ drop (i + 1) xs) is)

-- chunk i of the chunks of 16 bytes in front of a text
chunk_at : (k i j : ℕ) (xs : List ℕ) → i < k → j ≡ 16 * i → get_or (first_chunks 16 k xs) i [] ≡ take 16 (drop j xs)
chunk_at zero i j xs inside is = absurd (omega arith)
chunk_at (suc k) zero j xs inside is = let none : j ≡ 0 = omega arith in rw none refl
chunk_at (suc k) (suc i) j xs inside is =
    let rest = chunk_at k i (16 * i) (drop 16 xs) (omega arith) refl in
    let sum : j ≡ 16 + 16 * i = omega arith in
    rw sum (rest ∙ ap (λ (r : List ℕ). take 16 r) (drop-drop (16 * i) 16 xs))

pub lacks_chunk : (b i j k : ℕ) (xs : List ℕ) → i < k → j ≡ 16 * i → Lacks b (take j xs) → Lacks b (get_or (first_chunks 16 k xs) i []) → Lacks b (take (j + 16) xs)
lacks_chunk b i j k xs inside is front chunk = rw take-add (Lacks-append b (take j xs) (take 16 (drop j xs)) front (rw (chunk_at k i j xs inside is) at chunk))
