-- Lemmas on the toy's arithmetic.
use Rattle.std.proofs.Common.{◌≡◌, ℕ, zero, suc, ◌+◌, ◌-◌, ◌*◌, ◌/◌, ◌%◌, ◌<◌, ◌≤◌, List, [], ◌∷◌, ◌++◌, length, take, drop, get_or, set, refl, ap, sym, ◌∙◌, arith, zero-add, append_assoc}
use Rattle.std.specs.Prelude.{bit_xor, if◌then◌else◌, ◌==◌}
use Rattle.std.proofs.lemmas.List.{take_more, drop_more, set_at, get_or_at, length-take-le, take_at, drop_at, drop-drop, take_all, drop_all, append-nil}
use Rattle.std.proofs.Math.Seq.{take-add}
use borrow.Rule.Slice.PartMut.{put_mid}
use Rattle.qc_toy.specs.Cipher.{xored, weight, checksum, tabulated}
use Rattle.qc_toy.specs.CipherLaws.{length-xored, length-tabulated}
use Rattle.qc_toy.specs.KeyBytes.{sum_of_fifths}

pub xored-append : (key : List ℕ) (at : ℕ) (xs ys : List ℕ) → xored key at (xs ++ ys) ≡ xored key at xs ++ xored key (at + length xs) ys
xored-append key at [] ys = grind arith
xored-append key at (x ∷ xs) ys = grind (arith, xored-append key (at + 1) xs ys)

-- one more byte
pub xored_more : (key xs : List ℕ) (i : ℕ) → i < length xs
    → xored key 0 (take (i + 1) xs) ≡ xored key 0 (take i xs) ++ bit_xor (get_or xs i 0) (get_or key (i % 16) 0) ∷ []
xored_more key xs i h =
    let n : length (take i xs) ≡ i = length-take-le i xs (omega arith) in
    let e = xored-append key 0 (take i xs) (get_or xs i 0 ∷ []) in
    rw (take_more xs i 0 h) (rw (n, zero-add) at e)

-- one more byte xored in place
pub xored_step : (key xs front : List ℕ) (i : ℕ) → i < length xs → front ≡ xored key 0 (take i xs)
    → set (front ++ drop i xs) i (bit_xor (get_or (front ++ drop i xs) i 0) (get_or key (i % 16) 0))
    ≡ xored key 0 (take (i + 1) xs) ++ drop (i + 1) xs
xored_step key xs front i h e =
    let n : length front ≡ i = ap length e ∙ length-xored key 0 (take i xs) ∙ length-take-le i xs (omega arith) in
    rw (drop_more xs i 0 h, get_or_at front (get_or xs i 0) (drop (i + 1) xs) 0 i n, set_at front (get_or xs i 0) (drop (i + 1) xs) (bit_xor (get_or xs i 0) (get_or key (i % 16) 0)) i n, xored_more key xs i h, e)
    (sym (append_assoc (xored key 0 (take i xs)) (bit_xor (get_or xs i 0) (get_or key (i % 16) 0) ∷ []) (drop (i + 1) xs)))

pub weight_more : (at : ℕ) (xs : List ℕ) (i : ℕ) → i < length xs → weight at (drop i xs) ≡ (at + 1) * get_or xs i 0 + weight (at + 1) (drop (i + 1) xs)
weight_more at xs i h = ap (weight at) (drop_more xs i 0 h)

pub fifths_more : (k at : ℕ) (xs : List ℕ) → at < length xs → sum_of_fifths k at (drop at xs) ≡ (if at % 5 == k then get_or xs at 0 else 0) + sum_of_fifths k (at + 1) (drop (at + 1) xs)
fifths_more k at xs h = ap (sum_of_fifths k at) (drop_more xs at 0 h)

-- products of numbers that agree modulo 256 agree modulo 256
pub same_product : (x y b u v : ℕ) → x + 256 * u ≡ y + 256 * v → (x * b) % 256 ≡ (y * b) % 256
same_product x y b u v h = omega (arith, ap (λ n. n * b) h)

pub weigh_step : (sum place b at rest : ℕ) → place % 256 ≡ at % 256
    → ((sum + (place + 1) % 65536 * b % 65536) % 65536 + rest) % 256 ≡ (sum + ((at + 1) * b + rest)) % 256
weigh_step sum place b at rest h =
    let e = same_product ((place + 1) % 65536) (at + 1) b ((at + 1) / 256) (((place + 1) % 65536) / 256) (omega arith) in
    omega arith

-- one more number
pub tabulated_more : (f : ℕ → ℕ) (at n : ℕ) → tabulated f at (n + 1) ≡ tabulated f at n ++ f (at + n) ∷ []
tabulated_more f at zero = grind arith
tabulated_more f at (suc n) = grind (arith, tabulated_more f (at + 1) n)

-- one more number written in place
pub tabulated_step : (f : ℕ → ℕ) (xs : List ℕ) (i : ℕ) → i < length xs
    → set (tabulated f 0 i ++ drop i xs) i (f i) ≡ tabulated f 0 (i + 1) ++ drop (i + 1) xs
tabulated_step f xs i h =
    rw (drop_more xs i 0 h, set_at (tabulated f 0 i) (get_or xs i 0) (drop (i + 1) xs) (f i) i (length-tabulated f 0 i), tabulated_more f 0 i, zero-add)
    (sym (append_assoc (tabulated f 0 i) (f i ∷ []) (drop (i + 1) xs)))

-- a byte of the tag as its sum wraps
pub tag_sum : (a b c : ℕ) → ((a + b % 256) % 256 + c) % 256 ≡ (a + b + c) % 256
tag_sum a b c = omega arith

pub weight-append : (at : ℕ) (xs ys : List ℕ) → weight at (xs ++ ys) ≡ weight at xs + weight (at + length xs) ys
weight-append at [] ys = grind arith
weight-append at (x ∷ xs) ys = grind (arith, weight-append (at + 1) xs ys)

-- the checksum of an id with its length and of a packet in two parts
pub checksum_parts : (id header token : List ℕ)
    → checksum 0 (length id ∷ id) (header ++ token)
    ≡ (weight 1 id + length id + weight (length id + 1) header + weight (length id + 1 + length header) token) % 256
unfolding checksum
checksum_parts id header token =
    let n = suc (length id) in
    let f = λ (k : ℕ). (weight 1 id + length id + weight k header + weight (k + length header) token) % 256 in
    let e : n ≡ length id + 1 = omega arith in
    let sum : (1 * length id + weight 1 id + (weight n header + weight (n + length header) token) + 0) % 256 ≡ f n = omega arith in
    rw (weight-append (suc (length id)) header token) (sum ∙ ap f e)

-- a byte of exported material as its sum wraps
pub export_sum : (a b c : ℕ) → ((a + b) % 256 + c % 256) % 256 ≡ (a + b + c) % 256
export_sum a b c = omega arith

-- the key's bytes come again after 16
pub xored_again : (key : List ℕ) (at : ℕ) (xs : List ℕ) → xored key (at + 16) xs ≡ xored key at xs
xored_again key at [] = refl
xored_again key at (x ∷ xs) =
    let same : (at + 16) % 16 ≡ at % 16 = omega arith in
    let next : at + 16 + 1 ≡ at + 1 + 16 = omega arith in
    rw (same, next, xored_again key (at + 1) xs) refl

pub xored_at_block : (key : List ℕ) (i : ℕ) (xs : List ℕ) → xored key (16 * i) xs ≡ xored key 0 xs
xored_at_block key zero xs = refl
xored_at_block key (suc i) xs =
    let next : 16 * suc i ≡ 16 * i + 16 = omega arith in
    rw next (xored_again key (16 * i) xs ∙ xored_at_block key i xs)

-- a part xored in place, which begins where the key does
pub xored_part : (key xs front : List ℕ) (i k : ℕ) → 16 * i + k ≤ length xs → front ≡ xored key 0 (take (16 * i) xs)
    → put_mid (16 * i) k (front ++ drop (16 * i) xs) (xored key 0 (take k (drop (16 * i) (front ++ drop (16 * i) xs))))
    ≡ xored key 0 (take (16 * i + k) xs) ++ drop (16 * i + k) xs
xored_part key xs front i k h e =
    let n = 16 * i in
    let l : length front ≡ n = ap length e ∙ length-xored key 0 (take n xs) ∙ length-take-le n xs (omega arith) in
    let tl : length (take n xs) ≡ n = length-take-le n xs (omega arith) in
    let mid = take k (drop n xs) in
    let a : take n (front ++ drop n xs) ≡ front = take_at front (drop n xs) n l in
    let b : drop n (front ++ drop n xs) ≡ drop n xs = drop_at front (drop n xs) n l in
    let whole : xored key 0 (take (n + k) xs) ≡ front ++ xored key 0 mid =
    ap (xored key 0) (take-add n k xs) ∙ xored-append key 0 (take n xs) mid
    ∙ ap (λ m. xored key 0 (take n xs) ++ xored key m mid) (zero-add (length (take n xs)) ∙ tl)
    ∙ ap (λ ys. xored key 0 (take n xs) ++ ys) (xored_at_block key i mid)
    ∙ ap (λ ys. ys ++ xored key 0 mid) (sym e) in
    rw (a, b, drop-drop k n xs, whole) (sym (append_assoc front (xored key 0 mid) (drop (n + k) xs)))

-- the last part xored in place
pub xored_end : (key xs bytes : List ℕ) (i : ℕ) → 16 * i ≤ length xs → length bytes ≡ length xs → bytes ≡ xored key 0 (take (16 * i) xs) ++ drop (16 * i) xs
    → put_mid (16 * i) (length bytes - 16 * i) bytes (xored key 0 (take (length bytes - 16 * i) (drop (16 * i) bytes))) ≡ xored key 0 xs
xored_end key xs bytes i h n e =
    let k = length bytes - 16 * i in
    let all : 16 * i + k ≡ length xs = omega arith in
    let part = xored_part key xs (xored key 0 (take (16 * i) xs)) i k (omega arith) refl in
    ap (λ (b : List ℕ). put_mid (16 * i) k b (xored key 0 (take k (drop (16 * i) b)))) e
    ∙ part ∙ ap (λ m. xored key 0 (take m xs) ++ drop m xs) all
    ∙ rw (take_all (length xs) xs (omega arith), drop_all (length xs) xs (omega arith)) (append-nil (xored key 0 xs))
