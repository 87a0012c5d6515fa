-- Texts made of tokens: bytes without a mark, each token followed by a mark.
use Rattle.std.proofs.Common.{◌≡◌, ℕ, suc, ◌+◌, ◌/◌, ◌%◌, ◌<◌, ◌≤◌, ◌^◌, Bool, true, false, cond, ◌==◌, ◌||◌, List, [], ◌∷◌, ◌++◌, length, get_or, slice_index, refl, sym, ap, ◌∙◌, append_assoc, length-append, arith}
use Rattle.std.specs.Prelude.{nat_lt, decimal}
use Rattle.std.specs.List.{All, flat_map}
use Rattle.std.proofs.lemmas.List.Elements.{All-head, All-tail}
use Rattle.std.proofs.lemmas.Bool.{agree_below_at, false≢true}
use Rattle.std.proofs.lemmas.Bool.Decides.{nat_tests}
use Rattle.std.proofs.lemmas.Fmt.{decimal_by_steps_wide, decimal_is_IsNumeral_wide}
use Rattle.std.proofs.lemmas.List.{get_or_append_left}
use Rattle.std.specs.Str.Parse.{digits_value}
use Rattle.hex.specs.Hex.{IsBytes, decode_of, encode_lower, encode_with, lower_digits}
use Rattle.hex.proofs.HexLemmas.{decode_of-encode_lower}

-- LF, a space, `*` and `/` are marks, and no digit, letter, `-` or `_` is
abbrev pub is_mark : ℕ → Bool
is_mark c = nat_lt c 45 || (c == 47)

abbrev pub is_token : List ℕ → Bool
is_token [] = true
is_token (c ∷ cs) = cond (is_mark c) false (is_token cs)

cons_both : {X : Type 0} {x y : X} {a b : List X} → x ≡ y → a ≡ b → x ∷ a ≡ y ∷ b
cons_both p q = cc

-- a token is read up to the mark behind it
pub token_back : (a b : List ℕ) (c d : ℕ) (r s : List ℕ) → is_token a ≡ true → is_token b ≡ true → is_mark c ≡ true → is_mark d ≡ true
    → a ++ c ∷ r ≡ b ++ d ∷ s → (a ≡ b) × (c ∷ r ≡ d ∷ s)
token_back [] [] c d r s p q m n e = (refl, e)
token_back [] (y ∷ b) c d r s p q m n e =
    let same : c ≡ y = cc in
    let marked : is_mark y ≡ true = rw (← same) m in
    absurd (false≢true (rw marked at q))
token_back (x ∷ a) [] c d r s p q m n e =
    let same : d ≡ x = cc in
    let marked : is_mark x ≡ true = rw (← same) n in
    absurd (false≢true (rw marked at p))
token_back (x ∷ a) (y ∷ b) c d r s p q m n e =
    let first : x ≡ y = cc in
    let others : a ++ c ∷ r ≡ b ++ d ∷ s = cc in
    let there = token_back a b c d r s (rest x a p) (rest y b q) m n others in
    (cons_both first there.0, there.1)
  where
    rest : (x : ℕ) (a : List ℕ) → is_token (x ∷ a) ≡ true → is_token a ≡ true
    rest x a h = grind (arith, nat_tests)

token_push_by : (m : Bool) (a b : List ℕ) → (is_token a ≡ true → is_token b ≡ true) → cond m false (is_token a) ≡ true → cond m false (is_token b) ≡ true
token_push_by true a b f h = h
token_push_by false a b f h = f h

token_push : (a : List ℕ) (c : ℕ) → is_token a ≡ true → is_mark c ≡ false → is_token (a ++ c ∷ []) ≡ true
token_push [] c p q = rw q refl
token_push (x ∷ a) c p q = token_push_by (is_mark x) a (a ++ c ∷ []) (λ h. token_push a c h q) p

digit_is_no_mark : (d : ℕ) → d < 10 → is_mark (48 + d) ≡ false
digit_is_no_mark d h = grind (arith, nat_tests)

pub decimal_is_token : (n : ℕ) → n < 10 ^ 64 → is_token (decimal n) ≡ true
decimal_is_token = decimal_by_steps_wide (λ n ds. is_token ds ≡ true) (λ n h. token_push [] (48 + n) refl (digit_is_no_mark n h))
    (λ n ds h before. token_push ds (48 + n % 10) before (digit_is_no_mark (n % 10) (omega arith)))

hex_is_no_mark : (d : ℕ) → d < 16 → is_mark (slice_index lower_digits d) ≡ false
hex_is_no_mark d h = agree_below_at (λ d. is_mark (slice_index lower_digits d)) (λ d. false) 16 d refl h

pub hex_is_token : (bytes : List ℕ) → IsBytes bytes → is_token (encode_lower bytes) ≡ true
unfolding encode_with
hex_is_token [] h = refl
hex_is_token (b ∷ bytes) h =
    let small : b < 256 = h 0 in
    rw (hex_is_no_mark (b / 16) (omega arith), hex_is_no_mark (b % 16) (omega arith)) (hex_is_token bytes (λ i. h (suc i)))

pub hex_injective : (a b : List ℕ) → IsBytes a → IsBytes b → encode_lower a ≡ encode_lower b → a ≡ b
hex_injective a b p q e =
    let read = sym (decode_of-encode_lower a p) ∙ ap decode_of e ∙ decode_of-encode_lower b q in
    cc read

pub decimal_injective_wide : (m n : ℕ) → m < 10 ^ 64 → n < 10 ^ 64 → decimal m ≡ decimal n → m ≡ n
decimal_injective_wide m n p q e = sym (decimal_is_IsNumeral_wide m p).1 ∙ ap (digits_value 10) e ∙ (decimal_is_IsNumeral_wide n q).1

-- a decimal begins with a digit
decimal_begins : (n : ℕ) → n < 10 ^ 64 → (0 < length (decimal n)) × (48 ≤ get_or (decimal n) 0 0) × (get_or (decimal n) 0 0 < 58)
decimal_begins = decimal_by_steps_wide (λ n ds. (0 < length ds) × (48 ≤ get_or ds 0 0) × (get_or ds 0 0 < 58)) (λ n h. (omega arith, omega arith, omega arith))
    (λ n ds h before.
    let first = get_or_append_left ds ((48 + n % 10) ∷ []) 0 0 before.0 in
    (omega (arith, length-append ds ((48 + n % 10) ∷ [])), omega (arith, first, before.1), omega (arith, first, before.2)))

pub first_digit : (n : ℕ) → n < 10 ^ 64 → (48 ≤ get_or (decimal n) 0 0) × (get_or (decimal n) 0 0 < 58)
first_digit n h = let begins = decimal_begins n h in (begins.1, begins.2)

-- ---- fields

-- a number, and behind it what a mark begins
pub number_back : (m n c d : ℕ) (r s : List ℕ) → m < 2 ^ 128 → n < 2 ^ 128 → is_mark c ≡ true → is_mark d ≡ true
    → decimal m ++ c ∷ r ≡ decimal n ++ d ∷ s → (m ≡ n) × (c ∷ r ≡ d ∷ s)
number_back m n c d r s p q k l e =
    let both = token_back (decimal m) (decimal n) c d r s (decimal_is_token m (omega arith)) (decimal_is_token n (omega arith)) k l e in
    (decimal_injective_wide m n (omega arith) (omega arith) both.0, both.1)

-- bytes in hex, and behind them what a mark begins
pub bytes_back : (a b : List ℕ) (c d : ℕ) (r s : List ℕ) → IsBytes a → IsBytes b → is_mark c ≡ true → is_mark d ≡ true
    → encode_lower a ++ c ∷ r ≡ encode_lower b ++ d ∷ s → (a ≡ b) × (c ∷ r ≡ d ∷ s)
bytes_back a b c d r s p q k l e =
    let both = token_back (encode_lower a) (encode_lower b) c d r s (hex_is_token a p) (hex_is_token b q) k l e in
    (hex_injective a b p q both.0, both.1)

-- ---- lists

-- a test of a text's beginning that each element's text passes tells elements from what follows them
pub lines_back : {X : Type 0} (f : X → List ℕ) (P : X → Type 0) (begins : List ℕ → Bool)
    → ((x : X) (r : List ℕ) → begins (f x ++ r) ≡ true)
    → ((x y : X) (r s : List ℕ) → P x → P y → f x ++ r ≡ f y ++ s → (x ≡ y) × (r ≡ s))
    → (xs ys : List X) (r s : List ℕ) → All P xs → All P ys → begins r ≡ false → begins s ≡ false
    → flat_map f xs ++ r ≡ flat_map f ys ++ s → (xs ≡ ys) × (r ≡ s)
lines_back f P begins each back [] [] r s p q k l e = (refl, e)
lines_back f P begins each back [] (y ∷ ys) r s p q k l e =
    absurd (false≢true (sym k ∙ ap begins (e ∙ append_assoc (f y) (flat_map f ys) s) ∙ each y (flat_map f ys ++ s)))
lines_back f P begins each back (x ∷ xs) [] r s p q k l e =
    absurd (false≢true (sym l ∙ ap begins (sym e ∙ append_assoc (f x) (flat_map f xs) r) ∙ each x (flat_map f xs ++ r)))
lines_back f P begins each back (x ∷ xs) (y ∷ ys) r s p q k l e =
    let first = back x y (flat_map f xs ++ r) (flat_map f ys ++ s) (All-head P x xs p) (All-head P y ys q)
    (sym (append_assoc (f x) (flat_map f xs) r) ∙ e ∙ append_assoc (f y) (flat_map f ys) s) in
    let others = lines_back f P begins each back xs ys r s (All-tail P x xs p) (All-tail P y ys q) k l first.1 in
    (cons_both first.0 others.0, others.1)

-- a test that answers the same at each element's text and at what follows answers so at the whole
pub lines_begin : {X : Type 0} (f : X → List ℕ) (begins : List ℕ → Bool) (b : Bool) → ((x : X) (r : List ℕ) → begins (f x ++ r) ≡ b)
    → (xs : List X) (r : List ℕ) → begins r ≡ b → begins (flat_map f xs ++ r) ≡ b
lines_begin f begins b each [] r h = h
lines_begin f begins b each (x ∷ xs) r h = ap begins (append_assoc (f x) (flat_map f xs) r) ∙ each x (flat_map f xs ++ r)
