-- The text of a number or bytes that may be missing tells them.
use Rattle.std.proofs.Common.{◌≡◌, ℕ, ◌<◌, ◌^◌, true, List, [], ◌∷◌, ◌++◌, drop, get_or, Option, Some, None, refl, sym, ap, arith}
use Rattle.std.specs.Prelude.{decimal, codes}
use Rattle.hex.specs.Hex.{encode_lower, encode_with}
use Rattle.qc_base.specs.Grammar.{IsBytes}
use Rattle.qc_text.specs.TraceText.{number_or_dash, bytes_or_dash}
use Rattle.qc_text.specs.OneText.{IsOptionInRange}
use Rattle.qc_text.proofs.Tokens.{is_mark, is_token, token_back, decimal_is_token, first_digit, decimal_injective_wide, hex_is_token, hex_injective}

-- ---- numbers

option_is_token : (o : Option ℕ) → IsOptionInRange o → is_token (number_or_dash o) ≡ true
unfolding number_or_dash
option_is_token None h = refl
option_is_token (Some n) h = decimal_is_token n (omega arith)

dash_is_no_number : (n : ℕ) → n < 2 ^ 64 → codes "-" ≡ decimal n → ⊥
dash_is_no_number n h e =
    let first = first_digit n (omega arith) in
    omega (arith, first.0, ap (λ (a : List ℕ). get_or a 0 0) e)

option_injective : (a b : Option ℕ) → IsOptionInRange a → IsOptionInRange b → number_or_dash a ≡ number_or_dash b → a ≡ b
unfolding number_or_dash
option_injective None None p q e = refl
option_injective None (Some n) p q e = absurd (dash_is_no_number n q e)
option_injective (Some m) None p q e = absurd (dash_is_no_number m p (sym e))
option_injective (Some m) (Some n) p q e = ap Some (decimal_injective_wide m n (omega arith) (omega arith) e)

-- a number or none, and behind it what a mark begins
pub option_back : (a b : Option ℕ) (c d : ℕ) (r s : List ℕ) → IsOptionInRange a → IsOptionInRange b → is_mark c ≡ true → is_mark d ≡ true
    → number_or_dash a ++ c ∷ r ≡ number_or_dash b ++ d ∷ s → (a ≡ b) × (c ∷ r ≡ d ∷ s)
option_back a b c d r s p q k l e =
    let both = token_back (number_or_dash a) (number_or_dash b) c d r s (option_is_token a p) (option_is_token b q) k l e in
    (option_injective a b p q both.0, both.1)

-- ---- bytes

bytes_is_token : (bytes : List ℕ) → IsBytes bytes → is_token (bytes_or_dash bytes) ≡ true
unfolding bytes_or_dash
bytes_is_token [] h = refl
bytes_is_token (byte ∷ bytes) h = hex_is_token (byte ∷ bytes) h

-- a dash is one character, and a byte has two digits
dash_is_no_hex : (byte : ℕ) (bytes : List ℕ) → codes "-" ≡ encode_lower (byte ∷ bytes) → ⊥
unfolding encode_with
dash_is_no_hex byte bytes e = cc (ap (drop 1) e)

bytes_injective : (a b : List ℕ) → IsBytes a → IsBytes b → bytes_or_dash a ≡ bytes_or_dash b → a ≡ b
unfolding bytes_or_dash
bytes_injective [] [] p q e = refl
bytes_injective [] (y ∷ b) p q e = absurd (dash_is_no_hex y b e)
bytes_injective (x ∷ a) [] p q e = absurd (dash_is_no_hex x a (sym e))
bytes_injective (x ∷ a) (y ∷ b) p q e = hex_injective (x ∷ a) (y ∷ b) p q e

-- bytes or none, and behind them what a mark begins
pub body_back : (a b : List ℕ) (c d : ℕ) (r s : List ℕ) → IsBytes a → IsBytes b → is_mark c ≡ true → is_mark d ≡ true
    → bytes_or_dash a ++ c ∷ r ≡ bytes_or_dash b ++ d ∷ s → (a ≡ b) × (c ∷ r ≡ d ∷ s)
body_back a b c d r s p q k l e =
    let both = token_back (bytes_or_dash a) (bytes_or_dash b) c d r s (bytes_is_token a p) (bytes_is_token b q) k l e in
    (bytes_injective a b p q both.0, both.1)
