-- The text of a stateless reset token
use Rattle.std.specs.Prelude.{ℕ, ◌/◌, ◌%◌, List, [], ◌∷◌, false, flat_map}
use Rattle.std.specs.Fmt.{digit_glyph}

-- a byte as two lower hexadecimal digits
abbrev pub byte_text : ℕ → List ℕ
byte_text b = digit_glyph false (b / 16) ∷ digit_glyph false (b % 16) ∷ []

-- two digits a byte
abbrev pub token_text : List ℕ → List ℕ
token_text bytes = flat_map byte_text bytes
