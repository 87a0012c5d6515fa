-- Grammars: which bytes spell a value. Unlike a reader, a grammar says nothing of faults or of an order of tests.
use Rattle.std.specs.Prelude.{◌≡◌, ℕ, ◌^◌, ◌<◌, List, [], ◌∷◌, ◌++◌, length, slice_index}
use Rattle.std.specs.Int.{Width, byte_len, to_be_bytes}
use Rattle.qc_base.specs.Varint.{Form, limit, spelled}

-- S x a z: the bytes a begin with x, spelled by S, and go on with z
abbrev pub Spelling : Type 0 → Type 1
Spelling X = X → List ℕ → List ℕ → Type 0

infixl 10 ◌>>=◌
-- a value, and behind it what that value asks for
abbrev pub ◌>>=◌ : {X Y : Type 0} → Spelling X → (X → Spelling Y) → Spelling Y
(◌>>=◌) {X} S T y a z = (x : X) × (b : List ℕ) × S x a b × T x y b z

-- this value, and no bytes
abbrev pub Is : {X : Type 0} → X → Spelling X
Is x y a z = (y ≡ x) × (z ≡ a)

-- what S spells, where P holds
abbrev pub Where : {X : Type 0} → Type 0 → Spelling X → Spelling X
Where P S x a z = P × S x a z

-- the bytes that some value has by S
abbrev pub Text : {X : Type 0} → Spelling X → Spelling (List ℕ)
Text {X} S t a z = (x : X) × S x a z × (a ≡ t ++ z)

-- so many bytes
abbrev pub Bytes : ℕ → Spelling (List ℕ)
Bytes n x a z = (length x ≡ n) × (a ≡ x ++ z)

-- all bytes that are left
abbrev pub Rest : Spelling (List ℕ)
Rest x a z = (x ≡ a) × (z ≡ [])

-- how many bytes are left
abbrev pub Left : Spelling ℕ
Left n a z = (n ≡ length a) × (z ≡ a)

-- a number of one byte
abbrev pub Byte : Spelling ℕ
Byte b a z = a ≡ b ∷ z

-- a big-endian number of fixed width
abbrev pub Word : Width → Spelling ℕ
Word w n a z = (n < 256 ^ byte_len w) × (a ≡ to_be_bytes w n ++ z)

-- a variable-length integer, in any form that has room for it (RFC 9000, section 16)
abbrev pub Varint : Spelling ℕ
Varint n a z = (f : Form) × (n < limit f) × (a ≡ spelled f n ++ z)

-- a byte string behind its length
abbrev pub Blob : Spelling (List ℕ)
Blob = do
  n ← Varint
  Bytes n

-- each is a byte
abbrev pub IsBytes : List ℕ → Type 0
IsBytes a = (i : ℕ) → slice_index a i < 256
