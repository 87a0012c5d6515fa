-- Values written: some text is what a grammar says of the value, whatever comes behind it
use Rattle.std.proofs.Common.{◌≡◌, ℕ, ◌<◌, ◌^◌, List, [], ◌∷◌, ◌++◌, length, refl, sym, subst, append_assoc}
use Rattle.std.specs.Int.{Width, byte_len, to_be_bytes}
use Rattle.qc_base.specs.Varint.{varint}
use Rattle.qc_base.specs.Grammar.{Spelling, ◌>>=◌, Is, Where, Text, Bytes, Byte, Word, Varint, Blob}
use Rattle.qc_base.proofs.Varints.{varint_spelled}

pub record Spells {X : Type 0} (S : Spelling X) (x : X) (text : List ℕ) : Type 0 where
  pub goes : (z : List ℕ) → S x (text ++ z) z

pub spells_by : {X : Type 0} {S : Spelling X} {x : X} {t u : List ℕ} → t ≡ u → Spells S x t → Spells S x u
spells_by {S = S} {x = x} e s = subst (λ (w : List ℕ). Spells S x w) e s

-- a value and what comes behind it
pub spells_then : {X Y : Type 0} {S : Spelling X} {T : X → Spelling Y} {x : X} {y : Y} {t u : List ℕ} → Spells S x t → Spells (T x) y u → Spells (S >>= T) y (t ++ u)
spells_then {S = S} {x = x} {t = t} {u = u} s w = record {
  goes = λ z. (x, u ++ z, subst (λ (a : List ℕ). S x a (u ++ z)) (sym (append_assoc t u z)) (s.goes (u ++ z)), w.goes z);
}

-- the last value, and what it makes
pub spells_last : {X Y : Type 0} {S : Spelling X} {f : X → Y} {x : X} {t : List ℕ} → Spells S x t → Spells (S >>= (λ v. Is (f v))) (f x) t
spells_last {x = x} s = record { goes = λ z. (x, z, s.goes z, (refl, refl)) }

pub spells_is : {X : Type 0} (x : X) → Spells (Is x) x []
spells_is x = record { goes = λ z. (refl, refl) }

pub spells_where : {X : Type 0} {S : Spelling X} {P : Type 0} {x : X} {t : List ℕ} → P → Spells S x t → Spells (Where P S) x t
spells_where p s = record { goes = λ z. (p, s.goes z) }

pub spells_text : {X : Type 0} {S : Spelling X} {x : X} {t : List ℕ} → Spells S x t → Spells (Text S) t t
spells_text {x = x} s = record { goes = λ z. (x, s.goes z, refl) }

pub spells_bytes : (x : List ℕ) → Spells (Bytes (length x)) x x
spells_bytes x = record { goes = λ z. (refl, refl) }

pub spells_byte : (b : ℕ) → Spells Byte b (b ∷ [])
spells_byte b = record { goes = λ z. refl }

pub spells_word : (w : Width) (n : ℕ) → n < 256 ^ byte_len w → Spells (Word w) n (to_be_bytes w n)
spells_word w n h = record { goes = λ z. (h, refl) }

pub spells_varint : (n : ℕ) → n < 4611686018427387904 → Spells Varint n (varint n)
spells_varint n h = record { goes = λ z. varint_spelled n z h }

pub spells_blob : (x : List ℕ) → length x < 4611686018427387904 → Spells Blob x (varint (length x) ++ x)
spells_blob x h = spells_then {S = Varint} {T = Bytes} (spells_varint (length x) h) (spells_bytes x)
