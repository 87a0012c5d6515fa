-- What the toy's sealing and opening keep.
use Rattle.std.specs.Prelude.{bit_xor, slice_index, Some, None, cond, Bool, true, false, nat_lt}
use Rattle.std.proofs.Common.{◌≡◌, ◌≢◌, ℕ, zero, suc, ◌+◌, ◌-◌, ◌*◌, ◌/◌, ◌%◌, ◌^◌, ◌<◌, List, [], ◌∷◌, ◌++◌, length, take, drop, get_or, refl, ap, sym, ◌∙◌, subst, arith, length-append}
use Rattle.std.specs.Int.{w64, to_le_bytes, from_le_bytes, to_be_bytes, from_be_bytes}
use Rattle.std.specs.Int.Bits.{xor_assoc, xor_self, xor_zero_r}
use Rattle.std.specs.Str.{bytes_eq}
use Rattle.std.proofs.lemmas.Nat.{from_le_bytes-to_le_bytes_8, from_be_bytes-to_be_bytes_8}
use Rattle.std.proofs.lemmas.List.{take_at, drop_at, length-take-le, take-append-drop}
use Rattle.std.proofs.lemmas.Slice.Eq.{bytes_eq-Decides}
use Rattle.qc_base.specs.declared.side.Side.{Side}
use Rattle.qc_toy.specs.declared.key_bytes.Level.{Level}
use Rattle.qc_toy.specs.declared.key_bytes.Usage.{Usage}
use Rattle.qc_toy.specs.KeyBytes.{key_bytes}
use Rattle.qc_toy.specs.Cipher.{xored, checksum, number_bytes, tabulated, tag, toy_seal, toy_opening, toy_signature, tag_fits, plain_of}

pub length-xored : (key : List ℕ) (at : ℕ) (xs : List ℕ) → length (xored key at xs) ≡ length xs
length-xored key at [] = refl
length-xored key at (x ∷ xs) = grind (arith, length-xored key (at + 1) xs)

pub length-tabulated : (f : ℕ → ℕ) (at n : ℕ) → length (tabulated f at n) ≡ n
length-tabulated f at zero = refl
length-tabulated f at (suc n) = grind (arith, length-tabulated f (at + 1) n)

pub length-tag : (key : List ℕ) (t number : ℕ) → length (tag key t number) ≡ 16
unfolding tag
length-tag key t number = refl

pub xor_twice : (a b : ℕ) → bit_xor (bit_xor a b) b ≡ a
xor_twice a b = xor_assoc a b b ∙ ap (bit_xor a) (xor_self b) ∙ xor_zero_r a

-- what was xored twice is as before
pub xored_twice : (key : List ℕ) (at : ℕ) (xs : List ℕ) → xored key at (xored key at xs) ≡ xs
xored_twice key at [] = refl
xored_twice key at (x ∷ xs) = rw (xor_twice x (slice_index key (at % 16)), xored_twice key (at + 1) xs) refl

-- a sealed payload is longer than the plain one by its tag
pub length-toy_seal : (key : List ℕ) (number : ℕ) (header plain : List ℕ) → length (toy_seal key number header plain) ≡ length plain + 16
unfolding toy_seal
length-toy_seal key number header plain =
    length-append (xored key 0 plain) (tag key (checksum number header plain) number)
    ∙ omega (arith, length-xored key 0 plain, length-tag key (checksum number header plain) number)

-- opening bytes that end in 16 bytes t
pub opening_of : (key : List ℕ) (number : ℕ) (header body t : List ℕ) → length t ≡ 16
    → toy_opening key number header (body ++ t)
    ≡ cond (bytes_eq t (tag key (checksum number header (xored key 0 body)) number)) (Some (xored key 0 body)) None
unfolding toy_opening
opening_of key number header body t h =
    let n : length (body ++ t) - 16 ≡ length body = omega (arith, length-append body t) in
    let long : nat_lt (length (body ++ t)) 16 ≡ false = grind (arith, length-append body t) in
    rw (long, n, take_at body t (length body) refl, drop_at body t (length body) refl) refl

-- what is sealed opens to itself
pub opens_sealed : (key : List ℕ) (number : ℕ) (header plain : List ℕ) → toy_opening key number header (toy_seal key number header plain) ≡ Some plain
unfolding toy_seal
opens_sealed key number header plain =
    let t = tag key (checksum number header plain) number in
    opening_of key number header (xored key 0 plain) t (length-tag key (checksum number header plain) number)
    ∙ rw (xored_twice key 0 plain, (bytes_eq-Decides t t).1 refl) refl

pub checksum_small : (number : ℕ) (header plain : List ℕ) → checksum number header plain < 256
unfolding checksum
checksum_small number header plain = omega arith

-- If two tags of one key are equal, so are the checksums, and the numbers but for their lowest byte.
pub same_checksum : (key : List ℕ) (t u m n : ℕ) → t < 256 → u < 256 → tag key t m ≡ tag key u n → t ≡ u
unfolding tag number_bytes
same_checksum key t u m n ht hu e =
    let e0 = ap (λ (xs : List ℕ). get_or xs 0 0) e in omega arith

byte_cancel : (a x y : ℕ) → (a + x % 256) % 256 ≡ (a + y % 256) % 256 → x % 256 ≡ y % 256
byte_cancel a x y e = omega arith

pub same_upper_bytes : (key : List ℕ) (t m n : ℕ) → tag key t m ≡ tag key t n → drop 1 (to_le_bytes w64 m) ≡ drop 1 (to_le_bytes w64 n)
unfolding tag number_bytes
same_upper_bytes key t m n e =
    let b1 = byte_cancel _ (m / 256) (n / 256) (ap (λ (xs : List ℕ). get_or xs 1 0) e) in
    let b2 = byte_cancel _ (m / 65536) (n / 65536) (ap (λ (xs : List ℕ). get_or xs 2 0) e) in
    let b3 = byte_cancel _ (m / 16777216) (n / 16777216) (ap (λ (xs : List ℕ). get_or xs 3 0) e) in
    let b4 = byte_cancel _ (m / 4294967296) (n / 4294967296) (ap (λ (xs : List ℕ). get_or xs 4 0) e) in
    let b5 = byte_cancel _ (m / 1099511627776) (n / 1099511627776) (ap (λ (xs : List ℕ). get_or xs 5 0) e) in
    let b6 = byte_cancel _ (m / 281474976710656) (n / 281474976710656) (ap (λ (xs : List ℕ). get_or xs 6 0) e) in
    let b7 = byte_cancel _ (m / 72057594037927936) (n / 72057594037927936) (ap (λ (xs : List ℕ). get_or xs 7 0) e) in
    rw (b1, b2, b3, b4, b5, b6, b7) refl

-- Numbers that agree in their lowest byte and in the seven above it are equal.
pub same_number : (m n : ℕ) → m < 2 ^ 64 → n < 2 ^ 64 → m % 256 ≡ n % 256 → drop 1 (to_le_bytes w64 m) ≡ drop 1 (to_le_bytes w64 n) → m ≡ n
same_number m n hm hn low upper =
    let bytes : to_le_bytes w64 m ≡ to_le_bytes w64 n = ap (λ (b : ℕ). b ∷ drop 1 (to_le_bytes w64 m)) low ∙ ap (λ (bs : List ℕ). n % 256 ∷ bs) upper in
    sym (from_le_bytes-to_le_bytes_8 m hm) ∙ ap (from_le_bytes w64) bytes ∙ from_le_bytes-to_le_bytes_8 n hn

-- The checksum fixes a number's lowest byte.
pub same_lowest : (m n : ℕ) (header plain : List ℕ) → checksum m header plain ≡ checksum n header plain → m % 256 ≡ n % 256
unfolding checksum
same_lowest m n header plain e = omega arith

-- A tag fits one number alone.
pub tag_of_number : (key header plain : List ℕ) (m n : ℕ) → m < 2 ^ 64 → n < 2 ^ 64 → tag key (checksum m header plain) m ≡ tag key (checksum n header plain) n → m ≡ n
tag_of_number key header plain m n hm hn e =
    let t = same_checksum key (checksum m header plain) (checksum n header plain) m n (checksum_small m header plain) (checksum_small n header plain) e in
    let e' : tag key (checksum n header plain) m ≡ tag key (checksum n header plain) n = subst (λ c. tag key c m ≡ tag key (checksum n header plain) n) t e in
    same_number m n hm hn (same_lowest m n header plain t) (same_upper_bytes key (checksum n header plain) m n e')

-- a test of two lists that differ
pub differ : (xs ys : List ℕ) → (xs ≡ ys → ⊥) → bytes_eq xs ys ≡ false
differ xs ys h = elim (bytes_eq xs ys) as (λ b. bytes_eq xs ys ≡ b → bytes_eq xs ys ≡ false) [ true ↦ λ e. absurd (h ((bytes_eq-Decides xs ys).0 e)) | false ↦ λ e. e ] refl

-- what is sealed opens with no other number
pub opens_no_other : (key : List ℕ) (number wrong : ℕ) (header plain : List ℕ) → number < 2 ^ 64 → wrong < 2 ^ 64 → wrong ≢ number
    → toy_opening key wrong header (toy_seal key number header plain) ≡ None
unfolding toy_seal
opens_no_other key number wrong header plain hn hw ne =
    let t = tag key (checksum number header plain) number in
    let u = tag key (checksum wrong header plain) wrong in
    let d : bytes_eq t u ≡ false = differ t u (λ e. ne (sym (tag_of_number key header plain number wrong hn hw e))) in
    opening_of key wrong header (xored key 0 plain) t (length-tag key (checksum number header plain) number)
    ∙ rw (xored_twice key 0 plain, d) refl

epoch_byte : (x y t i : ℕ) → (x % 256 + t * i + 0) % 256 ≡ (y % 256 + t * i + 0) % 256 → x % 256 ≡ y % 256
epoch_byte x y t i e = omega arith

-- A tag fits one epoch alone, of the keys that differ in it only.
pub same_epoch_by : (secret : List ℕ) (level : Level) (from : Side) (usage : Usage) (e f t m n : ℕ) → e < 2 ^ 64 → f < 2 ^ 64
    → tag (key_bytes secret level from usage e) t m ≡ tag (key_bytes secret level from usage f) t n → e ≡ f
unfolding tag number_bytes key_bytes
same_epoch_by secret level from usage e f t m n he hf same =
    let b0 = epoch_byte (e / 72057594037927936) (f / 72057594037927936) t 9 (ap (λ (xs : List ℕ). get_or xs 8 0) same) in
    let b1 = epoch_byte (e / 281474976710656) (f / 281474976710656) t 10 (ap (λ (xs : List ℕ). get_or xs 9 0) same) in
    let b2 = epoch_byte (e / 1099511627776) (f / 1099511627776) t 11 (ap (λ (xs : List ℕ). get_or xs 10 0) same) in
    let b3 = epoch_byte (e / 4294967296) (f / 4294967296) t 12 (ap (λ (xs : List ℕ). get_or xs 11 0) same) in
    let b4 = epoch_byte (e / 16777216) (f / 16777216) t 13 (ap (λ (xs : List ℕ). get_or xs 12 0) same) in
    let b5 = epoch_byte (e / 65536) (f / 65536) t 14 (ap (λ (xs : List ℕ). get_or xs 13 0) same) in
    let b6 = epoch_byte (e / 256) (f / 256) t 15 (ap (λ (xs : List ℕ). get_or xs 14 0) same) in
    let b7 = epoch_byte e f t 16 (ap (λ (xs : List ℕ). get_or xs 15 0) same) in
    let bytes : to_be_bytes w64 e ≡ to_be_bytes w64 f = rw (b0, b1, b2, b3, b4, b5, b6, b7) refl in
    sym (from_be_bytes-to_be_bytes_8 e he) ∙ ap (from_be_bytes w64) bytes ∙ from_be_bytes-to_be_bytes_8 f hf

pub same_checksum_of_epochs : (secret : List ℕ) (level : Level) (from : Side) (usage : Usage) (e f t u m n : ℕ) → t < 256 → u < 256
    → tag (key_bytes secret level from usage e) t m ≡ tag (key_bytes secret level from usage f) u n → t ≡ u
unfolding tag number_bytes key_bytes
same_checksum_of_epochs secret level from usage e f t u m n ht hu same =
    let b0 = ap (λ (xs : List ℕ). get_or xs 0 0) same in omega arith

pub same_epoch : (secret : List ℕ) (level : Level) (from : Side) (usage : Usage) (e f t u m n : ℕ) → t < 256 → u < 256 → e < 2 ^ 64 → f < 2 ^ 64
    → tag (key_bytes secret level from usage e) t m ≡ tag (key_bytes secret level from usage f) u n → e ≡ f
same_epoch secret level from usage e f t u m n ht hu he hf same =
    let c = same_checksum_of_epochs secret level from usage e f t u m n ht hu same in
    same_epoch_by secret level from usage e f t m n he hf (same ∙ ap (λ c. tag (key_bytes secret level from usage f) c n) (sym c))

-- what is sealed in one epoch opens in no other
pub opens_no_other_epoch : (secret : List ℕ) (level : Level) (from : Side) (usage : Usage) (e f : ℕ) (number wrong : ℕ) (header plain : List ℕ)
    → e < 2 ^ 64 → f < 2 ^ 64 → e ≢ f
    → toy_opening (key_bytes secret level from usage f) wrong header (toy_seal (key_bytes secret level from usage e) number header plain) ≡ None
unfolding toy_seal
opens_no_other_epoch secret level from usage e f number wrong header plain he hf ne =
    let k = key_bytes secret level from usage e in
    let l = key_bytes secret level from usage f in
    let body = xored k 0 plain in
    let t = tag k (checksum number header plain) number in
    let u = tag l (checksum wrong header (xored l 0 body)) wrong in
    let d : bytes_eq t u ≡ false = differ t u (λ same. ne (same_epoch secret level from usage e f _ _ number wrong (checksum_small number header plain) (checksum_small wrong header (xored l 0 body)) he hf same)) in
    opening_of l wrong header body t (length-tag k (checksum number header plain) number) ∙ rw d refl

some_of : (b c : Bool) (x p : List ℕ) → cond b None (cond c (Some x) None) ≡ Some p → (b ≡ false) × ((c ≡ true) × (x ≡ p))
some_of true c x p e = cc
some_of false true x p e = (refl, (refl, cc))
some_of false false x p e = cc

-- only longer bytes open
pub opened_length : (key : List ℕ) (number : ℕ) (header sealed plain : List ℕ) → toy_opening key number header sealed ≡ Some plain → length sealed ≡ length plain + 16
unfolding toy_opening
opened_length key number header sealed plain e =
    let s = some_of (nat_lt (length sealed) 16) (tag_fits key number header sealed) (plain_of key sealed) plain e in
    let n : length plain ≡ length sealed - 16 = ap length (sym s.1.1) ∙ length-xored key 0 (take (length sealed - 16) sealed) ∙ length-take-le (length sealed - 16) sealed (omega arith) in
    grind (arith, n, s.0)

-- nothing opens but what was sealed
pub opens_only_sealed : (key : List ℕ) (number : ℕ) (header sealed plain : List ℕ) → toy_opening key number header sealed ≡ Some plain → sealed ≡ toy_seal key number header plain
unfolding toy_opening toy_seal
opens_only_sealed key number header sealed plain e =
    let s = some_of (nat_lt (length sealed) 16) (tag_fits key number header sealed) (plain_of key sealed) plain e in
    let front : take (length sealed - 16) sealed ≡ xored key 0 plain = sym (xored_twice key 0 (take (length sealed - 16) sealed)) ∙ ap (xored key 0) s.1.1 in
    let end = (bytes_eq-Decides _ _).0 s.1.0 in
    sym (take-append-drop (length sealed - 16) sealed) ∙ ap (λ xs. xs ++ drop (length sealed - 16) sealed) front
    ∙ ap (λ xs. xored key 0 plain ++ xs) (end ∙ ap (λ p. tag key (checksum number header p) number) s.1.1)

pub length-toy_signature : (key body : List ℕ) → length (toy_signature key body) ≡ 16
unfolding toy_signature
length-toy_signature key body = length-tag key _ 0
