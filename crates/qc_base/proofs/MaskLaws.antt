-- A mask put over a packet comes off again
use Rattle.std.proofs.Common.{◌≡◌, ℕ, ◌+◌, ◌*◌, ◌/◌, ◌%◌, ◌^◌, ◌<◌, ◌≤◌, suc, zero, Bool, true, false, List, [], ◌∷◌, ◌++◌, take, drop, length, bit_xor, nat_lt, cond, arith, ap, refl, sym, ◌∙◌}
use Rattle.std.proofs.lemmas.Bool.Decides.{nat_tests}
use Rattle.std.proofs.lemmas.Nat.{xor_lt, xor_block}
use Rattle.std.proofs.lemmas.List.{take-append-drop, length-take-le, length-take, drop-drop}
use Rattle.std.proofs.Math.Seq.{take-append_seam, drop-append_seam}
use Rattle.std.specs.Int.Bits.{xor_self, xor_assoc, xor_zero_r}
use Rattle.qc_base.specs.Mask.{first_byte, first_changes, mask_over, number_over, masked_by, unmasked_by, sample_at, masked, unmasked}

pub xor_twice : (b m : ℕ) → bit_xor (bit_xor b m) m ≡ b
xor_twice b m = rw (xor_assoc b m m, xor_self m, xor_zero_r b) refl

pub mask_over_twice : (bytes mask : List ℕ) → mask_over (mask_over bytes mask) mask ≡ bytes
mask_over_twice bytes [] = refl
mask_over_twice [] (m ∷ mask) = refl
mask_over_twice (b ∷ bytes) (m ∷ mask) = rw (xor_twice b m, mask_over_twice bytes mask) refl

-- behind its bytes a mask changes nothing
pub mask_over_behind : (n : ℕ) (bytes mask : List ℕ) → length mask ≤ n → drop n (mask_over bytes mask) ≡ drop n bytes
mask_over_behind n bytes [] few = refl
mask_over_behind n [] (m ∷ mask) few = refl
mask_over_behind zero (b ∷ bytes) (m ∷ mask) few = let none : ⊥ = omega arith in absurd none
mask_over_behind (suc n) (b ∷ bytes) (m ∷ mask) few = mask_over_behind n bytes mask (omega arith)

-- the kind of header, which says how many bits are changed, is not changed
same_kind : (b m : ℕ) (short : Bool) → nat_lt b 128 ≡ short → nat_lt (bit_xor b (cond short (m % 32) (m % 16))) 128 ≡ short
same_kind b m true kind =
    let low : b < 2 ^ 7 = grind (arith, nat_tests) in
    let change : m % 32 < 2 ^ 7 = omega arith in
    let still : bit_xor b (m % 32) < 2 ^ 7 = xor_lt 7 b (m % 32) low change in
    grind (arith, nat_tests)
same_kind b m false kind =
    let high : 128 ≤ b = grind (arith, nat_tests) in
    let whole : b / 128 * 2 ^ 7 + b % 128 ≡ b = omega arith in
    let change : 0 * 2 ^ 7 + m % 16 ≡ m % 16 = omega arith in
    let blocks : bit_xor (b / 128 * 2 ^ 7 + b % 128) (0 * 2 ^ 7 + m % 16) ≡ bit_xor (b / 128) 0 * 2 ^ 7 + bit_xor (b % 128) (m % 16) =
    xor_block 7 (b / 128) 0 (b % 128) (m % 16) (omega arith) (omega arith) in
    let here : bit_xor b (m % 16) ≡ bit_xor (b / 128) 0 * 2 ^ 7 + bit_xor (b % 128) (m % 16) =
    sym (ap (λ (v : ℕ). bit_xor v (0 * 2 ^ 7 + m % 16)) whole ∙ ap (λ (v : ℕ). bit_xor b v) change) ∙ blocks in
    let top : bit_xor (b / 128) 0 ≡ b / 128 = xor_zero_r (b / 128) in
    let still : 128 ≤ bit_xor b (m % 16) = omega arith in
    grind (arith, nat_tests)

pub first_twice : (b m : ℕ) → bit_xor (bit_xor b (first_changes b m)) (first_changes (bit_xor b (first_changes b m)) m) ≡ b
first_twice b m = rw (same_kind b m (nat_lt b 128) refl) (xor_twice b (first_changes b m))

-- the parts of a packet that begins with a byte: behind it, up to the number, and from there on
pub number_over_cons : (b q len : ℕ) (rest mask : List ℕ) → number_over (suc q) len mask (b ∷ rest) ≡ b ∷ (take q rest ++ mask_over (drop q rest) (take len (drop 1 mask)))
number_over_cons b q len rest mask = refl

seam_take : (q : ℕ) (rest behind : List ℕ) → q ≤ length rest → take q (take q rest ++ behind) ≡ take q rest
seam_take q rest behind fits =
    let size : length (take q rest) ≡ q = length-take-le q rest fits in
    ap (λ (n : ℕ). take n (take q rest ++ behind)) (sym size) ∙ take-append_seam (take q rest) behind

seam_drop : (q : ℕ) (rest behind : List ℕ) → q ≤ length rest → drop q (take q rest ++ behind) ≡ behind
seam_drop q rest behind fits =
    let size : length (take q rest) ≡ q = length-take-le q rest fits in
    ap (λ (n : ℕ). drop n (take q rest ++ behind)) (sym size) ∙ drop-append_seam (take q rest) behind

by_mask : (b q : ℕ) (rest mask : List ℕ) → q ≤ length rest → unmasked_by (suc q) mask (masked_by (suc q) mask (b ∷ rest)) ≡ b ∷ rest
unfolding masked_by unmasked_by
by_mask b q rest mask fits =
    rw (
      first_twice b (first_byte mask),
      seam_take q rest (mask_over (drop q rest) (take (b % 4 + 1) (drop 1 mask))) fits,
      seam_drop q rest (mask_over (drop q rest) (take (b % 4 + 1) (drop 1 mask))) fits,
      mask_over_twice (drop q rest) (take (b % 4 + 1) (drop 1 mask)),
      take-append-drop q rest,
    ) refl

-- the number has 4 bytes at most, so that the sample behind it is not masked
behind_number : (q : ℕ) (rest mask : List ℕ) → q ≤ length rest → length mask ≤ 4
    → drop (q + 4) (take q rest ++ mask_over (drop q rest) mask) ≡ drop (q + 4) rest
behind_number q rest mask fits few =
    rw (
      ← drop-drop 4 q (take q rest ++ mask_over (drop q rest) mask),
      ← drop-drop 4 q rest,
      seam_drop q rest (mask_over (drop q rest) mask) fits,
      mask_over_behind 4 (drop q rest) mask few,
    ) refl

few_bytes : (b : ℕ) (mask : List ℕ) → length (take (b % 4 + 1) mask) ≤ 4
few_bytes b mask = omega (arith, length-take (b % 4 + 1) mask)

same_sample : (b q : ℕ) (rest mask : List ℕ) → q ≤ length rest → sample_at (suc q) (masked_by (suc q) mask (b ∷ rest)) ≡ sample_at (suc q) (b ∷ rest)
unfolding sample_at masked_by
same_sample b q rest mask fits =
    let next : suc q + 4 ≡ suc (q + 4) = omega arith in
    rw (next, behind_number q rest (take (b % 4 + 1) (drop 1 mask)) fits (few_bytes b (drop 1 mask))) refl

pub mask_comes_off : (mask_of : List ℕ → List ℕ) (pn_offset : ℕ) (packet : List ℕ) → 1 ≤ pn_offset → pn_offset ≤ length packet
    → unmasked mask_of pn_offset (masked mask_of pn_offset packet) ≡ packet
unfolding masked unmasked
mask_comes_off mask_of zero packet some fits = let none : ⊥ = omega arith in absurd none
mask_comes_off mask_of (suc q) [] some fits = let none : ⊥ = omega arith in absurd none
mask_comes_off mask_of (suc q) (b ∷ rest) some fits =
    rw (same_sample b q rest (mask_of (sample_at (suc q) (b ∷ rest))) (omega arith))
    (by_mask b q rest (mask_of (sample_at (suc q) (b ∷ rest))) (omega arith))
