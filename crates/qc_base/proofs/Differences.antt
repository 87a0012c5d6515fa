-- What the bits in which numbers differ say of them
use Rattle.std.proofs.Common.{◌≡◌, ℕ, ◌+◌, ◌<◌, ◌≤◌, List, get_or, length, bit_or, bit_xor, arith, refl, inl, inr, sym, ap, ◌∙◌}
use Rattle.std.proofs.Math.Nat.{eq-or-lt_of_le}
use Rattle.std.proofs.lemmas.Nat.{le_or_l, le_or_r}
use Rattle.std.proofs.lemmas.List.{ext_get_or}
use Rattle.std.specs.Int.Bits.{or_zero_l, xor_self, xor_assoc, xor_zero_l, xor_zero_r}

-- numbers that differ in no bit are the same
pub same_by_difference : (x y : ℕ) → bit_xor x y ≡ 0 → x ≡ y
same_by_difference x y e =
    sym (xor_zero_r x) ∙ ap (λ (v : ℕ). bit_xor x v) (sym (xor_self y)) ∙ sym (xor_assoc x y y) ∙ ap (λ (v : ℕ). bit_xor v y) e ∙ xor_zero_l y

-- lists that agree so far agree once more where this difference adds nothing
pub agree_more : (a b : List ℕ) (i so_far : ℕ) → (so_far ≡ 0 → (k : ℕ) → k < i → get_or a k 0 ≡ get_or b k 0)
    → bit_or so_far (bit_xor (get_or a i 0) (get_or b i 0)) ≡ 0 → (k : ℕ) → k < i + 1 → get_or a k 0 ≡ get_or b k 0
agree_more a b i so_far agree e k below =
    let k_le : k ≤ i = omega arith in
    let this : bit_xor (get_or a i 0) (get_or b i 0) ≡ 0 = omega (arith, le_or_r so_far (bit_xor (get_or a i 0) (get_or b i 0)), e) in
    let before : so_far ≡ 0 = omega (arith, le_or_l so_far (bit_xor (get_or a i 0) (get_or b i 0)), e) in
    elim (eq-or-lt_of_le k_le) [
      | inl q ↦ rw q (same_by_difference (get_or a i 0) (get_or b i 0) this)
      | inr q ↦ agree before k q
    ]

-- and lists that are the same have no difference
pub same_more : (a b : List ℕ) (i so_far : ℕ) → (a ≡ b → so_far ≡ 0) → a ≡ b → bit_or so_far (bit_xor (get_or a i 0) (get_or b i 0)) ≡ 0
same_more a b i so_far same e = rw (same e, ← e, xor_self (get_or a i 0), or_zero_l 0) refl

pub all_agree : (a b : List ℕ) (i : ℕ) → length a ≡ length b → length a ≤ i → ((k : ℕ) → k < i → get_or a k 0 ≡ get_or b k 0) → a ≡ b
all_agree a b i h past agree = ext_get_or 0 a b h (λ k q. agree k (omega arith))
