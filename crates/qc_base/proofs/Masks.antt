-- A mask over a packet, byte by byte and there and back
use Rattle.std.proofs.Common.{◌≡◌, ℕ, ◌<◌, ◌≤◌, suc, zero, List, [], ◌∷◌, get_or, set, take, length, bit_xor, arith, ap, refl}
use Rattle.qc_base.specs.Mask.{mask_over}

-- one more byte of the mask
pub mask_next : (bytes mask : List ℕ) (i : ℕ) → i < length mask → length mask ≤ length bytes
    → set (mask_over bytes (take i mask)) i (bit_xor (get_or (mask_over bytes (take i mask)) i 0) (get_or mask i 0)) ≡ mask_over bytes (take (suc i) mask)
mask_next bytes [] i h k = let none : ⊥ = omega arith in absurd none
mask_next [] (m ∷ mask) i h k = let none : ⊥ = omega arith in absurd none
mask_next (b ∷ bytes) (m ∷ mask) zero h k = refl
mask_next (b ∷ bytes) (m ∷ mask) (suc i) h k = ap (λ (l : List ℕ). bit_xor b m ∷ l) (mask_next bytes mask i (omega arith) (omega arith))

pub length-mask_over : (bytes mask : List ℕ) → length (mask_over bytes mask) ≡ length bytes
length-mask_over bytes [] = refl
length-mask_over [] (m ∷ mask) = refl
length-mask_over (b ∷ bytes) (m ∷ mask) = ap (λ (n : ℕ). suc n) (length-mask_over bytes mask)
