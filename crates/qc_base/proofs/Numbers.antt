-- A packet number that was cut comes back
use Rattle.std.proofs.Common.{◌≡◌, ℕ, ◌-◌, ◌*◌, ◌<◌, ◌%◌, ◌^◌, inl, inr, true, false, nat_lt, refl, arith, min, lit<}
use Rattle.qc_base.specs.declared.packet_number.PacketNumber.{PacketNumber}
use Rattle.qc_base.specs.declared.packet_number.PacketNumber.TheVariants.{U8, U16, U24, U32}
use Rattle.qc_base.specs.PacketNumber.{number_of, number_window, number_low, IsNearest, IsInWindow}
use Rattle.qc_base.proofs.Windows.{nearest_by}

-- the low bytes are the number's own, whichever form it has
low_of : (n largest : ℕ) → number_low (number_of n largest) ≡ n % number_window (number_of n largest)
unfolding number_of
low_of n largest =
    elim (nat_lt (2 * (n - largest)) 0x100) [
      | true ↦ grind arith
      | false ↦
          elim (nat_lt (2 * (n - largest)) 0x10000) [
            | true ↦ grind arith
            | false ↦
                elim (nat_lt (2 * (n - largest)) 0x1000000) [
                  | true ↦ grind arith
                  | false ↦ grind arith
                ]
          ]
    ]

window_some : (number : PacketNumber) → 0 < number_window number
window_some (U8 n) = lit< tt
window_some (U16 n) = lit< tt
window_some (U24 n) = lit< tt
window_some (U32 n) = lit< tt

-- a number within half a window of the expected one is the nearest with its low bytes
in_window : (w expected n : ℕ) → 0 < w → n < 2 ^ 62 → IsInWindow w expected n → IsNearest w (n % w) expected n
in_window w expected n some small within =
    nearest_by w (n % w) expected (min expected 4611686018427387903) n refl some refl small (inl (omega arith)) (inl (omega arith))

-- and there is one nearest
one_nearest : (w low expected x y : ℕ) → IsNearest w low expected x → IsNearest w low expected y → x ≡ y
unfolding IsNearest
one_nearest w low expected x y a b =
    elim (a.1 y b.0) [
      | inl p ↦ elim (b.1 x a.0) [ inl q ↦ omega arith | inr q ↦ omega arith ]
      | inr p ↦ elim (b.1 x a.0) [ inl q ↦ omega arith | inr q ↦ omega arith ]
    ]

pub number_comes_back : (number : PacketNumber) (expected result n largest : ℕ) → IsNearest (number_window number) (number_low number) expected result
    → number ≡ number_of n largest → n < 2 ^ 62 → IsInWindow (number_window number) expected n → result ≡ n
number_comes_back number expected result n largest nearest is small within =
    let low : number_low number ≡ n % number_window number = rw is (low_of n largest) in
    let itself = in_window (number_window number) expected n (window_some number) small within in
    one_nearest (number_window number) (n % number_window number) expected result n (rw (← low) nearest) itself
