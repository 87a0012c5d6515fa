-- A packet has one full number.
use Rattle.std.proofs.Common.{◌≡◌, ℕ, arith, sym, ◌∙◌}
use Rattle.std.specs.Prelude.{Option, Some, None}
use Rattle.std.proofs.Common.{inl, inr}
use Rattle.qc_base.specs.Time.{plus}
use Rattle.qc_base.specs.PacketNumber.{IsNearest, number_window, number_low}
use Rattle.qc_base.specs.declared.packet_number.PacketNumber.{PacketNumber}
use Rattle.qc_packet.specs.OpenedPacket.{IsNumberOf}

one_nearest : (w low expected x y : ℕ) → IsNearest w low expected x → IsNearest w low expected y → x ≡ y
unfolding IsNearest
one_nearest w low expected x y hx hy =
    elim (hx.1 y hy.0) as (λ _. x ≡ y) [
      | inl a ↦ elim (hy.1 x hx.0) as (λ _. x ≡ y) [ inl b ↦ omega arith | inr b ↦ omega arith ]
      | inr a ↦ elim (hy.1 x hx.0) as (λ _. x ≡ y) [ inl b ↦ omega arith | inr b ↦ omega arith ]
    ]

pub one_number : (low : Option PacketNumber) (rx x y : ℕ) → IsNumberOf low rx x → IsNumberOf low rx y → x ≡ y
one_number None rx x y hx hy = absurd hx
one_number (Some low) rx x y hx hy = one_nearest (number_window low) (number_low low) (plus rx 1) x y hx hy

-- the number that a header's low bytes expand to is its number
pub is_expanded : (o p : Option PacketNumber) (low : PacketNumber) (rx expected number : ℕ) → p ≡ o → p ≡ Some low → expected ≡ plus rx 1
    → IsNearest (number_window low) (number_low low) expected number → IsNumberOf o rx number
is_expanded o p low rx expected number e f next h = let same : o ≡ Some low = sym e ∙ f in rw (same, ← next) h
