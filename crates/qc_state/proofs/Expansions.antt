-- The number that is nearest to the expected one is the stated one.
use Rattle.std.proofs.Common.{◌≡◌, ℕ, ◌+◌, ◌-◌, ◌*◌, ◌%◌, ◌<◌, ◌≤◌, ◌^◌, ◌⊎◌, min, inl, inr, Bool, true, false, nat_lt, nat_le, ◌&&◌, if◌then◌else◌, refl, arith}
use Rattle.std.proofs.lemmas.Bool.Decides.{nat_tests}
use Rattle.qc_base.specs.PacketNumber.{distance, IsNearest, number_window, number_low}
use Rattle.qc_base.specs.declared.packet_number.PacketNumber.{PacketNumber}
use Rattle.qc_base.specs.declared.packet_number.PacketNumber.TheVariants.{U8, U16, U24, U32}
use Rattle.qc_base.proofs.Windows.{stays, goes_up, goes_down}
use Rattle.qc_state.specs.Expansion.{nearest_to, expanded}

-- two nearest ones are one
both_nearest : (x y e : ℕ) → (distance x e < distance y e) ⊎ ((distance x e ≡ distance y e) × (y ≤ x)) → (distance y e < distance x e) ⊎ ((distance y e ≡ distance x e) × (x ≤ y)) → x ≡ y
both_nearest x y e (inl p) (inl q) = omega arith
both_nearest x y e (inl p) (inr q) = omega (arith, q.0)
both_nearest x y e (inr p) (inl q) = omega (arith, p.0)
both_nearest x y e (inr p) (inr q) = omega (arith, p.1, q.1)

one_nearest : (w low e x y : ℕ) → IsNearest w low e x → IsNearest w low e y → x ≡ y
unfolding IsNearest
one_nearest w low e x y h k = both_nearest x y e (h.1 y k.0) (k.1 x h.0)

up_by : (w low e near x : ℕ) (a b : Bool) → near ≡ min e 4611686018427387903 → x ≡ near - near % w + low → low < w → 2 ^ 62 % w ≡ 0 → x < near →
    nat_le w (2 * (near - x)) ≡ a → nat_lt (x + w) 4611686018427387904 ≡ b → IsNearest w low e (if a && b then x + w else x)
up_by w low e near x true true n is some none low' p q = rw is (goes_up w low e near n some (rw (← is) low') (rw (← is) (grind (arith, nat_tests))) (rw (← is) (grind (arith, nat_tests))))
up_by w low e near x true false n is some none low' p q = rw is (stays w low e near n some none (inr (rw (← is) (grind (arith, nat_tests)))) (inl (rw (← is) (omega arith))))
up_by w low e near x false b n is some none low' p q = rw is (stays w low e near n some none (inl (rw (← is) (grind (arith, nat_tests)))) (inl (rw (← is) (omega arith))))

down_by : (w low e near x : ℕ) (a b : Bool) → near ≡ min e 4611686018427387903 → x ≡ near - near % w + low → low < w → 2 ^ 62 % w ≡ 0 → near ≤ x →
    nat_lt w (2 * (x - near)) ≡ a → nat_le w x ≡ b → IsNearest w low e (if a && b then x - w else x)
down_by w low e near x true true n is some none high p q = rw is (goes_down w low e near n some none (rw (← is) high) (rw (← is) (grind (arith, nat_tests))) (rw (← is) (grind (arith, nat_tests))))
down_by w low e near x true false n is some none high p q = rw is (stays w low e near n some none (inl (rw (← is) (omega arith))) (inr (rw (← is) (grind (arith, nat_tests)))))
down_by w low e near x false b n is some none high p q = rw is (stays w low e near n some none (inl (rw (← is) (omega arith))) (inl (rw (← is) (grind (arith, nat_tests)))))

side_by : (w low e near x : ℕ) (c : Bool) → near ≡ min e 4611686018427387903 → x ≡ near - near % w + low → low < w → 2 ^ 62 % w ≡ 0 → nat_lt x near ≡ c →
    IsNearest w low e (if c then (if nat_le w (2 * (near - x)) && nat_lt (x + w) 4611686018427387904 then x + w else x) else (if nat_lt w (2 * (x - near)) && nat_le w x then x - w else x))
side_by w low e near x true n is some none c = up_by w low e near x (nat_le w (2 * (near - x))) (nat_lt (x + w) 4611686018427387904) n is some none (grind (arith, nat_tests)) refl refl
side_by w low e near x false n is some none c = down_by w low e near x (nat_lt w (2 * (x - near))) (nat_le w x) n is some none (grind (arith, nat_tests)) refl refl

is_nearest : (w low e : ℕ) → low < w → 2 ^ 62 % w ≡ 0 → IsNearest w low e (nearest_to w low (min e 4611686018427387903))
is_nearest w low e some none = side_by w low e (min e 4611686018427387903) _ _ refl refl some none refl

-- what expanding a number gives
pub expanded_is : (number : PacketNumber) (expected n : ℕ) → IsNearest (number_window number) (number_low number) expected n → n ≡ expanded number expected
unfolding expanded
expanded_is (U8 low) e n h = one_nearest _ _ e n _ h (is_nearest 0x100 (low % 0x100) e (omega arith) refl)
expanded_is (U16 low) e n h = one_nearest _ _ e n _ h (is_nearest 0x10000 (low % 0x10000) e (omega arith) refl)
expanded_is (U24 low) e n h = one_nearest _ _ e n _ h (is_nearest 0x1000000 (low % 0x1000000) e (omega arith) refl)
expanded_is (U32 low) e n h = one_nearest _ _ e n _ h (is_nearest 0x100000000 (low % 0x100000000) e (omega arith) refl)

-- what is expanded is the nearest one
pub expanded_nearest : (number : PacketNumber) (expected : ℕ) → IsNearest (number_window number) (number_low number) expected (expanded number expected)
unfolding expanded
expanded_nearest (U8 low) e = is_nearest 0x100 (low % 0x100) e (omega arith) refl
expanded_nearest (U16 low) e = is_nearest 0x10000 (low % 0x10000) e (omega arith) refl
expanded_nearest (U24 low) e = is_nearest 0x1000000 (low % 0x1000000) e (omega arith) refl
expanded_nearest (U32 low) e = is_nearest 0x100000000 (low % 0x100000000) e (omega arith) refl
