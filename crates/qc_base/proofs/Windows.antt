-- Numbers that agree modulo a window, and the nearest of them
use Rattle.std.proofs.Common.{◌≡◌, ℕ, ◌+◌, ◌-◌, ◌*◌, ◌<◌, ◌≤◌, ◌%◌, ◌/◌, ◌^◌, ◌⊎◌, suc, inl, inr, arith, sym, ◌∙◌, ap, min}
use Rattle.std.proofs.Math.Nat.{add-mod_right, div-add-mod, mul-add-mod_self_left, mod-eq_of_lt, mul-le-mul_left, lt_of_mul-lt-mul_left, mul-suc, eq-or-lt_of_le, mod-eq-sub-mod}
use Rattle.std.proofs.lemmas.Bool.{cases_order}
use Rattle.qc_base.specs.PacketNumber.{distance, IsNearest}

-- of two that differ one is a window further at least
pub apart : (w x y : ℕ) → x % w ≡ y % w → x < y → x + w ≤ y
apart w x y e h =
    let at_x : w * (x / w) + x % w ≡ x = div-add-mod x w in
    let at_y : w * (y / w) + y % w ≡ y = div-add-mod y w in
    let less : w * (x / w) < w * (y / w) = omega arith in
    let fewer : x / w < y / w = lt_of_mul-lt-mul_left w less in
    let more : w * suc (x / w) ≤ w * (y / w) = mul-le-mul_left w fewer in
    let step : w * suc (x / w) ≡ w * (x / w) + w = mul-suc w (x / w) in
    omega arith

-- the number with these low bits in the window of another
pub block_low : (w low e : ℕ) → low < w → (e - e % w + low) % w ≡ low
block_low w low e h =
    let whole : w * (e / w) + e % w ≡ e = div-add-mod e w in
    let same : e - e % w ≡ w * (e / w) = omega arith in
    rw same (mul-add-mod_self_left w (e / w) low ∙ mod-eq_of_lt h)

-- a whole number of windows above
pub block_fits : (w low e top : ℕ) → low < w → top % w ≡ 0 → e < top → e - e % w + low < top
block_fits w low e top h none below =
    let whole : w * (e / w) + e % w ≡ e = div-add-mod e w in
    let block : (w * (e / w) + 0) % w ≡ 0 = mul-add-mod_self_left w (e / w) 0 ∙ mod-eq_of_lt (omega arith) in
    let next : w * (e / w) + 0 + w ≤ top = apart w (w * (e / w) + 0) top (block ∙ sym none) (omega arith) in
    omega arith

-- no candidate above is as near as one that is less than half a window below, or the last
pub far_above : (w expected near x y : ℕ) → near ≡ min expected 4611686018427387903 → 0 < w → y < 2 ^ 62 → x + w ≤ y
    → ((2 * (near - x) < w) ⊎ (2 ^ 62 ≤ x + w)) → distance x expected < distance y expected
far_above w expected near x y e some small far (inl q) = omega arith
far_above w expected near x y e some small far (inr q) = omega arith

-- none below is nearer than one that is at most half a window above, or the first
pub far_below : (w expected near x y : ℕ) → near ≡ min expected 4611686018427387903 → y + w ≤ x → x < 2 ^ 62
    → ((2 * (x - near) ≤ w) ⊎ (x < w)) → distance x expected ≤ distance y expected
far_below w expected near x y e far small (inl q) = omega arith
far_below w expected near x y e far small (inr q) = omega arith

-- a candidate is the nearest where neither the one above nor the one below is as near
pub nearest_by : (w low expected near x : ℕ) → near ≡ min expected 4611686018427387903 → 0 < w → x % w ≡ low → x < 2 ^ 62
    → ((2 * (near - x) < w) ⊎ (2 ^ 62 ≤ x + w)) → ((2 * (x - near) ≤ w) ⊎ (x < w)) → IsNearest w low expected x
unfolding IsNearest
nearest_by w low expected near x e some is small above below = (
  (is, small),
  λ y other.
      let same : x % w ≡ y % w = is ∙ sym other.0 in
      elim (cases_order x y) [
        | inl q ↦ inr (ap (λ (n : ℕ). distance n expected) q, omega arith)
        | inr (inl q) ↦ inl (far_above w expected near x y e some other.1 (apart w x y same q) above)
        | inr (inr q) ↦
            elim (eq-or-lt_of_le (far_below w expected near x y e (apart w y x (sym same) q) small below)) [
              | inl r ↦ inr (r, omega arith)
              | inr r ↦ inl r
            ]
      ],
)

-- the three numbers that may be the nearest: the one in the expected number's own window, and its neighbours
pub stays : (w low expected near : ℕ) → near ≡ min expected 4611686018427387903 → low < w → 2 ^ 62 % w ≡ 0
    → let x = near - near % w + low in
    ((2 * (near - x) < w) ⊎ (2 ^ 62 ≤ x + w)) → ((2 * (x - near) ≤ w) ⊎ (x < w)) → IsNearest w low expected x
stays w low expected near e some none above below =
    nearest_by w low expected near (near - near % w + low) e (omega arith) (block_low w low near some)
    (block_fits w low near 4611686018427387904 some none (omega arith)) above below

pub goes_up : (w low expected near : ℕ) → near ≡ min expected 4611686018427387903 → low < w
    → let x = near - near % w + low in
    x < near → w ≤ 2 * (near - x) → x + w < 2 ^ 62 → IsNearest w low expected (x + w)
goes_up w low expected near e some lower far small =
    let block = block_low w low near some in
    nearest_by w low expected near (near - near % w + low + w) e (omega arith) (add-mod_right (near - near % w + low) w ∙ block)
    small (inl (omega arith)) (inl (omega arith))

pub goes_down : (w low expected near : ℕ) → near ≡ min expected 4611686018427387903 → low < w → 2 ^ 62 % w ≡ 0
    → let x = near - near % w + low in
    near ≤ x → w < 2 * (x - near) → w ≤ x → IsNearest w low expected (x - w)
goes_down w low expected near e some none upper far fits =
    let block = block_low w low near some in
    let below : near - near % w + low < 2 ^ 62 = block_fits w low near 4611686018427387904 some none (omega arith) in
    nearest_by w low expected near (near - near % w + low - w) e (omega arith) (sym (mod-eq-sub-mod fits) ∙ block)
    (omega arith) (inl (omega arith)) (inl (omega arith))
