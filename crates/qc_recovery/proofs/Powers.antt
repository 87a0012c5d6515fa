-- Powers of two that fit 64 bits
use Rattle.std.proofs.Common.{◌≡◌, ℕ, ◌+◌, ◌*◌, ◌^◌, ◌<◌, ◌≤◌, add-one, arith}
use Rattle.std.proofs.Math.Pow.{pow_mono}

pub power_step : (n : ℕ) → 2 ^ n * 2 ≡ 2 ^ (n + 1)
power_step n = rw add-one (omega arith)

pub power_fits : (n : ℕ) → n < 63 → 2 ^ n * 2 < 2 ^ 64
power_fits n less = let most : 2 ^ n ≤ 2 ^ 62 = pow_mono {i = n} {j = 62} (omega arith) in omega arith
