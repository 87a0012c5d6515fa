-- The ranges of an ACK, one by one
use Rattle.std.proofs.Common.{◌≡◌, ℕ, ◌+◌, ◌-◌, ◌<◌, ◌≤◌, List, Ok, refl, arith, suc, nat_lt}
use Rattle.qc_base.specs.Reading.{◌>>=◌, refuse}
use Rattle.qc_frame.specs.FrameReading.{more_ranges_at, number_at}
use Rattle.qc_frame.specs.declared.fault.FrameFault.TheVariants.{Malformed}

-- one range, and those below it
pub range_next : (count i smallest : ℕ) (bytes : List ℕ) → i < count → more_ranges_at (count - i) smallest bytes ≡ (number_at >>= (λ gap.
    refuse (nat_lt smallest (gap + 2)) Malformed (number_at >>= (λ len.
    refuse (nat_lt (smallest - (gap + 2)) len) Malformed (more_ranges_at (count - (i + 1)) (smallest - (gap + 2) - len)))))) bytes
unfolding more_ranges_at
range_next count i smallest bytes h = let e : count - i ≡ suc (count - (i + 1)) = omega arith in rw e refl

pub ranges_done : (count i smallest : ℕ) (bytes : List ℕ) → count ≤ i → more_ranges_at (count - i) smallest bytes ≡ Ok (tt, bytes)
unfolding more_ranges_at
ranges_done count i smallest bytes h = let e : count - i ≡ 0 = omega arith in rw e refl
