-- The estimate of the round trip time lies between the samples.
use Rattle.std.proofs.Common.{◌≡◌, ℕ, ◌^◌, ◌<◌, ◌≤◌, List, [], ◌∷◌, Option, Some, None, min, sym, subst, arith}
use Rattle.std.proofs.lemmas.Bool.Decides.{nat_tests}
use Rattle.qc_path.specs.RoundTrips.{Rtt, AllBetween, EstimateBetween, adjusted, all_sampled, sampled, smoother}

-- a sample that is adjusted stays above the least one and isn't greater
adjusted_low : (low least delay sample : ℕ) → sample < 2 ^ 61 → low ≤ least → low ≤ sample → low ≤ adjusted least delay sample
unfolding adjusted
adjusted_low low least delay sample small a b = grind (arith, nat_tests)

adjusted_high : (least delay sample : ℕ) → adjusted least delay sample ≤ sample
unfolding adjusted
adjusted_high least delay sample = grind (arith, nat_tests)

-- a time smoothed lies between the two that it is made of
smoother_low : (low smoothed time : ℕ) → smoothed < 2 ^ 61 → time < 2 ^ 61 → low ≤ smoothed → low ≤ time → low ≤ smoother smoothed time
unfolding smoother
smoother_low low smoothed time s t a b = omega arith

smoother_high : (high smoothed time : ℕ) → high < 2 ^ 61 → smoothed ≤ high → time ≤ high → smoother smoothed time ≤ high
unfolding smoother
smoother_high high smoothed time small a b = omega arith

-- what is known, of its parts, once there was a sample
abbrev known : ℕ → ℕ → ℕ → ℕ → Rtt
known latest smoothed var least = record { latest = latest; smoothed = Some smoothed; var = var; least = least }

-- one sample more, once there was one
next_sample : (low high delay sample latest smoothed var least : ℕ) → high < 2 ^ 61 → low ≤ sample → sample ≤ high → low ≤ least → low ≤ smoothed → smoothed ≤ high → EstimateBetween low high (sampled delay sample (known latest smoothed var least))
unfolding sampled
next_sample low high delay sample latest smoothed var least small a b c d e =
    let time : ℕ = adjusted (min least sample) delay sample in
    let time_low : low ≤ time = adjusted_low low (min least sample) delay sample (omega arith) (omega arith) a in
    let time_high : time ≤ high = omega (arith, adjusted_high (min least sample) delay sample) in
    record {
      least = omega arith;
      low_end = smoother_low low smoothed time (omega arith) (omega arith) d time_low;
      high_end = smoother_high high smoothed time small e time_high;
    }

-- and any number more
more_samples : (low high : ℕ) (samples : List (ℕ × ℕ)) (latest smoothed var least : ℕ) → high < 2 ^ 61 → AllBetween low high samples → EstimateBetween low high (known latest smoothed var least) → EstimateBetween low high (all_sampled samples (known latest smoothed var least))
unfolding sampled
more_samples low high [] latest smoothed var least small all here = here
more_samples low high ((delay, sample) ∷ samples) latest smoothed var least small all here =
    more_samples low high samples _ _ _ _ small all.2 (next_sample low high delay sample latest smoothed var least small all.0 all.1 here.least here.low_end here.high_end)

-- the first sample, and more
first_sample : (low high delay sample : ℕ) (samples : List (ℕ × ℕ)) (latest var least : ℕ) → high < 2 ^ 61 → AllBetween low high ((delay, sample) ∷ samples) → EstimateBetween low high (all_sampled ((delay, sample) ∷ samples) (record { latest = latest; smoothed = None; var = var; least = least }))
unfolding sampled
first_sample low high delay sample samples latest var least small all =
    more_samples low high samples _ _ _ _ small all.2 (record { least = all.0; low_end = all.0; high_end = all.1 })

pub samples_between : (low high delay sample : ℕ) (samples : List (ℕ × ℕ)) (rtt : Rtt) → high < 2 ^ 61 → AllBetween low high ((delay, sample) ∷ samples) → rtt.smoothed ≡ None → EstimateBetween low high (all_sampled ((delay, sample) ∷ samples) rtt)
samples_between low high delay sample samples rtt small all none =
    let P : Option ℕ → Type 0 = λ o. EstimateBetween low high (all_sampled ((delay, sample) ∷ samples) (record rtt { smoothed = o })) in
    subst P (sym none) (first_sample low high delay sample samples rtt.latest rtt.var rtt.least small all)
