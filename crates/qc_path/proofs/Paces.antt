-- A delay of the pacer is as long as it has to be.
use Rattle.std.proofs.Common.{◌≡◌, ℕ, ◌+◌, ◌-◌, ◌*◌, ◌/◌, ◌^◌, ◌<◌, ◌≤◌, Bool, true, false, Option, Some, None, refl, min, sym, arith}
use Rattle.std.proofs.Math.Nat.{le-div_iff_mul-le, mul-le-mul_left, mul-le-mul_right, div-lt_iff_lt-mul}
use Rattle.std.proofs.lemmas.Bool.Decides.{nat_tests}
use Rattle.std.proofs.lemmas.Grind.{div_ceil_times}
use Rattle.std.specs.Int.{div_ceil}
use Rattle.std.specs.Prelude.{◌==◌, ◌||◌, not, is_some, nat_le, if◌then◌else◌, IsSome}
use Rattle.qc_base.specs.Time.{plus, times}
use Rattle.qc_path.specs.Pacing.{Bucket, capacity, grown, is_still, pacing_delay, refilled, wait_for}
use Rattle.qc_path.specs.declared.pacer.PathRate.{PathRate}

-- of a product that is rounded up to whole steps, so many steps bring the whole
steps_bring : (pace share missing elapsed : ℕ) → 0 < pace → 0 < share → missing * share ≤ 18446744073709551615 → div_ceil (missing * share) pace ≤ elapsed → missing ≤ times pace elapsed / share
steps_bring pace share missing elapsed p s small long =
    let up : missing * share ≤ div_ceil (missing * share) pace * pace = (div_ceil_times (missing * share) pace p).0 in
    let more : div_ceil (missing * share) pace * pace ≤ elapsed * pace = mul-le-mul_right pace long in
    (le-div_iff_mul-le s).1 (omega arith)

-- and fewer don't
steps_lack : (pace share missing elapsed : ℕ) → 0 < pace → 0 < share → missing * share ≤ 18446744073709551615 → elapsed < div_ceil (missing * share) pace → times pace elapsed / share < missing
steps_lack pace share missing elapsed p s small short =
    let up : div_ceil (missing * share) pace * pace < missing * share + pace = (div_ceil_times (missing * share) pace p).1 in
    let more : (elapsed + 1) * pace ≤ div_ceil (missing * share) pace * pace = mul-le-mul_right pace (omega arith) in
    (div-lt_iff_lt-mul s).1 (omega arith)

-- what an answer with a time says
record Waits (rate : PathRate) (bytes end : ℕ) (bucket : Bucket) : Type 0 where
  runs : is_still rate ≡ false
  lacks : nat_le (min bytes (capacity rate)) bucket.tokens ≡ false
  ends : wait_for bucket.at rate (min bytes (capacity rate) - bucket.tokens) ≡ end

waits_by : (still enough : Bool) (at end : ℕ) → (if still then None else if enough then None else Some at) ≡ Some end → (still ≡ false) × (enough ≡ false) × (at ≡ end)
waits_by true enough at end e = absurd cc
waits_by false true at end e = absurd cc
waits_by false false at end e = (refl, refl, cc)

waits : (rate : PathRate) (bytes end : ℕ) (bucket : Bucket) → pacing_delay rate bytes bucket ≡ Some end → Waits rate bytes end bucket
unfolding pacing_delay
waits rate bytes end bucket asked =
    let w = waits_by (is_still rate) (nat_le (min bytes (capacity rate)) bucket.tokens) (wait_for bucket.at rate (min bytes (capacity rate) - bucket.tokens)) end asked in
    record { runs = w.0; lacks = w.1; ends = w.2 }

-- a path with a pace has a round trip time and a window
paced : (rtt window : ℕ) → ((rtt == 0) || (window == 0)) ≡ false → (0 < rtt) × (0 < window)
paced rtt window runs = (grind (arith, nat_tests), grind (arith, nat_tests))

-- the bytes are fewer than 2^62, where there is a round trip time
few : (rtt bytes : ℕ) → 0 < rtt → rtt * bytes < 2 ^ 62 → bytes < 2 ^ 62
few rtt bytes r small = let more : 1 * bytes ≤ rtt * bytes = mul-le-mul_right bytes (omega arith) in omega arith

-- and the round trip time is below it, where there are bytes
short : (rtt bytes : ℕ) → 0 < bytes → rtt * bytes < 2 ^ 62 → rtt < 2 ^ 62
short rtt bytes b small = let more : rtt * 1 ≤ rtt * bytes = mul-le-mul_left rtt (omega arith) in omega arith

-- the tokens that are missing, times what a token costs
cost : (rtt bytes missing : ℕ) → missing ≤ bytes → 0 < missing → rtt * bytes < 2 ^ 62 → (times (times rtt missing) 4 ≡ missing * times rtt 4) × (missing * times rtt 4 ≤ 18446744073709551615)
cost rtt bytes missing part some small =
    let less : rtt * missing ≤ rtt * bytes = mul-le-mul_left rtt part in
    let small_rtt : rtt < 2 ^ 62 = short rtt missing some (omega arith) in
    let plain : times rtt 4 ≡ rtt * 4 = omega arith in
    rw plain (omega arith, omega arith)

-- the tokens once a time passed
tokens_after : (rate : PathRate) (now : ℕ) (bucket : Bucket) → is_still rate ≡ false → (refilled now rate bucket).tokens ≡ min (plus bucket.tokens (times (times rate.window 5) (now - bucket.at) / times rate.rtt 4)) (capacity rate)
unfolding refilled grown
tokens_after rate now bucket runs = rw runs refl

-- asked again, by what the bucket then has
asked_again : (rate : PathRate) (bytes now : ℕ) (bucket : Bucket) (enough : Bool) → is_still rate ≡ false → nat_le (min bytes (capacity rate)) (refilled now rate bucket).tokens ≡ enough → is_some (pacing_delay rate bytes (refilled now rate bucket)) ≡ not enough
unfolding pacing_delay
asked_again rate bytes now bucket true runs e = rw (runs, e) refl
asked_again rate bytes now bucket false runs e = rw (runs, e) refl

some_of : (o : Option ℕ) → is_some o ≡ true → IsSome o
some_of None e = absurd cc
some_of (Some x) e = refl

none_of : (o : Option ℕ) → is_some o ≡ false → o ≡ None
none_of None e = refl
none_of (Some x) e = absurd cc

-- when the tokens that are missing have come
at_end : (rate : PathRate) (missing end at : ℕ) → times (times rate.rtt missing) 4 ≡ missing * times rate.rtt 4 → wait_for at rate missing ≡ end → end ≡ plus at (div_ceil (missing * times rate.rtt 4) (times rate.window 5))
unfolding wait_for
at_end rate missing end at e is = rw (sym e) (sym is)

pub delay_enough : (rate : PathRate) (bytes end now : ℕ) (bucket : Bucket) → rate.rtt * bytes < 2 ^ 62 → end < 18446744073709551615 → pacing_delay rate bytes bucket ≡ Some end → end ≤ now → pacing_delay rate bytes (refilled now rate bucket) ≡ None
delay_enough rate bytes end now bucket small early asked late =
    let w = waits rate bytes end bucket asked in
    let pace = paced rate.rtt rate.window w.runs in
    let wanted : ℕ = min bytes (capacity rate) in
    let missing : ℕ = wanted - bucket.tokens in
    let lacking : bucket.tokens < wanted = grind (arith, nat_tests, w.lacks) in
    let price = cost rate.rtt bytes missing (omega arith) (omega arith) small in
    let due = at_end rate missing end bucket.at price.0 w.ends in
    let long : div_ceil (missing * times rate.rtt 4) (times rate.window 5) ≤ now - bucket.at = omega arith in
    let came = steps_bring (times rate.window 5) (times rate.rtt 4) missing (now - bucket.at) (omega (arith, pace.1)) (omega (arith, pace.0)) price.1 long in
    let little : bytes < 2 ^ 62 = few rate.rtt bytes pace.0 small in
    let full : wanted ≤ (refilled now rate bucket).tokens = rw (tokens_after rate now bucket w.runs) (omega arith) in
    none_of _ (asked_again rate bytes now bucket true w.runs (grind (arith, nat_tests, full)))

pub delay_needed : (rate : PathRate) (bytes end now : ℕ) (bucket : Bucket) → rate.rtt * bytes < 2 ^ 62 → pacing_delay rate bytes bucket ≡ Some end → bucket.at ≤ now → now < end → IsSome (pacing_delay rate bytes (refilled now rate bucket))
delay_needed rate bytes end now bucket small asked since early =
    let w = waits rate bytes end bucket asked in
    let pace = paced rate.rtt rate.window w.runs in
    let wanted : ℕ = min bytes (capacity rate) in
    let missing : ℕ = wanted - bucket.tokens in
    let lacking : bucket.tokens < wanted = grind (arith, nat_tests, w.lacks) in
    let price = cost rate.rtt bytes missing (omega arith) (omega arith) small in
    let due = at_end rate missing end bucket.at price.0 w.ends in
    let soon : now - bucket.at < div_ceil (missing * times rate.rtt 4) (times rate.window 5) = omega arith in
    let came = steps_lack (times rate.window 5) (times rate.rtt 4) missing (now - bucket.at) (omega (arith, pace.1)) (omega (arith, pace.0)) price.1 soon in
    let poor : (refilled now rate bucket).tokens < wanted = rw (tokens_after rate now bucket w.runs) (omega arith) in
    some_of _ (asked_again rate bytes now bucket false w.runs (grind (arith, nat_tests, poor)))
