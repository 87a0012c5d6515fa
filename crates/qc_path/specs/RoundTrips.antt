-- Round trip times (RFC 9002, section 5), in nanoseconds. Sums and products stop at 2^64 - 1, differences at 0.
use Rattle.std.specs.Prelude.{ℕ, ◌+◌, ◌-◌, ◌/◌, ◌≤◌, nat_le, if◌then◌else◌, List, [], ◌∷◌, Option, Some, None, unwrap_or, min, max}
use Rattle.qc_base.specs.Time.{plus, times}

-- what is known of a path's round trips
pub record Rtt : Type 0 where
  pub latest : ℕ  -- the sample taken last; before the first one, what is assumed
  pub smoothed : Option ℕ  -- the smoothed time, once there is a sample
  pub var : ℕ  -- how far samples vary
  pub least : ℕ  -- the least sample

-- before a sample: an assumed time, and half of it as its variation
unfoldable pub assumed_rtt : ℕ → Rtt
assumed_rtt initial = record { latest = initial; smoothed = None; var = initial / 2; least = initial }

-- how far apart two times are
abbrev pub distance : ℕ → ℕ → ℕ
distance a b = (a - b) + (b - a)

-- a sample less the time that the peer held its ACK back, unless less than the least sample would be left
unfoldable pub adjusted : (least delay sample : ℕ) → ℕ
adjusted least delay sample = if nat_le (plus least delay) sample then sample - delay else sample

-- an eighth of the new time, and seven of the smoothed one
unfoldable pub smoother : (smoothed time : ℕ) → ℕ
smoother smoothed time = plus (times smoothed 7) time / 8

-- a quarter of the new distance, and three of the variation
unfoldable pub varied : (var smoothed time : ℕ) → ℕ
varied var smoothed time = plus (times var 3) (distance smoothed time) / 4

-- the least sample with one more
abbrev pub least_with : Option ℕ → (least sample : ℕ) → ℕ
least_with None least sample = sample
least_with (Some smoothed) least sample = min least sample

-- the smoothed time with one more sample
abbrev pub smoothed_with : Option ℕ → (time sample : ℕ) → ℕ
smoothed_with None time sample = sample
smoothed_with (Some smoothed) time sample = smoother smoothed time

-- the variation with one more sample
abbrev pub var_with : Option ℕ → (var time sample : ℕ) → ℕ
var_with None var time sample = sample / 2
var_with (Some smoothed) var time sample = varied var smoothed time

-- Round trips are smoothed by an eighth, their variation by a quarter (RFC 9002, section 5.3). A sample is taken, of an ACK
-- that was held back for a time
unfoldable pub sampled : (delay sample : ℕ) → Rtt → Rtt
sampled delay sample rtt =
    let time : ℕ = adjusted (least_with rtt.smoothed rtt.least sample) delay sample in
    record {
      latest = sample;
      smoothed = Some (smoothed_with rtt.smoothed time sample);
      var = var_with rtt.smoothed rtt.var time sample;
      least = least_with rtt.smoothed rtt.least sample;
    }

-- the estimate of the round trip time
abbrev pub estimate : Rtt → ℕ
estimate rtt = unwrap_or rtt.smoothed rtt.latest

-- an estimate that isn't below the sample taken last
abbrev pub cautious : Rtt → ℕ
cautious rtt = max (estimate rtt) rtt.latest

-- the time after which a packet's acknowledgement is overdue, but for the time that the peer may hold it back
unfoldable pub probe_base : Rtt → ℕ
probe_base rtt = plus (estimate rtt) (max (times rtt.var 4) 1000000)

-- samples, each after the time that its ACK was held back, taken one after the other
abbrev pub all_sampled : List (ℕ × ℕ) → Rtt → Rtt
all_sampled [] rtt = rtt
all_sampled ((delay, sample) ∷ samples) rtt = all_sampled samples (sampled delay sample rtt)

-- each sample lies between these two times
abbrev pub AllBetween : (low high : ℕ) → List (ℕ × ℕ) → Type 0
AllBetween low high [] = Unit {0}
AllBetween low high ((delay, sample) ∷ samples) = (low ≤ sample) × (sample ≤ high) × AllBetween low high samples

-- the estimate lies between these two times, and so does the least sample
pub record EstimateBetween (low high : ℕ) (rtt : Rtt) : Type 0 where
  pub least : low ≤ rtt.least
  pub low_end : low ≤ estimate rtt
  pub high_end : estimate rtt ≤ high
