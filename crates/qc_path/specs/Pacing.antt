-- Packets spread over a round trip (RFC 9002, section 7.7), by a bucket of tokens: one token is a byte.
-- Products stop at 2^64 - 1 before they are divided. What is left of a division is dropped, but for a delay, which is rounded up.
use Rattle.std.specs.Prelude.{ℕ, Bool, ◌-◌, ◌*◌, ◌/◌, ◌==◌, ◌||◌, nat_le, if◌then◌else◌, Option, Some, None, min, max}
use Rattle.std.specs.Int.{div_ceil}
use Rattle.qc_base.specs.Time.{plus, times}
use Rattle.qc_path.specs.declared.pacer.PathRate.{PathRate}

-- how many tokens there are, and when they were added last
pub record Bucket : Type 0 where
  pub tokens : ℕ
  pub at : ℕ

-- the most tokens: what the window sends in 2 ms, and between 10 and 256 datagrams
unfoldable pub capacity : PathRate → ℕ
capacity rate = max (10 * rate.mtu) (min (256 * rate.mtu) (times rate.window 2000000 / max rate.rtt 1))

-- without a round trip time or a window there is no pace
abbrev pub is_still : PathRate → Bool
is_still rate = (rate.rtt == 0) || (rate.window == 0)

-- the tokens that a time brings: a quarter more than one window a round trip
unfoldable pub grown : PathRate → ℕ → ℕ
grown rate elapsed = if is_still rate then 0 else times (times rate.window 5) elapsed / times rate.rtt 4

-- a full bucket
unfoldable pub full_bucket : ℕ → PathRate → Bucket
full_bucket now rate = record { tokens = capacity rate; at = now }

-- the tokens of the time since they were added last are added
unfoldable pub refilled : ℕ → PathRate → Bucket → Bucket
refilled now rate bucket = record { tokens = min (plus bucket.tokens (grown rate (now - bucket.at))) (capacity rate); at = now }

-- a packet that counts as in flight takes its size out
unfoldable pub packet_paced : ℕ → PathRate → ℕ → Bucket → Bucket
packet_paced now rate size bucket = record (refilled now rate bucket) { tokens = (refilled now rate bucket).tokens - size }

-- when so many tokens will have come as are missing: the first moment at which they have, so rounded up
unfoldable pub wait_for : ℕ → PathRate → ℕ → ℕ
wait_for now rate missing = plus now (div_ceil (times (times rate.rtt missing) 4) (times rate.window 5))

-- Packets are spread over the round trip (RFC 9002, section 7.7). How long these bytes have to wait, if they have to
unfoldable pub pacing_delay : PathRate → ℕ → Bucket → Option ℕ
pacing_delay rate bytes bucket =
    if is_still rate then None
    else if nat_le (min bytes (capacity rate)) bucket.tokens then None
    else Some (wait_for bucket.at rate (min bytes (capacity rate) - bucket.tokens))
