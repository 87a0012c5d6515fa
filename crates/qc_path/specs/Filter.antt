-- Packet numbers that are skipped, so that an ACK of packets which were never sent shows (RFC 9000, section 21.4).
use Rattle.std.specs.Prelude.{ℕ, ◌+◌, ◌*◌, ◌%◌, ◌<◌, ◌≤◌, ◌==◌, if◌then◌else◌, Option, Some, None, min}

-- the number that is skipped next, the room from which the one after it is drawn, and the number skipped last
pub record Skips : Type 0 where
  pub skipped : ℕ
  pub span : ℕ
  pub last : Option ℕ

-- the first one is one of the numbers below 64
unfoldable pub first_skips : ℕ → Skips
first_skips word = record { skipped = word % 64; span = 64; last = None }

-- the number of a packet, where this one would be the next
unfoldable pub number_used : ℕ → Skips → ℕ
number_used next s = if next == s.skipped then next + 1 else next

-- the filter once that packet is numbered: where a number was skipped, the next one to be skipped is one of the `span`
-- numbers from `span` on, and the span doubles, up to 2^32
unfoldable pub numbered : (next word : ℕ) → Skips → Skips
numbered next word s =
    if next == s.skipped then record { skipped = s.span + word % s.span; span = min (2 * s.span) 4294967296; last = Some next } else s

-- how the filter holds them
pub record IsInReach (skipped span : ℕ) : Type 0 where
  pub skipped_small : skipped < 8589934592
  pub span_least : 64 ≤ span
  pub span_most : span ≤ 4294967296
