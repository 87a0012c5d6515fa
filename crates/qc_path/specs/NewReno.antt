-- NewReno (RFC 9002, section 7). The window and the bytes counted stop at 2^64 - 1.
use Rattle.std.specs.Prelude.{ℕ, ◌-◌, ◌*◌, ◌/◌, ◌≤◌, nat_lt, nat_le, Bool, true, not, ◌||◌, if◌then◌else◌, Option, Some, None, min, max}
use Rattle.qc_base.specs.Time.{plus}

-- a window, and what changes it
pub record Reno : Type 0 where
  pub window : ℕ  -- the congestion window in bytes
  pub ssthresh : ℕ  -- the window from which on it grows slowly
  pub recovery_start : Option ℕ  -- when the last congestion event was
  pub bytes_acked : ℕ  -- the bytes acknowledged since the window grew slowly last
  pub mtu : ℕ  -- the size of a datagram in bytes

-- a new controller; its window is below every threshold
unfoldable pub new_reno : (initial mtu : ℕ) → Reno
new_reno initial mtu = record { window = initial; ssthresh = 18446744073709551615; recovery_start = None; bytes_acked = 0; mtu = mtu }

-- sent after the last congestion event
abbrev pub is_after : Option ℕ → ℕ → Bool
is_after None sent = true
is_after (Some event) sent = nat_lt event sent

-- slow start: the window grows by each byte; what it takes past the threshold counts as above it
unfoldable pub grown_fast : ℕ → Reno → Reno
grown_fast bytes r =
    let window : ℕ = plus r.window bytes in
    record r { window = window; bytes_acked = if nat_le r.ssthresh window then window - r.ssthresh else r.bytes_acked }

-- congestion avoidance: the window grows by one datagram for each window of bytes
unfoldable pub grown_slowly : ℕ → Reno → Reno
grown_slowly bytes r =
    let counted : ℕ = plus r.bytes_acked bytes in
    if nat_le r.window counted then record r { window = plus r.window r.mtu; bytes_acked = counted - r.window }
    else record r { bytes_acked = counted }

-- NewReno: slow start, congestion avoidance, one event a round trip (RFC 9002, section 7.3). An acknowledgement of a packet
unfoldable pub reno_acked : (sent bytes : ℕ) → Bool → Reno → Reno
reno_acked sent bytes app_limited r =
    if app_limited || not (is_after r.recovery_start sent) then r
    else if nat_lt r.window r.ssthresh then grown_fast bytes r
    else grown_slowly bytes r

-- half of the window, and at least two datagrams
abbrev pub halved : Reno → ℕ
halved r = max (r.window / 2) (2 * r.mtu)

-- a congestion event for a packet: once in each round trip, the window falls to a half; a persistent one leaves two datagrams
unfoldable pub reno_congested : (now sent : ℕ) → Bool → Reno → Reno
reno_congested now sent persistent r =
    if is_after r.recovery_start sent then record r {
      window = (if persistent then 2 * r.mtu else halved r);
      ssthresh = halved r;
      recovery_start = Some now;
    } else r

-- another size of a datagram
unfoldable pub reno_resized : ℕ → Reno → Reno
reno_resized mtu r = record r { mtu = mtu; window = max r.window (2 * mtu) }

-- the window has room for two datagrams, or for as many bytes as it began with where these are fewer
abbrev pub HasRoom : ℕ → Reno → Type 0
HasRoom first r = min (2 * r.mtu) first ≤ r.window
