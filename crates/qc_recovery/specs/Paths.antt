-- How a path begins, moves, and begins anew
use Rattle.std.specs.Prelude.{ℕ, Bool, true, if◌then◌else◌, Option, Some, None, min}
use Rattle.qc_path.specs.Mtu.{Mtu, first_mtu}
use Rattle.qc_path.specs.Pacing.{full_bucket}
use Rattle.qc_path.specs.RoundTrips.{assumed_rtt, estimate}
use Rattle.qc_path.specs.declared.controller.Controller.{Ghosts as Control}
use Rattle.qc_path.specs.declared.mtu.SearchSettings.{SearchSettings}
use Rattle.qc_recovery.specs.TransportValues.{MtuDiscoveryValues, TransportValues}
use Rattle.qc_recovery.specs.declared.path.PathData.{PathData}

-- how a larger datagram is searched, if at all: up to 16,383 bytes, so that each length in a packet has two bytes at most
abbrev pub searched : Option MtuDiscoveryValues → Option SearchSettings
searched None = None
searched (Some c) = Some (record { interval = c.interval; upper_bound = min c.upper_bound 16383; black_hole_cooldown = c.black_hole_cooldown; minimum_change = c.minimum_change })

-- no larger datagram is searched where that isn't allowed
abbrev pub searched_if : Bool → TransportValues → Option SearchSettings
searched_if allowed config = if allowed then searched config.mtu_discovery_config else None

-- the size of the first datagrams
unfoldable pub first_size : TransportValues → Option ℕ → ℕ
first_size config peer = (first_mtu config.initial_mtu config.min_mtu peer None).current

-- a path that begins
unfoldable pub begun_path : {C : Type 0} → Control C → ℕ → TransportValues → C → Bool → Option ℕ → PathData C
begun_path m now config congestion allowed peer =
    let mtud : Mtu = first_mtu config.initial_mtu config.min_mtu peer (searched_if allowed config) in
    record {
      rtt = assumed_rtt config.initial_rtt;
      congestion = congestion;
      pacing = full_bucket now (record { window = m.window_of congestion; rtt = config.initial_rtt; mtu = mtud.current });
      mtud = mtud;
      challenge = None;
      sending_ecn = true;
      first_sample = None;
    }

-- A path to which a connection moves, where the IPv4 address stays and another port is all that changed, so that the way
-- through the network is taken to be the same (RFC 9000, section 9.4): round trips, the first sample, the controller, and the
-- size with its search and the probe in flight are copied. Its pacer is full, it has no challenge yet, and its packets are
-- marked (RFC 9000, section 13.4.2: counts are validated anew on each path).
unfoldable pub moved_path : {C : Type 0} → Control C → ℕ → PathData C → PathData C
moved_path m now p = record {
  rtt = p.rtt;
  congestion = p.congestion;
  pacing = full_bucket now (record { window = m.window_of p.congestion; rtt = estimate p.rtt; mtu = p.mtud.current });
  mtud = p.mtud;
  challenge = None;
  sending_ecn = true;
  first_sample = p.first_sample;
}

-- A path that is said to have changed: its round trips, controller, pacer, size and search begin anew (RFC 9002, section
-- 5.3; RFC 9000, section 9.4). Whether it is under validation, whether its packets are marked, and where its first sample was
-- taken stay.
unfoldable pub renewed_path : {C : Type 0} → Control C → ℕ → TransportValues → C → Bool → Option ℕ → PathData C → PathData C
renewed_path m now config congestion allowed peer p = record (begun_path m now config congestion allowed peer) {
  challenge = p.challenge;
  sending_ecn = p.sending_ecn;
  first_sample = p.first_sample;
}
