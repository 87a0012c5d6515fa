-- What contracts see of the configurations: their values. Times are in nanoseconds.
use Rattle.std.specs.Prelude.{ℕ, Bool, true, Option, Some, None, false}

-- the search for a larger datagram size
pub record MtuDiscoveryValues : Type 0 where
  pub interval : ℕ
  pub upper_bound : ℕ
  pub black_hole_cooldown : ℕ
  pub minimum_change : ℕ

-- what holds where none is set
abbrev pub default_mtu_discovery : MtuDiscoveryValues
default_mtu_discovery = record {
  interval = 600000000000;
  upper_bound = 1452;
  black_hole_cooldown = 60000000000;
  minimum_change = 20;
}

-- a connection's settings; the idle timeout in milliseconds, the time threshold as a fraction
pub record TransportValues : Type 0 where
  pub max_concurrent_bidi_streams : ℕ
  pub max_concurrent_uni_streams : ℕ
  pub stream_receive_window : ℕ
  pub receive_window : ℕ
  pub send_window : ℕ
  pub max_idle_timeout : Option ℕ
  pub initial_rtt : ℕ
  pub initial_mtu : ℕ
  pub min_mtu : ℕ
  pub packet_threshold : ℕ
  pub persistent_congestion_threshold : ℕ
  pub time_threshold : ℕ × ℕ
  pub mtu_discovery_config : Option MtuDiscoveryValues
  pub keep_alive_interval : Option ℕ
  pub crypto_buffer_size : ℕ
  pub datagram_send_buffer_size : ℕ
  pub datagram_receive_buffer_size : Option ℕ
  pub send_fairness : Bool
  pub pad_to_mtu : Bool
  pub allow_spin : Bool
  pub enable_segmentation_offload : Bool

-- what holds where none is set: RFC 9002's constants, and sizes that a path takes for certain
abbrev pub default_transport : TransportValues
default_transport = record {
  max_concurrent_bidi_streams = 100;
  max_concurrent_uni_streams = 100;
  stream_receive_window = 1250000;
  receive_window = 4611686018427387903;
  send_window = 10000000;
  max_idle_timeout = Some 30000;
  initial_rtt = 333000000;
  initial_mtu = 1200;
  min_mtu = 1200;
  packet_threshold = 3;
  persistent_congestion_threshold = 3;
  time_threshold = (9, 8);
  mtu_discovery_config = Some default_mtu_discovery;
  keep_alive_interval = None;
  crypto_buffer_size = 16384;
  datagram_send_buffer_size = 1048576;
  datagram_receive_buffer_size = Some 1250000;
  send_fairness = true;
  pad_to_mtu = false;
  allow_spin = true;
  enable_segmentation_offload = true;
}
