-- How the configurations hold their values
use Rattle.std.specs.Prelude.{◌<◌, ◌≤◌}
use Rattle.qc_recovery.specs.TransportValues.{MtuDiscoveryValues, TransportValues}
use Rattle.qc_recovery.specs.declared.mtu_config.MtuDiscoveryConfig.TheInside as mtu
use Rattle.qc_recovery.specs.declared.transport_config.TransportConfig.TheInside as transport

-- the values of a search's settings
abbrev pub mtu_discovery_values : mtu.Inside → MtuDiscoveryValues
mtu_discovery_values c = record {
  interval = c.interval;
  upper_bound = c.upper_bound;
  black_hole_cooldown = c.black_hole_cooldown;
  minimum_change = c.minimum_change;
}

-- no datagram's payload has more bytes
abbrev pub IsMtuBounded : mtu.Inside → Type 0
IsMtuBounded c = c.upper_bound ≤ 65527

-- the values of a connection's settings
abbrev pub transport_values : transport.Inside → TransportValues
transport_values c = record {
  max_concurrent_bidi_streams = c.max_concurrent_bidi_streams;
  max_concurrent_uni_streams = c.max_concurrent_uni_streams;
  stream_receive_window = c.stream_receive_window;
  receive_window = c.receive_window;
  send_window = c.send_window;
  max_idle_timeout = c.max_idle_timeout;
  initial_rtt = c.initial_rtt;
  initial_mtu = c.initial_mtu;
  min_mtu = c.min_mtu;
  packet_threshold = c.packet_threshold;
  time_threshold = c.time_threshold;
  persistent_congestion_threshold = c.persistent_congestion_threshold;
  mtu_discovery_config = c.mtu_discovery_config;
  keep_alive_interval = c.keep_alive_interval;
  crypto_buffer_size = c.crypto_buffer_size;
  datagram_send_buffer_size = c.datagram_send_buffer_size;
  datagram_receive_buffer_size = c.datagram_receive_buffer_size;
  send_fairness = c.send_fairness;
  pad_to_mtu = c.pad_to_mtu;
  allow_spin = c.allow_spin;
  enable_segmentation_offload = c.enable_segmentation_offload;
}

-- what a setter holds within bounds
pub record AreInRange (c : transport.Inside) : Type 0 where
  pub initial_mtu_least : 1200 ≤ c.initial_mtu
  pub initial_mtu_most : c.initial_mtu ≤ 16383
  pub min_mtu_least : 1200 ≤ c.min_mtu
  pub min_mtu_most : c.min_mtu ≤ 16383
  pub time_threshold_whole : 0 < c.time_threshold.1
