-- How recovery begins, and what a dropped space leaves
use Rattle.qc_base.specs.declared.side.SpaceId.{SpaceId}
use Rattle.qc_recovery.specs.Steps.{no_space, space_dropped, space_of, with_space}
use Rattle.qc_recovery.specs.TransportValues.{TransportValues}
use Rattle.qc_recovery.specs.declared.limits.Limits.{Limits}
use Rattle.qc_recovery.specs.declared.recovery.Recovery.{Recovery}

-- the thresholds of a configuration
abbrev pub limits_of : TransportValues → Limits
limits_of config = record {
  packet_threshold = config.packet_threshold;
  time_numerator = config.time_threshold.0;
  time_denominator = config.time_threshold.1;
  persistent = config.persistent_congestion_threshold;
}

-- nothing is in flight
unfoldable pub begun_recovery : TransportValues → Recovery
begun_recovery config = record { initial = no_space; handshake = no_space; application = no_space; limits = limits_of config; count = 0 }

-- nothing of the space is in flight
unfoldable pub dropped_after : SpaceId → Recovery → Recovery
dropped_after id r = with_space id (space_dropped (space_of id r)) r
