-- The toy's keys.
use Rattle.std.specs.Prelude.{ℕ, List}
use Rattle.qc_base.specs.declared.side.Side.{Side}
use Rattle.qc_base.specs.declared.side.Side.TheVariants.{Client, Server}
use Rattle.qc_crypto.specs.declared.keys.KeyPair.{KeyPair}
use Rattle.qc_crypto.specs.declared.keys.Keys.{Keys}
use Rattle.qc_toy.specs.KeyBytes.{key_bytes}
use Rattle.qc_toy.specs.Settings.{limit_of}
use Rattle.qc_toy.specs.declared.settings.ToySettings.{ToySettings}
use Rattle.qc_toy.specs.declared.key_bytes.Level.{Level}
use Rattle.qc_toy.specs.declared.key_bytes.Usage.TheVariants.{Packet, Header}
use Rattle.qc_toy.specs.declared.packet_key.ToyPacketKey.{ToyPacketKey}
use Rattle.qc_toy.specs.declared.header_key.ToyHeaderKey.{ToyHeaderKey}

-- the side of an end's peer
abbrev pub other_side : Side → Side
other_side Client = Server
other_side Server = Client

-- the key of the packets that the end `from` sends in an epoch, with the limits that the settings give
abbrev pub packet_key : ToySettings → List ℕ → Level → Side → ℕ → ToyPacketKey
packet_key settings secret level from epoch =
    record { bytes = key_bytes secret level from Packet epoch; seals = limit_of settings level; failures = settings.limit_failures }

-- the key that masks the headers of what the end `from` sends; it is the same in every epoch
abbrev pub header_key : List ℕ → Level → Side → ToyHeaderKey
header_key secret level from = record { bytes = key_bytes secret level from Header 0 }

-- The packet keys of the end `side` in an epoch.
abbrev pub packet_keys : ToySettings → List ℕ → Level → Side → ℕ → KeyPair ToyPacketKey
packet_keys settings secret level side epoch =
    record {
      local = packet_key settings secret level side epoch;
      remote = packet_key settings secret level (other_side side) epoch;
    }

-- The keys of the end `side`: what it sends itself, and what the other end sends.
abbrev pub level_keys : ToySettings → List ℕ → Level → Side → Keys ToyHeaderKey ToyPacketKey
level_keys settings secret level side =
    record {
      header = record { local = header_key secret level side; remote = header_key secret level (other_side side) };
      packet = packet_keys settings secret level side 0;
    }
