-- The toy's settings where nothing else is said, and the limits that they set.
use Rattle.std.specs.Prelude.{ℕ, ◌^◌, false, replicate}
use Rattle.qc_toy.specs.declared.settings.ToySettings.{ToySettings}
use Rattle.qc_toy.specs.declared.key_bytes.Level.{Level}
use Rattle.qc_toy.specs.declared.key_bytes.Level.TheVariants.{Initial, Handshake, Data, Early}

-- a secret of zeros, 2^23 packets a key, 2^52 failures to open, and no early keys
abbrev pub default_settings : ToySettings
default_settings =
    record {
      secret = replicate 5 0;
      limit_initial = 2 ^ 23;
      limit_handshake = 2 ^ 23;
      limit_data = 2 ^ 23;
      limit_failures = 2 ^ 52;
      early = false;
    }

-- How many packets a key may seal. An early key has the limit of the 1-RTT keys.
abbrev pub limit_of : ToySettings → Level → ℕ
limit_of settings Initial = settings.limit_initial
limit_of settings Handshake = settings.limit_handshake
limit_of settings Data = settings.limit_data
limit_of settings Early = settings.limit_data
