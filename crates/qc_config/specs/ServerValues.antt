-- What contracts see of the settings of servers and clients: their values. Times are in nanoseconds.
use Rattle.std.specs.Prelude.{ℕ, Bool, true, Option, None}
use Rattle.std.specs.declared.net.socket_addr.SocketAddrV4.{SocketAddrV4}
use Rattle.std.specs.declared.net.socket_addr.SocketAddrV6.{SocketAddrV6}
use Rattle.qc_recovery.specs.TransportValues.{TransportValues, default_transport}

-- the settings of Validation tokens, with logs of type L
pub record TokenValues (L : Type 0) : Type 0 where
  pub lifetime : ℕ
  pub log : L
  pub sent : ℕ

-- two weeks, and no token
abbrev pub default_tokens : {L : Type 0} → L → TokenValues L
default_tokens log = record { lifetime = 1209600000000000; log = log; sent = 0 }

-- a server's settings
pub record ServerValues (C K T L : Type 0) : Type 0 where
  pub transport : TransportValues
  pub crypto : C
  pub validation_token : TokenValues L
  pub token_key : K
  pub retry_token_lifetime : ℕ
  pub migration : Bool
  pub preferred_address_v4 : Option SocketAddrV4
  pub preferred_address_v6 : Option SocketAddrV6
  pub max_incoming : ℕ
  pub incoming_buffer_size : ℕ
  pub incoming_buffer_size_total : ℕ
  pub time_source : T

-- the settings that a server begins with
abbrev pub default_server : {C K T L : Type 0} → C → K → T → TokenValues L → ServerValues C K T L
default_server crypto token_key time_source validation_token = record {
  transport = default_transport;
  crypto = crypto;
  validation_token = validation_token;
  token_key = token_key;
  retry_token_lifetime = 15000000000;
  migration = true;
  preferred_address_v4 = None;
  preferred_address_v6 = None;
  max_incoming = 65536;
  incoming_buffer_size = 10485760;
  incoming_buffer_size_total = 104857600;
  time_source = time_source;
}

-- a client's settings
pub record ClientValues (C S : Type 0) : Type 0 where
  pub transport : TransportValues
  pub crypto : C
  pub token_store : S
  pub version : ℕ

-- the settings that a client begins with
abbrev pub default_client : {C S : Type 0} → C → S → ClientValues C S
default_client crypto token_store = record { transport = default_transport; crypto = crypto; token_store = token_store; version = 1 }
