-- What the types of the parameters hold: numbers below 2^62, ids of at most 20 bytes, tokens of 16
use Rattle.std.specs.Prelude.{◌≡◌, ℕ, ◌<◌, ◌≤◌, true, List, length, Option, Some, None, Ok}
use Rattle.std.specs.Net.Addr.{ipv4_octets, ipv6_segments}
use Rattle.qc_base.specs.Varint.{IsNumber}
use Rattle.qc_base.specs.declared.side.Side.{Side}
use Rattle.qc_params.specs.ParametersReading.{is_legal, parameters_read}
use Rattle.qc_params.specs.ParametersSpelling.{parameters_spelling}
use Rattle.qc_params.specs.ParametersGrammar.{Parameters}
use Rattle.qc_params.specs.declared.params.TransportParameters.{TransportParameters}
use Rattle.qc_params.specs.declared.params.PreferredAddress.{PreferredAddress}

-- a fact of a value that may be absent
abbrev pub Each : {X : Type 0} → (X → Type 0) → Option X → Type 0
Each P None = Unit {0}
Each P (Some x) = P x

-- what a connection id holds
abbrev pub IsId : List ℕ → Type 0
IsId id = length id ≤ 20

-- what the token of a stateless reset holds
abbrev pub IsToken : List ℕ → Type 0
IsToken token = length token ≡ 16

-- what a preferred address holds: two addresses with ports of 16 bits, an id and a token
pub record AddressFits (a : PreferredAddress) : Type 0 where
  pub ipv4 : length (ipv4_octets a.ipv4) ≡ 4
  pub port_v4 : a.port_v4 < 65536
  pub ipv6 : length (ipv6_segments a.ipv6) ≡ 8
  pub port_v6 : a.port_v6 < 65536
  pub id : IsId a.id
  pub reset_token : IsToken a.reset_token

-- 0x00 to 0x03
pub record FirstFit (p : TransportParameters) : Type 0 where
  pub original_dst_cid : Each IsId p.original_dst_cid
  pub max_idle_timeout : IsNumber p.max_idle_timeout
  pub stateless_reset_token : Each IsToken p.stateless_reset_token
  pub max_udp_payload_size : IsNumber p.max_udp_payload_size

-- 0x04 to 0x09
pub record LimitsFit (p : TransportParameters) : Type 0 where
  pub initial_max_data : IsNumber p.initial_max_data
  pub initial_max_stream_data_bidi_local : IsNumber p.initial_max_stream_data_bidi_local
  pub initial_max_stream_data_bidi_remote : IsNumber p.initial_max_stream_data_bidi_remote
  pub initial_max_stream_data_uni : IsNumber p.initial_max_stream_data_uni
  pub initial_max_streams_bidi : IsNumber p.initial_max_streams_bidi
  pub initial_max_streams_uni : IsNumber p.initial_max_streams_uni

-- 0x0a to 0x0e
pub record MiddleFit (p : TransportParameters) : Type 0 where
  pub ack_delay_exponent : IsNumber p.ack_delay_exponent
  pub max_ack_delay : IsNumber p.max_ack_delay
  pub preferred_address : Each AddressFits p.preferred_address
  pub active_connection_id_limit : IsNumber p.active_connection_id_limit

-- 0x0f to 0x20
pub record LastFit (p : TransportParameters) : Type 0 where
  pub initial_src_cid : Each IsId p.initial_src_cid
  pub retry_src_cid : Each IsId p.retry_src_cid
  pub max_datagram_frame_size : Each IsNumber p.max_datagram_frame_size

-- all of them
pub record ParametersFit (p : TransportParameters) : Type 0 where
  pub first : FirstFit p
  pub limits : LimitsFit p
  pub middle : MiddleFit p
  pub last : LastFit p

-- what is written spells these parameters, and a side that may be sent them reads it as them
pub record ReadsBack (p : TransportParameters) : Type 0 where
  pub spelled : Parameters p (parameters_spelling p)
  pub reads : (side : Side) → is_legal side p ≡ true → parameters_read side (parameters_spelling p) ≡ Ok p

-- parameters whose values fit their types come back
abbrev pub ParametersWrittenAreRead : Type 0
ParametersWrittenAreRead = (p : TransportParameters) → ParametersFit p → ReadsBack p
