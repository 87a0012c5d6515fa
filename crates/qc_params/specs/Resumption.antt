-- A session is resumed with limits that are no lower (RFC 9000, section 7.4.1)
use Rattle.std.specs.Prelude.{ℕ, ◌≤◌, Option, Some, None, IsTrue}
use Rattle.qc_params.specs.declared.params.TransportParameters.{TransportParameters}

-- with no limit on DATAGRAM frames there are none, which is less than any limit
abbrev pub IsNoLower : Option ℕ → (current : Option ℕ) → Type 0
IsNoLower None current = Unit {0}
IsNoLower (Some limit) None = ⊥
IsNoLower (Some limit) (Some current) = limit ≤ current

-- no limit fell since the session was made; packets whose QUIC bit is 0 may still be sent (RFC 9221, section 3; RFC 9287,
-- section 3.1)
pub record KeepsLimits (cached current : TransportParameters) : Type 0 where
  pub max_data : cached.initial_max_data ≤ current.initial_max_data
  pub bidi_local : cached.initial_max_stream_data_bidi_local ≤ current.initial_max_stream_data_bidi_local
  pub bidi_remote : cached.initial_max_stream_data_bidi_remote ≤ current.initial_max_stream_data_bidi_remote
  pub uni : cached.initial_max_stream_data_uni ≤ current.initial_max_stream_data_uni
  pub streams_bidi : cached.initial_max_streams_bidi ≤ current.initial_max_streams_bidi
  pub streams_uni : cached.initial_max_streams_uni ≤ current.initial_max_streams_uni
  pub connection_ids : cached.active_connection_id_limit ≤ current.active_connection_id_limit
  pub datagrams : IsNoLower cached.max_datagram_frame_size current.max_datagram_frame_size
  pub quic_bit : IsTrue cached.grease_quic_bit → IsTrue current.grease_quic_bit
