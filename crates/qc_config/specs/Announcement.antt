-- What an end announces of itself in its transport parameters (RFC 9000, section 18.2)
use Rattle.std.specs.Prelude.{ℕ, ◌==◌, Bool, List, Some, length, min, unwrap_or, if◌then◌else◌}
use Rattle.std.specs.Option.{option_map}
use Rattle.qc_params.specs.ParametersSpelling.{default_parameters}
use Rattle.qc_params.specs.declared.params.TransportParameters.{TransportParameters}
use Rattle.qc_recovery.specs.TransportValues.{TransportValues}

-- how many ids of the other end are kept: two at least, and so many where the own id is empty
abbrev pub id_limit_of : List ℕ → ℕ
id_limit_of local_cid = if length local_cid == 0 then 2 else 5

-- an idle timeout of 0 is none; a kind has 2^60 streams at most; and no DATAGRAM frame has more than
-- 65535 bytes
unfoldable pub announced_parameters : TransportValues → ℕ → List ℕ → Bool → TransportParameters
announced_parameters transport max_udp_payload_size local_cid grease_quic_bit =
    record default_parameters {
      max_idle_timeout = unwrap_or transport.max_idle_timeout 0;
      max_udp_payload_size = max_udp_payload_size;
      initial_max_data = transport.receive_window;
      initial_max_stream_data_bidi_local = transport.stream_receive_window;
      initial_max_stream_data_bidi_remote = transport.stream_receive_window;
      initial_max_stream_data_uni = transport.stream_receive_window;
      initial_max_streams_bidi = min transport.max_concurrent_bidi_streams 1152921504606846976;
      initial_max_streams_uni = min transport.max_concurrent_uni_streams 1152921504606846976;
      active_connection_id_limit = id_limit_of local_cid;
      initial_src_cid = Some local_cid;
      max_datagram_frame_size = option_map (λ size. min size 65535) transport.datagram_receive_buffer_size;
      grease_quic_bit = grease_quic_bit;
    }
