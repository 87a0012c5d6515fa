-- How parameters are written (RFC 9000, section 18): those that differ from their defaults, by ascending ids, each number
-- in its shortest form
use Rattle.std.specs.Prelude.{ℕ, ◌==◌, Bool, true, false, List, [], ◌∷◌, ◌++◌, length, Option, Some, None, if◌then◌else◌}
use Rattle.std.specs.Option.{option_map}
use Rattle.std.specs.Int.{w16, to_be_bytes}
use Rattle.std.specs.Net.Addr.{ipv4_octets, ipv6_octets}
use Rattle.qc_base.specs.Varint.{varint}
use Rattle.qc_params.specs.declared.params.TransportParameters.{TransportParameters}
use Rattle.qc_params.specs.declared.params.PreferredAddress.{PreferredAddress}

-- what each absent parameter is (RFC 9000, section 18.2)
abbrev pub default_parameters : TransportParameters
default_parameters =
    record {
      original_dst_cid = None;
      max_idle_timeout = 0;
      stateless_reset_token = None;
      max_udp_payload_size = 65527;
      initial_max_data = 0;
      initial_max_stream_data_bidi_local = 0;
      initial_max_stream_data_bidi_remote = 0;
      initial_max_stream_data_uni = 0;
      initial_max_streams_bidi = 0;
      initial_max_streams_uni = 0;
      ack_delay_exponent = 3;
      max_ack_delay = 25;
      disable_active_migration = false;
      preferred_address = None;
      active_connection_id_limit = 2;
      initial_src_cid = None;
      retry_src_cid = None;
      max_datagram_frame_size = None;
      grease_quic_bit = false;
    }

-- a parameter: its id, the length of its value and the value (RFC 9000, section 18)
unfoldable pub parameter : ℕ → List ℕ → List ℕ
parameter id value = varint id ++ varint (length value) ++ value

-- ---- the bytes of a value, or none where the parameter is left out

-- a number is a varint, and left out where it equals its default
unfoldable pub number_text : (default : ℕ) → ℕ → Option (List ℕ)
number_text default n = if n == default then None else Some (varint n)

-- a flag that is set is an empty value
abbrev pub flag_text : Bool → Option (List ℕ)
flag_text false = None
flag_text true = Some []

-- a preferred address: IPv4 and port, IPv6 and port, an id behind its length, and its token
unfoldable pub address_bytes : PreferredAddress → List ℕ
address_bytes a =
    ipv4_octets a.ipv4 ++ to_be_bytes w16 a.port_v4 ++ ipv6_octets a.ipv6 ++ to_be_bytes w16 a.port_v6 ++ (length a.id ∷ []) ++ a.id ++ a.reset_token

-- ---- all parameters

-- an id with the bytes of its value; a connection id and a token are their own bytes
abbrev pub ParameterRow : Type 0
ParameterRow = ℕ × Option (List ℕ)

-- 0x00 to 0x03
abbrev pub first_rows : TransportParameters → List ParameterRow
first_rows p =
    (0x00, p.original_dst_cid)
    ∷ (0x01, number_text 0 p.max_idle_timeout)
    ∷ (0x02, p.stateless_reset_token)
    ∷ (0x03, number_text 65527 p.max_udp_payload_size)
    ∷ []

-- 0x04 to 0x09, the limits on data and streams
abbrev pub limit_rows : TransportParameters → List ParameterRow
limit_rows p =
    (0x04, number_text 0 p.initial_max_data)
    ∷ (0x05, number_text 0 p.initial_max_stream_data_bidi_local)
    ∷ (0x06, number_text 0 p.initial_max_stream_data_bidi_remote)
    ∷ (0x07, number_text 0 p.initial_max_stream_data_uni)
    ∷ (0x08, number_text 0 p.initial_max_streams_bidi)
    ∷ (0x09, number_text 0 p.initial_max_streams_uni)
    ∷ []

-- 0x0a to 0x0e
abbrev pub middle_rows : TransportParameters → List ParameterRow
middle_rows p =
    (0x0a, number_text 3 p.ack_delay_exponent)
    ∷ (0x0b, number_text 25 p.max_ack_delay)
    ∷ (0x0c, flag_text p.disable_active_migration)
    ∷ (0x0d, option_map address_bytes p.preferred_address)
    ∷ (0x0e, number_text 2 p.active_connection_id_limit)
    ∷ []

-- 0x0f and 0x10; 0x20 of RFC 9221, section 3; and 0x2ab2 of RFC 9287, section 3
abbrev pub last_rows : TransportParameters → List ParameterRow
last_rows p =
    (0x0f, p.initial_src_cid)
    ∷ (0x10, p.retry_src_cid)
    ∷ (0x20, option_map varint p.max_datagram_frame_size)
    ∷ (0x2ab2, flag_text p.grease_quic_bit)
    ∷ []

-- a parameter, or nothing where it is left out
unfoldable pub row_text : ℕ → Option (List ℕ) → List ℕ
row_text id None = []
row_text id (Some value) = parameter id value

-- parameters, one after another
abbrev pub rows_text : List ParameterRow → List ℕ
rows_text [] = []
rows_text (row ∷ rows) = row_text row.0 row.1 ++ rows_text rows

-- the parameters that differ from their defaults, by ascending ids (RFC 9000, section 18.2)
unfoldable pub parameters_spelling : TransportParameters → List ℕ
parameters_spelling p = rows_text (first_rows p ++ limit_rows p ++ middle_rows p ++ last_rows p)
