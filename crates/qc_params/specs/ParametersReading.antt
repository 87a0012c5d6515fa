-- What bytes say as transport parameters (RFC 9000, section 18). `None`: they are badly formed. Entries and parameters
-- are read of all bytes, so that none is left behind them.
use Rattle.std.specs.Prelude.{◌≡◌, ℕ, zero, suc, ◌==◌, Bool, true, false, ◌&&◌, ◌||◌, not, is_some, nat_le, nat_lt, List, [], ◌∷◌, length, Option, Some, None, Result, Ok, Err, if◌then◌else◌}
use Rattle.std.specs.Option.{option_and_then, option_map}
use Rattle.std.specs.Int.{w16}
use Rattle.std.specs.Net.Addr.{segments_of}
use Rattle.std.specs.declared.net.ipv4_addr.Ipv4Addr.{Ipv4Addr}
use Rattle.std.specs.declared.net.ipv6_addr.Ipv6Addr.{Ipv6Addr}
use Rattle.qc_base.specs.Reading.{byte_of, bytes_of, word_of, varint_of, blob_of}
use Rattle.qc_base.specs.declared.side.Side.{Side}
use Rattle.qc_base.specs.declared.side.Side.TheVariants.{Client, Server}
use Rattle.qc_params.specs.declared.error.ParamError.{ParamError}
use Rattle.qc_params.specs.declared.error.ParamError.TheVariants.{Malformed, IllegalValue}
use Rattle.qc_params.specs.declared.params.TransportParameters.{TransportParameters}
use Rattle.qc_params.specs.declared.params.PreferredAddress.{PreferredAddress}
use Rattle.qc_params.specs.ParametersSpelling.{default_parameters}
use Rattle.qc_params.specs.ParametersGrammar.{Entry, Entries, values_of, Parameters}

infixl 10 ◌>>=◌
-- a reading, and then the one that its value asks for
abbrev pub ◌>>=◌ : {X Y : Type 0} → Option X → (X → Option Y) → Option Y
o >>= k = option_and_then k o

-- ---- entries

-- the first entry, and the bytes behind it
unfoldable pub entry_of : List ℕ → Option (Entry × List ℕ)
entry_of bytes = do
  id ← varint_of bytes
  value ← blob_of id.1
  Some ((id.0, value.0), value.1)

-- the bytes as entries, one after another, where they are n or fewer. (An entry has two bytes at least, so that the
-- length of the bytes is always enough; the number is there for the recursion to end.)
unfoldable pub entries_within : ℕ → List ℕ → Option (List Entry)
entries_within n [] = Some []
entries_within zero (b ∷ bytes) = None
entries_within (suc n) (b ∷ bytes) = do
  entry ← entry_of (b ∷ bytes)
  others ← entries_within n entry.1
  Some (entry.0 ∷ others)

-- the bytes as entries, however many
unfoldable pub entries_of : List ℕ → Option (List Entry)
entries_of bytes = entries_within (length bytes) bytes

-- the value of a parameter, which stands there at most once: Some None where it is absent, None where it stands there
-- again
abbrev pub only_one : List (List ℕ) → Option (Option (List ℕ))
only_one [] = Some None
only_one (value ∷ []) = Some (Some value)
only_one (value ∷ other ∷ values) = None

-- the value under an id: Some None where no entry has the id; None where the bytes are no entries, or more than one of
-- them has the id
unfoldable pub value_in : ℕ → List ℕ → Option (Option (List ℕ))
value_in id bytes = option_and_then (λ es. only_one (values_of id es)) (entries_of bytes)

-- ---- values

-- what was read, where no bytes are left behind it
abbrev pub whole : {X : Type 0} → Option (X × List ℕ) → Option X
whole o = option_and_then (λ x. if length x.1 == 0 then Some x.0 else None) o

-- a number, of any length
unfoldable pub number_value : List ℕ → Option ℕ
number_value value = whole (varint_of value)

-- a flag that is set has an empty value
abbrev pub flag_value : List ℕ → Option Bool
flag_value value = if length value == 0 then Some true else None

-- a connection id of at most 20 bytes
abbrev pub id_value : List ℕ → Option (List ℕ)
id_value value = if nat_le (length value) 20 then Some value else None

-- the token of a stateless reset, of 16 bytes
abbrev pub token_value : List ℕ → Option (List ℕ)
token_value value = if length value == 16 then Some value else None

-- an IPv4 address and a port
unfoldable pub ipv4_of : List ℕ → Option ((Ipv4Addr × ℕ) × List ℕ)
ipv4_of value = do
  octets ← bytes_of 4 value
  port ← word_of w16 octets.1
  Some ((record { octets = octets.0 }, port.0), port.1)

-- an IPv6 address and a port
unfoldable pub ipv6_of : List ℕ → Option ((Ipv6Addr × ℕ) × List ℕ)
ipv6_of value = do
  octets ← bytes_of 16 value
  port ← word_of w16 octets.1
  Some ((record { segments = segments_of octets.0 }, port.0), port.1)

-- an id behind its length, which is one byte, and its token
unfoldable pub issued_of : List ℕ → Option ((List ℕ × List ℕ) × List ℕ)
issued_of value = do
  len ← byte_of value
  id ← bytes_of len.0 len.1
  token ← bytes_of 16 id.1
  if nat_le len.0 20 then Some ((id.0, token.0), token.1) else None

-- the two addresses, and what was issued for them
unfoldable pub address_of : List ℕ → Option (PreferredAddress × List ℕ)
address_of value = do
  v4 ← ipv4_of value
  v6 ← ipv6_of v4.1
  issued ← issued_of v6.1
  Some (record { ipv4 = v4.0.0; port_v4 = v4.0.1; ipv6 = v6.0.0; port_v6 = v6.0.1; id = issued.0.0; reset_token = issued.0.1 }, issued.1)

-- a preferred address
unfoldable pub address_value : List ℕ → Option PreferredAddress
address_value value = whole (address_of value)

-- ---- parameters: what they are where they are absent, and else by their values

-- a parameter that has no default
abbrev pub maybe : {X : Type 0} → (List ℕ → Option X) → Option (List ℕ) → Option (Option X)
maybe read None = Some None
maybe read (Some value) = option_map (λ x. Some x) (read value)

-- a parameter that has this default
abbrev pub value_or : {X : Type 0} → (List ℕ → Option X) → X → Option (List ℕ) → Option X
value_or read default None = Some default
value_or read default (Some value) = read value

-- the number under an id, with its default
unfoldable pub number_in : (id default : ℕ) → List ℕ → Option ℕ
number_in id default bytes = option_and_then (value_or number_value default) (value_in id bytes)

-- the number under an id, without a default
unfoldable pub maybe_in : ℕ → List ℕ → Option (Option ℕ)
maybe_in id bytes = option_and_then (maybe number_value) (value_in id bytes)

-- whether the flag under an id is set
unfoldable pub flag_in : ℕ → List ℕ → Option Bool
flag_in id bytes = option_and_then (value_or flag_value false) (value_in id bytes)

-- the connection id under an id
unfoldable pub id_in : ℕ → List ℕ → Option (Option (List ℕ))
id_in id bytes = option_and_then (maybe id_value) (value_in id bytes)

-- the token under an id
unfoldable pub token_in : ℕ → List ℕ → Option (Option (List ℕ))
token_in id bytes = option_and_then (maybe token_value) (value_in id bytes)

-- the preferred address under an id
unfoldable pub address_in : ℕ → List ℕ → Option (Option PreferredAddress)
address_in id bytes = option_and_then (maybe address_value) (value_in id bytes)

-- the parameters from 0x00 to 0x03; all others as if absent
unfoldable pub first_parameters_of : List ℕ → Option TransportParameters
first_parameters_of bytes = do
  original_dst_cid ← id_in 0x00 bytes
  max_idle_timeout ← number_in 0x01 0 bytes
  stateless_reset_token ← token_in 0x02 bytes
  max_udp_payload_size ← number_in 0x03 65527 bytes
  Some record default_parameters { original_dst_cid = original_dst_cid; max_idle_timeout = max_idle_timeout; stateless_reset_token = stateless_reset_token; max_udp_payload_size = max_udp_payload_size }

-- those up to 0x09, the limits on data and streams
unfoldable pub limits_of : List ℕ → Option TransportParameters
limits_of bytes = do
  p ← first_parameters_of bytes
  initial_max_data ← number_in 0x04 0 bytes
  initial_max_stream_data_bidi_local ← number_in 0x05 0 bytes
  initial_max_stream_data_bidi_remote ← number_in 0x06 0 bytes
  initial_max_stream_data_uni ← number_in 0x07 0 bytes
  initial_max_streams_bidi ← number_in 0x08 0 bytes
  initial_max_streams_uni ← number_in 0x09 0 bytes
  Some record p { initial_max_data = initial_max_data; initial_max_stream_data_bidi_local = initial_max_stream_data_bidi_local; initial_max_stream_data_bidi_remote = initial_max_stream_data_bidi_remote; initial_max_stream_data_uni = initial_max_stream_data_uni; initial_max_streams_bidi = initial_max_streams_bidi; initial_max_streams_uni = initial_max_streams_uni }

-- those up to 0x0e
unfoldable pub middle_of : List ℕ → Option TransportParameters
middle_of bytes = do
  p ← limits_of bytes
  ack_delay_exponent ← number_in 0x0a 3 bytes
  max_ack_delay ← number_in 0x0b 25 bytes
  disable_active_migration ← flag_in 0x0c bytes
  preferred_address ← address_in 0x0d bytes
  active_connection_id_limit ← number_in 0x0e 2 bytes
  Some record p { ack_delay_exponent = ack_delay_exponent; max_ack_delay = max_ack_delay; disable_active_migration = disable_active_migration; preferred_address = preferred_address; active_connection_id_limit = active_connection_id_limit }

-- the parameters that well-formed bytes say, 0x20 by RFC 9221, section 3, and 0x2ab2 by RFC 9287, section
-- 3; unknown ids play no part
unfoldable pub parameters_of : List ℕ → Option TransportParameters
parameters_of bytes = do
  p ← middle_of bytes
  initial_src_cid ← id_in 0x0f bytes
  retry_src_cid ← id_in 0x10 bytes
  max_datagram_frame_size ← maybe_in 0x20 bytes
  grease_quic_bit ← flag_in 0x2ab2 bytes
  Some record p { initial_src_cid = initial_src_cid; retry_src_cid = retry_src_cid; max_datagram_frame_size = max_datagram_frame_size; grease_quic_bit = grease_quic_bit }

-- ---- values that are not allowed (RFC 9000, section 18.2), by the side that reads them

-- none of these may come from a client
abbrev pub client_may_send : TransportParameters → Bool
client_may_send p = not (is_some p.original_dst_cid || is_some p.stateless_reset_token || is_some p.preferred_address || is_some p.retry_src_cid)

-- whether a client, or a server, may be sent these: a server reads what a client sends
abbrev pub may_come_to : Side → TransportParameters → Bool
may_come_to Client p = true
may_come_to Server p = client_may_send p

-- an id at a preferred address has one byte at least
abbrev pub is_address_allowed : Option PreferredAddress → Bool
is_address_allowed None = true
is_address_allowed (Some address) = not (length address.id == 0)

-- whether these parameters are allowed
unfoldable pub is_legal : Side → TransportParameters → Bool
is_legal side p =
    may_come_to side p
    && nat_le 1200 p.max_udp_payload_size
    && nat_le p.initial_max_streams_bidi 1152921504606846976
    && nat_le p.initial_max_streams_uni 1152921504606846976
    && nat_le p.ack_delay_exponent 20
    && nat_lt p.max_ack_delay 16384
    && is_address_allowed p.preferred_address
    && nat_le 2 p.active_connection_id_limit

-- well-formed parameters, where they are allowed; why there are none, else
abbrev pub judged : Side → Option TransportParameters → Result TransportParameters ParamError
judged side None = Err Malformed
judged side (Some p) = if is_legal side p then Ok p else Err IllegalValue

-- the parameters, or why there are none: first whether they are well formed, then whether they are
-- allowed
unfoldable pub parameters_read : Side → List ℕ → Result TransportParameters ParamError
parameters_read side bytes = judged side (parameters_of bytes)

-- ---- what reading gives, by the grammar

-- Ok: the bytes are these parameters, which are allowed. IllegalValue: they are parameters that aren't allowed.
-- Malformed: they are no parameters.
abbrev pub IsReading : Side → List ℕ → Result TransportParameters ParamError → Type 0
IsReading side bytes (Ok p) = Parameters p bytes × (is_legal side p ≡ true)
IsReading side bytes (Err IllegalValue) = (p : TransportParameters) × Parameters p bytes × (is_legal side p ≡ false)
IsReading side bytes (Err Malformed) = (p : TransportParameters) → Parameters p bytes → ⊥

-- bytes that are some entries are read as these
abbrev pub EntriesAreRead : Type 0
EntriesAreRead = (bytes : List ℕ) (es : List Entry) → Entries es bytes → entries_of bytes ≡ Some es
