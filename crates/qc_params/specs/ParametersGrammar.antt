-- Which bytes are which transport parameters (RFC 9000, section 18): a grammar, with no order of tests and no reader
use Rattle.std.specs.Prelude.{◌≡◌, ℕ, ◌≤◌, ◌==◌, Bool, true, false, List, [], ◌∷◌, length, Option, Some, None, if◌then◌else◌}
use Rattle.std.specs.Int.{w16}
use Rattle.std.specs.Net.Addr.{segments_of}
use Rattle.std.specs.declared.net.ipv4_addr.Ipv4Addr.{Ipv4Addr}
use Rattle.std.specs.declared.net.ipv6_addr.Ipv6Addr.{Ipv6Addr}
use Rattle.qc_base.specs.Grammar.{Spelling, ◌>>=◌, Is, Where, Bytes, Rest, Byte, Word, Varint, Blob}
use Rattle.qc_params.specs.declared.params.TransportParameters.{TransportParameters}
use Rattle.qc_params.specs.declared.params.PreferredAddress.{PreferredAddress}

-- ---- entries

-- an entry: an id and the bytes of a value
abbrev pub Entry : Type 0
Entry = ℕ × List ℕ

-- an entry's bytes: the id, and the value behind its length; both numbers are varints in any form
abbrev pub AnEntry : Spelling Entry
AnEntry = do
  id ← Varint
  value ← Blob
  Is (id, value)

-- the bytes are these entries, one after another
abbrev pub Entries : List Entry → List ℕ → Type 0
Entries [] bytes = bytes ≡ []
Entries (e ∷ es) bytes = (rest : List ℕ) × AnEntry e bytes rest × Entries es rest

-- the values that entries have under an id, in their order
abbrev pub values_of : ℕ → List Entry → List (List ℕ)
values_of id [] = []
values_of id (e ∷ es) = if e.0 == id then e.1 ∷ values_of id es else values_of id es

-- ---- values

-- a number: a varint, in any form
abbrev pub Number : Spelling ℕ
Number = Varint

-- a flag that is set: an empty value
abbrev pub Flag : Spelling Bool
Flag = Is true

-- a connection id: all bytes that are left, at most 20
abbrev pub Id : Spelling (List ℕ)
Id = do
  id ← Rest
  Where (length id ≤ 20) (Is id)

-- the token of a stateless reset: 16 bytes
abbrev pub Token : Spelling (List ℕ)
Token = Bytes 16

-- an IPv4 address and a port
abbrev pub Ipv4 : Spelling (Ipv4Addr × ℕ)
Ipv4 = do
  octets ← Bytes 4
  port ← Word w16
  Is {X = Ipv4Addr × ℕ} (record { octets = octets }, port)

-- an IPv6 address, whose segments are two bytes each, and a port
abbrev pub Ipv6 : Spelling (Ipv6Addr × ℕ)
Ipv6 = do
  octets ← Bytes 16
  port ← Word w16
  Is {X = Ipv6Addr × ℕ} (record { segments = segments_of octets }, port)

-- a connection id of at most 20 bytes behind its length, which is one byte, and its token
abbrev pub Issued : Spelling (List ℕ × List ℕ)
Issued = do
  len ← Byte
  id ← Bytes len
  token ← Token
  Where (len ≤ 20) (Is (id, token))

-- a preferred address (RFC 9000, section 18.2, figure 22)
abbrev pub Address : Spelling PreferredAddress
Address = do
  v4 ← Ipv4
  v6 ← Ipv6
  issued ← Issued
  Is {X = PreferredAddress} record { ipv4 = v4.0; port_v4 = v4.1; ipv6 = v6.0; port_v6 = v6.1; id = issued.0; reset_token = issued.1 }

-- the value of a parameter that has no default: where the parameter is absent there is None in its place
abbrev pub Given : {X : Type 0} → Spelling X → Spelling (Option X)
Given S = do
  x ← S
  Is (Some x)

-- ---- parameters

-- at most one value, which S spells from its first byte to its last; without a value it is the default
abbrev pub OneOr : {X : Type 0} → Spelling X → X → List (List ℕ) → X → Type 0
OneOr S default [] x = x ≡ default
OneOr S default (value ∷ []) x = S x value []
OneOr S default (value ∷ other ∷ values) x = ⊥

-- what the entries say under an id
abbrev pub Under : {X : Type 0} → ℕ → Spelling X → X → List Entry → X → Type 0
Under id S default es x = OneOr S default (values_of id es) x

-- what the entries say under each id that is known (RFC 9000, section 18.2; 0x20 is RFC 9221, section 3; 0x2ab2 is RFC
-- 9287, section 3). Entries under other ids play no part.
pub record AreParameters (es : List Entry) (p : TransportParameters) : Type 0 where
  pub original_dst_cid : Under 0x00 (Given Id) None es p.original_dst_cid
  pub max_idle_timeout : Under 0x01 Number 0 es p.max_idle_timeout
  pub stateless_reset_token : Under 0x02 (Given Token) None es p.stateless_reset_token
  pub max_udp_payload_size : Under 0x03 Number 65527 es p.max_udp_payload_size
  pub initial_max_data : Under 0x04 Number 0 es p.initial_max_data
  pub initial_max_stream_data_bidi_local : Under 0x05 Number 0 es p.initial_max_stream_data_bidi_local
  pub initial_max_stream_data_bidi_remote : Under 0x06 Number 0 es p.initial_max_stream_data_bidi_remote
  pub initial_max_stream_data_uni : Under 0x07 Number 0 es p.initial_max_stream_data_uni
  pub initial_max_streams_bidi : Under 0x08 Number 0 es p.initial_max_streams_bidi
  pub initial_max_streams_uni : Under 0x09 Number 0 es p.initial_max_streams_uni
  pub ack_delay_exponent : Under 0x0a Number 3 es p.ack_delay_exponent
  pub max_ack_delay : Under 0x0b Number 25 es p.max_ack_delay
  pub disable_active_migration : Under 0x0c Flag false es p.disable_active_migration
  pub preferred_address : Under 0x0d (Given Address) None es p.preferred_address
  pub active_connection_id_limit : Under 0x0e Number 2 es p.active_connection_id_limit
  pub initial_src_cid : Under 0x0f (Given Id) None es p.initial_src_cid
  pub retry_src_cid : Under 0x10 (Given Id) None es p.retry_src_cid
  pub max_datagram_frame_size : Under 0x20 (Given Number) None es p.max_datagram_frame_size
  pub grease_quic_bit : Under 0x2ab2 Flag false es p.grease_quic_bit

-- Transport parameters are within their bounds, each once (RFC 9000, section 18.2). The bytes are entries that say these
-- parameters
pub record Parameters (p : TransportParameters) (bytes : List ℕ) : Type 0 where
  pub entries : List Entry
  pub spelled : Entries entries bytes
  pub say : AreParameters entries p
