-- The bytes that a token is written as
use Rattle.std.specs.Prelude.{◌≡◌, ℕ, ◌+◌, ◌/◌, ◌%◌, ◌<◌, ◌≤◌, ◌^◌, List, ◌∷◌, ◌++◌, length}
use Rattle.std.specs.Int.{to_be_bytes, w16, w64}
use Rattle.std.specs.Net.Addr.{ipv4_octets, ipv6_segments, ipv6_octets}
use Rattle.std.specs.Net.Socket.{socket_ip, socket_port, socket_flowinfo, socket_scope_id}
use Rattle.std.specs.declared.net.ip_addr.IpAddr.{IpAddr}
use Rattle.std.specs.declared.net.ip_addr.IpAddr.TheVariants as Ip
use Rattle.qc_token.specs.declared.token.TokenPayload.{TokenPayload}
use Rattle.qc_token.specs.declared.token.TokenPayload.TheVariants.{Retry, Validation}

-- an address kind and the octets
unfoldable pub ip_bytes : IpAddr → List ℕ
ip_bytes (Ip.V4 ip) = 0 ∷ ipv4_octets ip
ip_bytes (Ip.V6 ip) = 1 ∷ ipv6_octets ip

-- the whole seconds of a time in nanoseconds
unfoldable pub time_bytes : ℕ → List ℕ
time_bytes nanos = to_be_bytes w64 (nanos / 1000000000)

-- the plain bytes of a token
unfoldable pub payload_bytes : TokenPayload → List ℕ
payload_bytes (Retry address id issued) =
    0 ∷ ip_bytes (socket_ip address) ++ to_be_bytes w16 (socket_port address) ++ length id ∷ id ++ time_bytes issued
payload_bytes (Validation ip issued) = 1 ∷ ip_bytes ip ++ time_bytes issued

-- how many bytes an address kind and the octets have
abbrev pub ip_len : IpAddr → ℕ
ip_len (Ip.V4 ip) = 5
ip_len (Ip.V6 ip) = 17

-- how many bytes the plain bytes of a token have: its kind; an address, and a Retry token's port and id; and the time
abbrev pub payload_len : TokenPayload → ℕ
payload_len (Retry address id issued) = ip_len (socket_ip address) + length id + 12
payload_len (Validation ip issued) = ip_len ip + 9

-- how many bytes a token has: its plain bytes, the tag of 16 that sealing adds, and the nonce of 16
unfoldable pub token_len : TokenPayload → ℕ
token_len p = payload_len p + 32

-- a time of whole seconds
abbrev pub IsWholeTime : ℕ → Type 0
IsWholeTime nanos = (nanos % 1000000000 ≡ 0) × (nanos < 2 ^ 64)

-- an address of four octets, or of eight segments
abbrev pub IsIp : IpAddr → Type 0
IsIp (Ip.V4 ip) = length (ipv4_octets ip) ≡ 4
IsIp (Ip.V6 ip) = length (ipv6_segments ip) ≡ 8

-- what a token's bytes can say: whole seconds, and an address without flow label and scope
abbrev pub IsWhole : TokenPayload → Type 0
IsWhole (Retry address id issued) =
    IsIp (socket_ip address) × (socket_port address < 65536) × (socket_flowinfo address ≡ 0) × (socket_scope_id address ≡ 0) × (length id ≤ 20) × IsWholeTime issued
IsWhole (Validation ip issued) = IsIp ip × IsWholeTime issued
