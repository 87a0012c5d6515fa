-- The plain bytes of a token: which bytes are which token
use Rattle.std.specs.Prelude.{◌≡◌, ℕ, ◌*◌, ◌<◌, ◌≤◌, ◌^◌, ◌⊎◌, List, [], ◌∷◌, ◌++◌, length}
use Rattle.std.specs.Int.{w16, w64}
use Rattle.std.specs.Net.Addr.{ipv4_octets, ipv6_segments, ipv6_octets}
use Rattle.std.specs.declared.net.ip_addr.IpAddr.{IpAddr}
use Rattle.std.specs.declared.net.ip_addr.IpAddr.TheVariants as Ip
use Rattle.std.specs.declared.net.socket_addr.SocketAddr.{SocketAddr}
use Rattle.std.specs.declared.net.socket_addr.SocketAddr.TheVariants as Socket
use Rattle.qc_base.specs.Grammar.{Spelling, ◌>>=◌, Is, Where, Bytes, Byte, Word}
use Rattle.qc_token.specs.declared.token.TokenPayload.{TokenPayload}
use Rattle.qc_token.specs.declared.token.TokenPayload.TheVariants.{Retry, Validation}

-- an IP address: its kind, 0 or 1, and its octets
abbrev pub IpText : Spelling IpAddr
IpText (Ip.V4 ip) a z = (length (ipv4_octets ip) ≡ 4) × (a ≡ 0 ∷ (ipv4_octets ip ++ z))
IpText (Ip.V6 ip) a z = (length (ipv6_segments ip) ≡ 8) × (a ≡ 1 ∷ (ipv6_octets ip ++ z))

-- a time in nanoseconds, as whole seconds in 8 bytes
abbrev pub TimeText : Spelling ℕ
TimeText = do
  seconds ← Word w64
  Where (seconds * 1000000000 < 2 ^ 64) (Is (seconds * 1000000000))

-- an address with this port, no flow label and no scope
abbrev pub socket_of : IpAddr → ℕ → SocketAddr
socket_of (Ip.V4 ip) port = Socket.V4 (record { ip = ip; port = port })
socket_of (Ip.V6 ip) port = Socket.V6 (record { ip = ip; port = port; flowinfo = 0; scope_id = 0 })

-- behind the type byte of a Retry token: the client's address and port, the id that it first sent to behind its
-- length, and the time of issue
abbrev pub RetryText : Spelling TokenPayload
RetryText = do
  ip ← IpText
  port ← Word w16
  len ← Byte
  Where (len ≤ 20) (do
    id ← Bytes len
    issued ← TimeText
    Is (Retry (socket_of ip port) id issued))

-- behind the type byte of a Validation token: the client's IP address and the time of issue
abbrev pub ValidationText : Spelling TokenPayload
ValidationText = do
  ip ← IpText
  issued ← TimeText
  Is (Validation ip issued)

-- a type byte, and what goes with it
abbrev pub PayloadText : Spelling TokenPayload
PayloadText p a z = ((b : List ℕ) × (a ≡ 0 ∷ b) × RetryText p b z) ⊎ ((b : List ℕ) × (a ≡ 1 ∷ b) × ValidationText p b z)

-- these bytes, and no more, are that token
unfoldable pub IsPayloadText : TokenPayload → List ℕ → Type 0
IsPayloadText p a = PayloadText p a []
