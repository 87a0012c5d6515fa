-- What plain bytes say as a token
use Rattle.std.specs.Prelude.{ℕ, ◌*◌, ◌==◌, List, [], ◌∷◌, nat_lt, if◌then◌else◌, Result, Ok, Err, Option, Some, None}
use Rattle.std.specs.Int.{w16, w64}
use Rattle.std.specs.Net.Addr.{segments_of}
use Rattle.std.specs.declared.net.ip_addr.IpAddr.{IpAddr}
use Rattle.std.specs.declared.net.ip_addr.IpAddr.TheVariants as Ip
use Rattle.qc_base.specs.Reading.{Reader, ◌>>=◌, give, refuse, or_fault, byte_of, bytes_of, word_of}
use Rattle.qc_base.specs.declared.reading.Cut.{Cut}
use Rattle.qc_token.specs.declared.token.TokenPayload.{TokenPayload}
use Rattle.qc_token.specs.declared.token.TokenPayload.TheVariants.{Retry, Validation}
use Rattle.qc_token.specs.TokenGrammar.{socket_of}

-- the fault of bytes that are no token
abbrev pub cut : Cut
cut = record {}

-- four octets
abbrev pub v4_at : Reader Cut IpAddr
v4_at = do
  octets ← or_fault cut (bytes_of 4)
  give (Ip.V4 (record { octets = octets }))

-- sixteen octets, as eight segments
abbrev pub v6_at : Reader Cut IpAddr
v6_at = do
  octets ← or_fault cut (bytes_of 16)
  give (Ip.V6 (record { segments = segments_of octets }))

-- what stands behind an address kind
abbrev pub ip_of_kind : ℕ → Reader Cut IpAddr
ip_of_kind kind = if kind == 0 then v4_at else if kind == 1 then v6_at else (λ _. Err cut)

-- an address kind and the octets
unfoldable pub ip_at : Reader Cut IpAddr
ip_at = do
  kind ← or_fault cut byte_of
  ip_of_kind kind

-- whole seconds, as nanoseconds; more than 64 bits have are no time
unfoldable pub time_at : Reader Cut ℕ
time_at = do
  seconds ← or_fault cut (word_of w64)
  refuse (nat_lt 18446744073709551615 (seconds * 1000000000)) cut (give (seconds * 1000000000))

-- what stands behind the type byte of a Retry token
unfoldable pub retry_at : Reader Cut TokenPayload
retry_at = do
  ip ← ip_at
  port ← or_fault cut (word_of w16)
  len ← or_fault cut byte_of
  refuse (nat_lt 20 len) cut (do
    id ← or_fault cut (bytes_of len)
    issued ← time_at
    give (Retry (socket_of ip port) id issued))

-- what stands behind the type byte of a Validation token
unfoldable pub validation_at : Reader Cut TokenPayload
validation_at = do
  ip ← ip_at
  issued ← time_at
  give (Validation ip issued)

-- what stands behind a type byte
abbrev pub payload_of_kind : ℕ → Reader Cut TokenPayload
payload_of_kind kind = if kind == 0 then retry_at else if kind == 1 then validation_at else (λ _. Err cut)

-- a type byte, and what goes with it
unfoldable pub payload_at : Reader Cut TokenPayload
payload_at = do
  kind ← or_fault cut byte_of
  payload_of_kind kind

-- a token, with nothing behind it
abbrev pub all_read : Result (TokenPayload × List ℕ) Cut → Option TokenPayload
all_read (Ok (p, [])) = Some p
all_read (Ok (p, b ∷ bytes)) = None
all_read (Err e) = None

-- the token that all of the bytes are
unfoldable pub payload_of : List ℕ → Option TokenPayload
payload_of bytes = all_read (payload_at bytes)
