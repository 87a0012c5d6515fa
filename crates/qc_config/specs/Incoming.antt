-- What a client's token says of it
use Rattle.std.specs.Prelude.{◌≡◌, ℕ, ◌+◌, ◌≤◌, Bool, true, false, ◌&&◌, not, List, Option, Some, None, Result, Ok, Err, nat_lt, if◌then◌else◌}
use Rattle.std.specs.Net.Socket.{socket_ip}
use Rattle.std.specs.declared.net.ip_addr.IpAddr.{IpAddr}
use Rattle.std.specs.declared.net.socket_addr.SocketAddr.{SocketAddr}
use Rattle.qc_base.specs.Time.{plus}
use Rattle.qc_token.specs.declared.token.Token.{Token}
use Rattle.qc_token.specs.declared.token.TokenPayload.{TokenPayload}
use Rattle.qc_token.specs.declared.token.TokenPayload.TheVariants as say
use Rattle.qc_token.specs.declared.token_log.TokenReuseError.{TokenReuseError}
use Rattle.qc_config.specs.declared.incoming.IncomingToken.{IncomingToken}
use Rattle.qc_config.specs.declared.incoming.HeaderError.{HeaderError}
use Rattle.qc_config.specs.declared.incoming.HeaderError.TheVariants.{Retry}

-- a client that has shown nothing, whose first packet was sent to this id
abbrev pub unvalidated : List ℕ → IncomingToken
unvalidated dst = record { retry_src_cid = None; orig_dst_cid = dst; validated = false }

-- a client that has shown that it can be reached, with a Validation token
abbrev pub validated : List ℕ → IncomingToken
validated dst = record { retry_src_cid = None; orig_dst_cid = dst; validated = true }

-- the same with a token of a Retry packet, which names the id that it first sent to
abbrev pub retried : (dst orig : List ℕ) → IncomingToken
retried dst orig = record { retry_src_cid = Some dst; orig_dst_cid = orig; validated = true }

-- the token is no longer valid
abbrev pub is_expired : (issued lifetime now : ℕ) → Bool
is_expired issued lifetime now = nat_lt (plus issued lifetime) now

-- what a server knows: its clock, how long tokens are valid, and what its log says of a token's nonce, time of
-- issue and lifetime
pub record Taker : Type 0 where
  pub now : ℕ
  pub retry_lifetime : ℕ
  pub lifetime : ℕ
  pub takes : (nonce issued lifetime : ℕ) → Result (Unit {0}) TokenReuseError

-- what a Retry token brings: from another address, or expired, it isn't valid
unfoldable pub retry_row : (SocketAddr → SocketAddr → Bool) → Taker → List ℕ → (remote address : SocketAddr) → List ℕ → ℕ → Result IncomingToken HeaderError
retry_row same taker dst remote address orig issued =
    if same address remote && not (is_expired issued taker.retry_lifetime taker.now) then Ok (retried dst orig) else Err (Retry (record {}))

-- the log is asked about a Validation token of the client's IP address that hasn't expired
unfoldable pub asks_log : (IpAddr → IpAddr → Bool) → Taker → SocketAddr → IpAddr → ℕ → Bool
asks_log same taker remote ip issued = same ip (socket_ip remote) && not (is_expired issued taker.lifetime taker.now)

-- what the log says
abbrev pub is_fresh : Result (Unit {0}) TokenReuseError → Bool
is_fresh (Ok _) = true
is_fresh (Err _) = false

-- what a Validation token brings
unfoldable pub validation_row : (IpAddr → IpAddr → Bool) → Taker → List ℕ → SocketAddr → IpAddr → (issued nonce : ℕ) → IncomingToken
validation_row same taker dst remote ip issued nonce =
    if asks_log same taker remote ip issued then (if is_fresh (taker.takes nonce issued taker.lifetime) then validated dst else unvalidated dst) else unvalidated dst

-- what a token brings, by what it says
abbrev pub token_row : (SocketAddr → SocketAddr → Bool) → (IpAddr → IpAddr → Bool) → Taker → List ℕ → SocketAddr → TokenPayload → ℕ → Result IncomingToken HeaderError
token_row same_socket same_ip taker dst remote (say.Retry address orig issued) nonce = retry_row same_socket taker dst remote address orig issued
token_row same_socket same_ip taker dst remote (say.Validation ip issued) nonce = Ok (validation_row same_ip taker dst remote ip issued nonce)

-- what a client's token, or the want of one, brings
unfoldable pub incoming : (SocketAddr → SocketAddr → Bool) → (IpAddr → IpAddr → Bool) → Taker → List ℕ → SocketAddr → Option Token → Result IncomingToken HeaderError
incoming same_socket same_ip taker dst remote None = Ok (unvalidated dst)
incoming same_socket same_ip taker dst remote (Some t) = token_row same_socket same_ip taker dst remote t.payload t.nonce

-- the log after a token: it is told of one that it is asked about
abbrev pub payload_log : {L : Type 0} → (IpAddr → IpAddr → Bool) → Taker → (L → ℕ → ℕ → ℕ → L) → L → SocketAddr → TokenPayload → ℕ → L
payload_log same_ip taker after log remote (say.Retry address orig issued) nonce = log
payload_log same_ip taker after log remote (say.Validation ip issued) nonce = if asks_log same_ip taker remote ip issued then after log nonce issued taker.lifetime else log

-- the log afterwards: it was told of a token that it was asked about
unfoldable pub log_after : {L : Type 0} → (IpAddr → IpAddr → Bool) → Taker → (L → ℕ → ℕ → ℕ → L) → L → SocketAddr → Option Token → L
log_after same_ip taker after log remote None = log
log_after same_ip taker after log remote (Some t) = payload_log same_ip taker after log remote t.payload t.nonce

-- the address that a token was made for is the client's
abbrev pub FitsAddress : SocketAddr → TokenPayload → Type 0
FitsAddress remote (say.Retry address orig issued) = address ≡ remote
FitsAddress remote (say.Validation ip issued) = ip ≡ socket_ip remote

-- a token that was made for the client's address
unfoldable pub IsOwnToken : SocketAddr → Option Token → Type 0
IsOwnToken remote None = ⊥
IsOwnToken remote (Some t) = FitsAddress remote t.payload

-- A payload that a server may go by at this time: its lifetime isn't over, and a Validation token's log takes it, which is there
-- to take each once (RFC 9000, section 8.1.4).
abbrev pub IsLivePayload : Taker → TokenPayload → ℕ → Type 0
IsLivePayload taker (say.Retry address orig issued) nonce = taker.now ≤ issued + taker.retry_lifetime
IsLivePayload taker (say.Validation ip issued) nonce = (taker.now ≤ issued + taker.lifetime) × (taker.takes nonce issued taker.lifetime ≡ Ok tt)

-- a token with such a payload
unfoldable pub IsLiveToken : Taker → Option Token → Type 0
IsLiveToken taker None = ⊥
IsLiveToken taker (Some t) = IsLivePayload taker t.payload t.nonce
