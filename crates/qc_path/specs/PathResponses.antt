-- Answers to PATH_CHALLENGE that wait, each to one address (RFC 9000, section 8.2.2). `eq` tells whether two addresses are
-- the same.
use Rattle.std.specs.Prelude.{◌≡◌, ◌<◌, ℕ, Bool, not, nat_lt, nat_le, if◌then◌else◌, List, [], ◌∷◌, ◌++◌, length, Option, Some, None, position, remove, slice_get, slice_index_or, slice_set}
use Rattle.std.specs.Net.Addr.{ipv4_octets}
use Rattle.std.specs.Net.Socket.{socket_ip, socket_port}
use Rattle.std.specs.declared.net.IpAddr.{IpAddr}
use Rattle.std.specs.declared.net.ip_addr.IpAddr.TheVariants.{V4, V6}
use Rattle.std.specs.declared.net.socket_addr.SocketAddr.{SocketAddr}
use Rattle.qc_path.specs.declared.path_responses.PathResponse.{PathResponse}

-- the address that is none, of IPv4: four bytes of 0
abbrev pub IsNoIp : IpAddr → Type 0
IsNoIp (V4 ip) = ipv4_octets ip ≡ 0 ∷ 0 ∷ 0 ∷ 0 ∷ []
IsNoIp (V6 ip) = ⊥

-- an answer to nobody
pub record IsToNobody (r : PathResponse) : Type 0 where
  pub number : r.number ≡ 0
  pub word : r.word ≡ 0
  pub ip : IsNoIp (socket_ip r.remote)
  pub port : socket_port r.remote ≡ 0

-- the answer goes to this address
abbrev pub is_for : (SocketAddr → SocketAddr → Bool) → SocketAddr → PathResponse → Bool
is_for eq remote r = eq r.remote remote

-- the answer goes to another address
abbrev pub is_for_other : (SocketAddr → SocketAddr → Bool) → SocketAddr → PathResponse → Bool
is_for_other eq remote r = not (eq r.remote remote)

-- of two answers to one address the one that counts: to the packet with the greater number, on a tie the later one
abbrev pub counting : (old new : PathResponse) → PathResponse
counting old new = if nat_le old.number new.number then new else old

-- an answer, where one to its address waits at a place, or none does: then fewer than 16 have to wait
abbrev pub placed : Option ℕ → PathResponse → List PathResponse → List PathResponse
placed None r rs = if nat_lt (length rs) 16 then rs ++ r ∷ [] else rs
placed (Some place) r rs = slice_set rs place (counting (slice_index_or rs place r) r)

-- a challenge came that this answers
unfoldable pub challenged : (SocketAddr → SocketAddr → Bool) → PathResponse → List PathResponse → List PathResponse
challenged eq r rs = placed (position (is_for eq r.remote) rs) r rs

-- the answer at a place, if there is a place
abbrev pub taken_at : Option ℕ → List PathResponse → Option PathResponse
taken_at None rs = None
taken_at (Some place) rs = slice_get rs place

-- the answers without that one
abbrev pub left_at : Option ℕ → List PathResponse → List PathResponse
left_at None rs = rs
left_at (Some place) rs = remove rs place

-- an answer stands at the place, if there is a place
abbrev pub IsWithin : Option ℕ → List PathResponse → Type 0
IsWithin None rs = Unit {0}
IsWithin (Some place) rs = place < length rs
