-- Laws over whole runs, said of a path to the peer (RFC 9000, section 8.1).
use Rattle.std.specs.Prelude.{◌≡◌, ℕ, ◌+◌, ◌*◌, ◌<◌, ◌≤◌, ◌⊎◌, Bool, true, false, if◌then◌else◌, List, [], ◌∷◌, length, Some}
use Rattle.std.specs.List.{list_any}
use Rattle.std.specs.declared.net.SocketAddr.{SocketAddr}
use Rattle.qc_base.specs.declared.side.SpaceId.TheVariants.{Handshake}
use Rattle.qc_state.specs.declared.deeds.Did.{Did}
use Rattle.qc_state.specs.declared.deeds.Did.TheVariants.{Piece}
use Rattle.qc_state.specs.declared.deeds.Verdict.TheVariants.{Admitted}
use Rattle.qc_state.specs.declared.input.Input.{Input}
use Rattle.qc_state.specs.declared.input.Input.TheVariants.{Datagram}
use Rattle.qc_state.specs.declared.paths.Path.{Path}
use Rattle.qc_state.specs.Paths.{held_size, same_address}

-- how many bytes an input brings that come from this address
abbrev pub bytes_from : SocketAddr → Input → ℕ
bytes_from remote (Datagram time from ecn bytes) = if same_address remote from then length bytes else 0
bytes_from remote _ = 0

-- how many bytes these inputs bring that come from this address
abbrev pub all_from : SocketAddr → List Input → ℕ
all_from remote [] = 0
all_from remote (i ∷ is) = bytes_from remote i + all_from remote is

-- what was sent to an address that isn't validated is less than three times what came from it, and one datagram of the size with which its
-- path began
abbrev pub IsLimited : {C : Type 0} → Path C → Type 0
IsLimited p = p.validated ≡ false → p.sent < 3 * p.received + held_size p.first_mtu

-- a deed that tells of a Handshake packet which was admitted
abbrev pub is_handshake_admitted : Did → Bool
is_handshake_admitted (Piece (Some Handshake) number Admitted) = true
is_handshake_admitted _ = false

-- From one path to another, between which so many bytes came from its address, and these deeds were done: the address is the same
-- one, and so is the size with which it began; it is validated only where it was before, or a Handshake packet was admitted; no more
-- bytes count as received from it than came; and what is sent stays limited, where the count of bytes has the range of its type.
pub record PathHolds {C : Type 0} (came : ℕ) (ds : List Did) (p p' : Path C) : Type 0 where
  pub same : p'.remote ≡ p.remote
  pub first : p'.first_mtu ≡ p.first_mtu
  pub validated : p'.validated ≡ true → (p.validated ≡ true) ⊎ (list_any is_handshake_admitted ds ≡ true)
  pub received : p'.received ≤ p.received + came
  pub ranged : p.received ≤ 18446744073709551615 → p'.received ≤ 18446744073709551615
  pub limited : p.received ≤ 18446744073709551615 → IsLimited p → IsLimited p'
