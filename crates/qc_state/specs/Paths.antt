-- The paths to the peer (RFC 9000, section 9).
use Rattle.std.specs.Prelude.{ℕ, min, max, ◌+◌, ◌*◌, List, Bool, true, false, ◌&&◌, ◌==◌, not, nat_eq, nat_le, if◌then◌else◌, Option, Some, None}
use Rattle.std.specs.Cmp.Lexicographic.{pointwise}
use Rattle.std.specs.Net.Addr.{ipv4_octets, ipv6_segments}
use Rattle.std.specs.Net.Socket.{v4_ip, v4_port, v6_ip, v6_port, v6_flowinfo, v6_scope_id}
use Rattle.std.specs.declared.net.SocketAddr.{SocketAddr}
use Rattle.std.specs.declared.net.socket_addr.SocketAddr.TheVariants.{V4, V6}
use Rattle.qc_base.specs.Time.{plus}
use Rattle.qc_base.specs.declared.side.Side.{Side}
use Rattle.qc_base.specs.declared.side.Side.TheVariants.{Client, Server}
use Rattle.qc_base.specs.declared.side.SpaceId.{SpaceId}
use Rattle.qc_base.specs.declared.side.SpaceId.TheVariants.{Handshake}
use Rattle.qc_params.specs.declared.params.TransportParameters.{TransportParameters}
use Rattle.qc_path.specs.Mtu.{peer_known, probe_sent}
use Rattle.qc_recovery.specs.declared.path.PathData.{PathData}
use Rattle.qc_state.specs.declared.deeds.Quiet.{Quiet}
use Rattle.qc_state.specs.declared.deeds.Quiet.TheVariants.{NothingOwed, Silent, Amplification, Congestion, Pacing, Killed}
use Rattle.qc_state.specs.declared.deeds.Verdict.{Verdict}
use Rattle.qc_state.specs.declared.deeds.Verdict.TheVariants.{Admitted}
use Rattle.qc_state.specs.declared.paths.Path.{Path}
use Rattle.qc_state.specs.declared.paths.Paths.{Paths}

-- a size of datagrams in bytes, held between the 1200 that each path takes (RFC 9000, section 14) and 16,383, with which each length in a
-- packet has two bytes at most
abbrev pub held_size : ℕ → ℕ
held_size size = max 1200 (min size 16383)

-- a path on which nothing was sent or received so far, whose packets carry this id, and of which loss recovery keeps this
unfoldable pub new_path : {C : Type 0} → (remote : SocketAddr) → (remote_cid : List ℕ) → (validated : Bool) → (kept : PathData C) → Path C
new_path remote remote_cid validated kept = record { remote = remote; remote_cid = remote_cid; validated = validated; sent = 0; received = 0; first_mtu = kept.mtud.current; kept = kept }

-- a connection's first path, with the id that the peer chose, where it did
unfoldable pub only_path : {C : Type 0} → Path C → (peer_cid : Option (List ℕ)) → Paths C
only_path path peer_cid = record { current = path; previous = None; peer_cid = peer_cid; spin = false; app_limited = false }

-- so many bytes were sent to the path's address
unfoldable pub path_sent : {C : Type 0} → Paths C → ℕ → Paths C
path_sent v bytes = record v { current = record v.current { sent = plus v.current.sent bytes }; app_limited = false }

-- a transmit sent nothing, for this cause: what there is to send holds sending back, not the congestion controller (RFC 9002, section 7.8), but
-- where the controller does; the call that ends the connection says nothing of it
unfoldable pub path_quiet : {C : Type 0} → Paths C → Quiet → Paths C
path_quiet v NothingOwed = record v { app_limited = true }
path_quiet v Silent = record v { app_limited = true }
path_quiet v Amplification = record v { app_limited = true }
path_quiet v Congestion = record v { app_limited = false }
path_quiet v Pacing = record v { app_limited = false }
path_quiet v Killed = v

-- a probe of the path's size was sent at a time, with this number and so many bytes, by a transmit that would have sent nothing for this cause:
-- the search waits for it, and the controller is told nothing (RFC 8899, section 3; RFC 9000, section 14.4)
unfoldable pub path_probed : {C : Type 0} → Paths C → (time number bytes : ℕ) → Quiet → Paths C
path_probed v time number bytes quiet = path_quiet (record v {
  current = record v.current { sent = plus v.current.sent bytes; kept = record v.current.kept { mtud = probe_sent time number v.current.kept.mtud } };
}) quiet

-- so many bytes came from the path's address
unfoldable pub path_received : {C : Type 0} → Paths C → ℕ → Paths C
path_received v bytes = record v { current = record v.current { received = plus v.current.received bytes } }

-- the peer has chosen its id, which packets to it carry from then on (RFC 9000, section 7.2)
unfoldable pub peer_fixed : {C : Type 0} → Paths C → List ℕ → Paths C
peer_fixed v cid = record v { current = record v.current { remote_cid = cid }; peer_cid = Some cid }

-- packets to the peer carry this id from then on: another one of those that it issued (RFC 9000, section 5.1.1)
unfoldable pub path_named : {C : Type 0} → Paths C → List ℕ → Paths C
path_named v cid = record v { current = record v.current { remote_cid = cid } }

-- the id that the peer chose, and until then the one that packets to it carry
abbrev pub chosen_or : (used : List ℕ) → (chosen : Option (List ℕ)) → List ℕ
chosen_or used None = used
chosen_or used (Some cid) = cid

-- the id by which the peer is known
abbrev pub peer_id : {C : Type 0} → Paths C → List ℕ
peer_id v = chosen_or v.current.remote_cid v.peer_cid

-- a packet's source id is another one than the peer chose, where it did
abbrev pub is_other_source : (chosen : Option (List ℕ)) → (source : List ℕ) → Bool
is_other_source None source = false
is_other_source (Some cid) source = not (pointwise nat_eq source cid)

-- A Handshake packet that is admitted validates the path (RFC 9000, section 8.1). A packet of this space was accepted: a Handshake packet that was
-- admitted shows that the peer gets what is sent to its address
unfoldable pub path_accepted : {C : Type 0} → Paths C → SpaceId → Verdict → Paths C
path_accepted v Handshake Admitted = record v { current = record v.current { validated = true } }
path_accepted v _ _ = v

-- the spin bit of this end by that of a packet: a server repeats it, and a client turns it round (RFC 9000, section 17.4)
abbrev pub spun_by : Side → Bool → Bool
spun_by Client bit = not bit
spun_by Server bit = bit

-- a packet with this spin bit was accepted by an end of this side; the greatest one of its space so far sets the bit that is sent
unfoldable pub path_spun : {C : Type 0} → Paths C → Side → (greatest : Bool) → (bit : Bool) → Paths C
path_spun v side greatest bit = if greatest then record v { spin = spun_by side bit } else v

-- loss recovery keeps this of the path in use from then on (RFC 9002)
unfoldable pub path_kept : {C : Type 0} → Paths C → PathData C → Paths C
path_kept v kept = record v { current = record v.current { kept = kept } }

-- how many bytes a datagram to a path may have: as many as its search found; while its address isn't validated, no more than it began with
unfoldable pub most_on : {C : Type 0} → Path C → ℕ
most_on p = held_size (if p.validated then p.kept.mtud.current else min p.first_mtu p.kept.mtud.current)

-- up to how many bytes a datagram to it is filled up that is to be: the size that each path takes, by the configuration, and at most that
unfoldable pub least_on : {C : Type 0} → Path C → ℕ
least_on p = min (held_size p.kept.mtud.least) (most_on p)

-- the greatest datagrams that the peer takes, by its parameters (RFC 9000, section 18.2), are known: those to it have no more bytes
unfoldable pub path_capped : {C : Type 0} → Paths C → TransportParameters → Paths C
path_capped v parameters = path_kept v (record v.current.kept { mtud = peer_known (min parameters.max_udp_payload_size 65527) v.current.kept.mtud })

-- no datagram may be begun: the peer's address isn't validated, and three times the bytes that came from it were sent (RFC
-- 9000, section 8.1); the last datagram may go past that
unfoldable pub is_blocked : {C : Type 0} → Paths C → Bool
is_blocked v = not v.current.validated && nat_le (3 * v.current.received) v.current.sent

-- so it is with so many bytes more, which were sent there and aren't counted yet
unfoldable pub is_blocked_behind : {C : Type 0} → Paths C → (bytes : ℕ) → Bool
is_blocked_behind v bytes = not v.current.validated && nat_le (3 * v.current.received) (bytes + v.current.sent)

-- whether two addresses are one, flow label and scope included
unfoldable pub same_address : SocketAddr → SocketAddr → Bool
same_address (V4 a) (V4 b) = pointwise nat_eq (ipv4_octets (v4_ip a)) (ipv4_octets (v4_ip b)) && (v4_port a == v4_port b)
same_address (V6 a) (V6 b) =
    pointwise nat_eq (ipv6_segments (v6_ip a)) (ipv6_segments (v6_ip b)) && ((v6_port a == v6_port b) && ((v6_flowinfo a == v6_flowinfo b) && (v6_scope_id a == v6_scope_id b)))
same_address _ _ = false
