-- The test of two addresses tells whether they are one.
use Rattle.std.proofs.Common.{◌≡◌, ◌≢◌, ℕ, List, Bool, true, false, true≢false, sym, ap, ◌∙◌}
use Rattle.std.specs.Prelude.{◌&&◌, ◌==◌, nat_eq}
use Rattle.std.specs.Cmp.Lexicographic.{pointwise, bytes_decides}
use Rattle.std.specs.Bool.{Decides}
use Rattle.std.proofs.lemmas.Bool.Decides.{Decides-and, Decides-eqb, Decides-like}
use Rattle.std.specs.Net.Addr.{ipv4_octets, ipv6_segments}
use Rattle.std.specs.Net.Socket.{v4_ip, v4_port, v6_ip, v6_port, v6_flowinfo, v6_scope_id}
use Rattle.std.specs.declared.net.SocketAddr.{SocketAddr}
use Rattle.std.specs.declared.net.socket_addr.SocketAddr.TheVariants.{V4, V6}
use Rattle.std.specs.declared.net.socket_addr.SocketAddrV4.{SocketAddrV4}
use Rattle.std.specs.declared.net.socket_addr.SocketAddrV6.{SocketAddrV6}
use Rattle.qc_state.specs.Paths.{same_address}

-- the addresses and ports of two are one where all their parts are
v4_same : (a b : SocketAddrV4) → ipv4_octets (v4_ip a) ≡ ipv4_octets (v4_ip b) → v4_port a ≡ v4_port b → a ≡ b
v4_same a b octets port = ap (λ (o : List ℕ). record { ip = record { octets = o }; port = a.port }) octets ∙ ap (λ (n : ℕ). record { ip = b.ip; port = n }) port

v6_same : (a b : SocketAddrV6) → ipv6_segments (v6_ip a) ≡ ipv6_segments (v6_ip b) → v6_port a ≡ v6_port b → v6_flowinfo a ≡ v6_flowinfo b → v6_scope_id a ≡ v6_scope_id b → a ≡ b
v6_same a b segments port flow scope =
    ap (λ (s : List ℕ). record { ip = record { segments = s }; port = a.port; flowinfo = a.flowinfo; scope_id = a.scope_id }) segments
    ∙ ap (λ (n : ℕ). record { ip = b.ip; port = n; flowinfo = a.flowinfo; scope_id = a.scope_id }) port
    ∙ ap (λ (n : ℕ). record { ip = b.ip; port = b.port; flowinfo = n; scope_id = a.scope_id }) flow
    ∙ ap (λ (n : ℕ). record { ip = b.ip; port = b.port; flowinfo = b.flowinfo; scope_id = n }) scope

-- the addresses of the two families differ
abbrev is_v4 : SocketAddr → Bool
is_v4 (V4 a) = true
is_v4 (V6 a) = false

-- the address inside one of a family, or another one
abbrev v4_in : SocketAddrV4 → SocketAddr → SocketAddrV4
v4_in other (V4 a) = a
v4_in other (V6 a) = other

abbrev v6_in : SocketAddrV6 → SocketAddr → SocketAddrV6
v6_in other (V4 a) = other
v6_in other (V6 a) = a

-- the test decides whether two addresses are one
decides : (a b : SocketAddr) → Decides (same_address a b) (a ≡ b)
unfolding same_address
decides (V4 a) (V4 b) =
    Decides-like (same_address (V4 a) (V4 b))
    (λ h. ap V4 (v4_same a b h.0 h.1))
    (λ e. let inside : a ≡ b = ap (v4_in a) e in (ap (λ (x : SocketAddrV4). ipv4_octets (v4_ip x)) inside, ap v4_port inside))
    (Decides-and (pointwise nat_eq (ipv4_octets (v4_ip a)) (ipv4_octets (v4_ip b))) (v4_port a == v4_port b) (bytes_decides (ipv4_octets (v4_ip a)) (ipv4_octets (v4_ip b))) (Decides-eqb (v4_port a) (v4_port b)))
decides (V6 a) (V6 b) =
    Decides-like (same_address (V6 a) (V6 b))
    (λ h. ap V6 (v6_same a b h.0 h.1.0 h.1.1.0 h.1.1.1))
    (λ e. let inside : a ≡ b = ap (v6_in a) e in (ap (λ (x : SocketAddrV6). ipv6_segments (v6_ip x)) inside, (ap v6_port inside, (ap v6_flowinfo inside, ap v6_scope_id inside))))
    (Decides-and (pointwise nat_eq (ipv6_segments (v6_ip a)) (ipv6_segments (v6_ip b))) ((v6_port a == v6_port b) && ((v6_flowinfo a == v6_flowinfo b) && (v6_scope_id a == v6_scope_id b))) (bytes_decides (ipv6_segments (v6_ip a)) (ipv6_segments (v6_ip b)))
    (Decides-and (v6_port a == v6_port b) ((v6_flowinfo a == v6_flowinfo b) && (v6_scope_id a == v6_scope_id b)) (Decides-eqb (v6_port a) (v6_port b))
    (Decides-and (v6_flowinfo a == v6_flowinfo b) (v6_scope_id a == v6_scope_id b) (Decides-eqb (v6_flowinfo a) (v6_flowinfo b)) (Decides-eqb (v6_scope_id a) (v6_scope_id b)))))
decides (V4 a) (V6 b) = (λ e. cc e, λ e. absurd (true≢false (ap is_v4 e)))
decides (V6 a) (V4 b) = (λ e. cc e, λ e. absurd (true≢false (sym (ap is_v4 e))))

pub told_same : (a b : SocketAddr) (r : Bool) → r ≡ same_address a b → r ≡ true → a ≡ b
told_same a b r is e = (decides a b).0 (sym is ∙ e)

pub told_other : (a b : SocketAddr) (r : Bool) → r ≡ same_address a b → r ≡ false → a ≢ b
told_other a b r is e same = true≢false (sym ((decides a b).1 same) ∙ sym is ∙ e)
