-- In a connection that was just made the life is open, no close is owed, nothing waits to be told, and no 1-RTT keys are there.
use Rattle.std.proofs.Common.{◌≡◌, ℕ, ◌≤◌, ◌<◌, inr, List, Bool, ap, sym, subst, arith}
use Rattle.std.specs.List.{list_all}
use Rattle.rand_core.specs.Stream.{Stream}
use Rattle.std.specs.declared.net.SocketAddr.{SocketAddr}
use Rattle.qc_recovery.specs.TransportValues.{TransportValues}
use Rattle.qc_state.specs.declared.setup.Fixed.{Fixed}
use Rattle.qc_laws.specs.EndLaws.{Ends}
use Rattle.qc_laws.specs.EventLaws.{OnlyDoneWaits, ends_in, is_heard}
use Rattle.qc_laws.specs.UpdateLaws.{AreLast}
use Rattle.qc_state.specs.First.{first_view, server_view}
use Rattle.qc_state.specs.declared.tokens.Issuer.{Issuer}
use Rattle.qc_state.specs.Types.{Types, Meaning}
use Rattle.qc_state.specs.View.{Held, View, ideal}

module _ {t : Types} where
  -- a client
  client_view_ends : (m : Meaning t) (session : t.S) (words : Stream) (fixed : Fixed) (remote : SocketAddr) (first_cid token : List ℕ) (transport : TransportValues) (congestion : t.C) (time : ℕ) → Ends (first_view m session words fixed remote first_cid token transport congestion time)
  unfolding first_view
  client_view_ends m session words fixed remote first_cid token transport congestion time = record { closing = λ low high. absurd (omega (arith, low)); ended = λ d. absurd cc; owed = λ e. absurd cc }

  -- a server
  server_view_ends : (m : Meaning t) (session : t.S) (words : Stream) (fixed : Fixed) (remote : SocketAddr) (remote_cid : List ℕ) (validated : Bool) (issuer : Issuer t.K t.T) (transport : TransportValues) (congestion : t.C) (time : ℕ) → Ends (server_view m session words fixed remote remote_cid validated issuer transport congestion time)
  unfolding server_view
  server_view_ends m session words fixed remote remote_cid validated issuer transport congestion time = record { closing = λ low high. absurd (omega (arith, low)); ended = λ d. absurd cc; owed = λ e. absurd cc }

-- so is one that was made so
module _ {t : Types} {R : Type 0} where
  pub first_ends : (stream : R → Stream) (m : Meaning t) (session : t.S) (words : Stream) (fixed : Fixed) (remote : SocketAddr) (first_cid token : List ℕ) (transport : TransportValues) (congestion : t.C) (time : ℕ) (v : Held t R) →
      ideal stream v ≡ first_view m session words fixed remote first_cid token transport congestion time → Ends (ideal stream v)
  first_ends stream m session words fixed remote first_cid token transport congestion time v made =
      subst (λ (s : View t). Ends s) (sym made) (client_view_ends m session words fixed remote first_cid token transport congestion time)

  pub server_ends : (stream : R → Stream) (m : Meaning t) (session : t.S) (words : Stream) (fixed : Fixed) (remote : SocketAddr) (remote_cid : List ℕ) (validated : Bool) (issuer : Issuer t.K t.T) (transport : TransportValues) (congestion : t.C) (time : ℕ) (v : Held t R) →
      ideal stream v ≡ server_view m session words fixed remote remote_cid validated issuer transport congestion time → Ends (ideal stream v)
  server_ends stream m session words fixed remote remote_cid validated issuer transport congestion time v made =
      subst (λ (s : View t). Ends s) (sym made) (server_view_ends m session words fixed remote remote_cid validated issuer transport congestion time)

module _ {t : Types} {R : Type 0} where
  -- in a client that was just made nothing waits to be told
  pub first_told : (stream : R → Stream) (m : Meaning t) (session : t.S) (words : Stream) (fixed : Fixed) (remote : SocketAddr) (first_cid token : List ℕ) (transport : TransportValues) (congestion : t.C) (time : ℕ) (v : Held t R) → ideal stream v ≡ first_view m session words fixed remote first_cid token transport congestion time
      → OnlyDoneWaits v.life
  unfolding first_view
  first_told stream m session words fixed remote first_cid token transport congestion time v made =
      record { lost = λ _. ap (λ (v : View t). v.life.lost) made; connected = λ _. ap (λ (v : View t). v.life.connected) made; drained = λ _. ap (λ (v : View t). v.life.drained) made; notices = ap (λ (v : View t). ends_in v.life.notices) made; heard = ap (λ (v : View t). list_all is_heard v.life.heard) made }

  -- nor in such a server
  pub server_told : (stream : R → Stream) (m : Meaning t) (session : t.S) (words : Stream) (fixed : Fixed) (remote : SocketAddr) (remote_cid : List ℕ) (validated : Bool) (issuer : Issuer t.K t.T) (transport : TransportValues) (congestion : t.C) (time : ℕ) (v : Held t R) → ideal stream v ≡ server_view m session words fixed remote remote_cid validated issuer transport congestion time
      → OnlyDoneWaits v.life
  unfolding server_view
  server_told stream m session words fixed remote remote_cid validated issuer transport congestion time v made =
      record { lost = λ _. ap (λ (v : View t). v.life.lost) made; connected = λ _. ap (λ (v : View t). v.life.connected) made; drained = λ _. ap (λ (v : View t). v.life.drained) made; notices = ap (λ (v : View t). ends_in v.life.notices) made; heard = ap (λ (v : View t). list_all is_heard v.life.heard) made }

module _ {t : Types} {R : Type 0} where
  -- a client that was just made has no 1-RTT keys
  pub first_last : (stream : R → Stream) (m : Meaning t) (session : t.S) (words : Stream) (fixed : Fixed) (remote : SocketAddr) (first_cid token : List ℕ) (transport : TransportValues) (congestion : t.C) (time : ℕ) (v : Held t R) → ideal stream v ≡ first_view m session words fixed remote first_cid token transport congestion time
      → AreLast (ideal stream v)
  unfolding first_view
  first_last stream m session words fixed remote first_cid token transport congestion time v made = inr (ap (λ (s : View t). s.keys.«data») made)

  -- nor has such a server
  pub server_last : (stream : R → Stream) (m : Meaning t) (session : t.S) (words : Stream) (fixed : Fixed) (remote : SocketAddr) (remote_cid : List ℕ) (validated : Bool) (issuer : Issuer t.K t.T) (transport : TransportValues) (congestion : t.C) (time : ℕ) (v : Held t R) → ideal stream v ≡ server_view m session words fixed remote remote_cid validated issuer transport congestion time
      → AreLast (ideal stream v)
  unfolding server_view
  server_last stream m session words fixed remote remote_cid validated issuer transport congestion time v made = inr (ap (λ (s : View t). s.keys.«data») made)
