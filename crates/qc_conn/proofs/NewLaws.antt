-- What holds of each view that was just made holds of a connection that was just made: of the bytes that its session wrote, the loss
-- timer, ACKs that are held back, the CRYPTO streams, the streams of the application, and the id that packets carry.
use Rattle.std.proofs.Common.{◌≡◌, ℕ, List, [], Bool, true, false, None, Some, refl, sym, subst, arith, Option}
use Rattle.rand_core.specs.Stream.{Stream}
use Rattle.std.specs.declared.net.SocketAddr.{SocketAddr}
use Rattle.qc_base.specs.declared.side.Side.TheVariants.{Client, Server}
use Rattle.qc_base.specs.declared.side.SpaceId.{SpaceId}
use Rattle.qc_cids.specs.Cids.{first_ids}
use Rattle.qc_recovery.specs.TransportValues.{TransportValues}
use Rattle.qc_state.specs.declared.keys.SpaceKeys.{SpaceKeys}
use Rattle.qc_state.specs.declared.paths.Paths.{Paths}
use Rattle.qc_state.specs.declared.setup.Fixed.{Fixed}
use Rattle.qc_laws.specs.AckLaws.{AckHolds}
use Rattle.qc_laws.specs.CryptoLaws.{CryptoKept}
use Rattle.qc_state.specs.First.{first_path, first_view, just_made, server_view}
use Rattle.qc_state.specs.Keys.{new_keys}
use Rattle.qc_state.specs.Paths.{new_path, only_path}
use Rattle.qc_laws.specs.IdLaws.{CarriesUsed}
use Rattle.qc_laws.specs.PostLaws.{HasNewDatagrams}
use Rattle.qc_laws.specs.ReadLaws.{HasNewStreams}
use Rattle.qc_laws.specs.StreamLaws.{IsUnread}
use Rattle.qc_laws.specs.TimerLaws.{TimerHolds}
use Rattle.qc_state.specs.Tokens.{first_tokens}
use Rattle.qc_state.specs.declared.tokens.Issuer.{Issuer}
use Rattle.qc_state.specs.Types.{Types, Meaning}
use Rattle.qc_state.specs.View.{Held, View, ideal}
use Rattle.qc_laws.proofs.AckBegins.{made_acks}
use Rattle.qc_laws.proofs.CryptoBegins.{made_kept}
use Rattle.qc_laws.proofs.StreamBegins.{made_streams}
use Rattle.qc_laws.proofs.TimerBegins.{made_timer}

module _ {t : Types} (P : View t → Type 0) (made : (keys : SpaceKeys t.H t.P) (session : t.S) (hello token : List ℕ) (words : Stream) (fixed : Fixed) (paths : Paths t.C) (issuer : Option (Issuer t.K t.T)) (tokens : ℕ) (transport : TransportValues) (time : ℕ) → P (just_made keys session hello token words fixed paths issuer tokens transport time)) where
  -- a client
  client_view : (m : Meaning t) (session : t.S) (words : Stream) (fixed : Fixed) (remote : SocketAddr) (first_cid token : List ℕ) (transport : TransportValues) (congestion : t.C) (time : ℕ) → P (first_view m session words fixed remote first_cid token transport congestion time)
  unfolding first_view
  client_view m session words fixed remote first_cid token transport congestion time =
      made (new_keys m.seal_limit m.failure_limit (m.initial session first_cid Client)) (m.after_write session) (m.writes session) token words fixed
      (only_path (new_path remote first_cid true (first_path m.control transport congestion time)) None) None 0 transport time

  -- a server
  server_view_holds : (m : Meaning t) (session : t.S) (words : Stream) (fixed : Fixed) (remote : SocketAddr) (remote_cid : List ℕ) (validated : Bool) (issuer : Issuer t.K t.T) (transport : TransportValues) (congestion : t.C) (time : ℕ) → P (server_view m session words fixed remote remote_cid validated issuer transport congestion time)
  unfolding server_view
  server_view_holds m session words fixed remote remote_cid validated issuer transport congestion time =
      made (new_keys m.seal_limit m.failure_limit (m.initial session fixed.first_cid Server)) session [] [] words fixed
      (only_path (new_path remote remote_cid validated (first_path m.control transport congestion time)) (Some remote_cid)) (Some issuer) (first_tokens validated issuer) transport time

-- packets carry the one id of the peer that is known
made_used : (t : Types) (keys : SpaceKeys t.H t.P) (session : t.S) (hello token : List ℕ) (words : Stream) (fixed : Fixed) (paths : Paths t.C) (issuer : Option (Issuer t.K t.T)) (tokens : ℕ) (transport : TransportValues) (time : ℕ) →
    CarriesUsed (just_made {t = t} keys session hello token words fixed paths issuer tokens transport time)
unfolding first_ids
made_used t keys session hello token words fixed paths issuer tokens transport time = record { some = omega arith; used = refl }

-- so of one that was made so
module _ {t : Types} {R : Type 0} where
  -- each byte that its session wrote waits to be sealed
  pub first_kept : (stream : R → Stream) (m : Meaning t) (session : t.S) (words : Stream) (fixed : Fixed) (remote : SocketAddr) (first_cid token : List ℕ) (transport : TransportValues) (congestion : t.C) (time : ℕ) (v : Held t R) →
      ideal stream v ≡ first_view m session words fixed remote first_cid token transport congestion time → (id : SpaceId) → CryptoKept id [] (ideal stream v)
  first_kept stream m session words fixed remote first_cid token transport congestion time v is =
      subst (λ (s : View t). (id : SpaceId) → CryptoKept id [] s) (sym is) (client_view (λ (s : View t). (id : SpaceId) → CryptoKept id [] s) (λ keys session hello token words fixed paths issuer tokens transport time. λ id. made_kept t id keys session hello token words fixed paths issuer tokens transport time) m session words fixed remote first_cid token transport congestion time)

  pub server_kept : (stream : R → Stream) (m : Meaning t) (session : t.S) (words : Stream) (fixed : Fixed) (remote : SocketAddr) (remote_cid : List ℕ) (validated : Bool) (issuer : Issuer t.K t.T) (transport : TransportValues) (congestion : t.C) (time : ℕ) (v : Held t R) →
      ideal stream v ≡ server_view m session words fixed remote remote_cid validated issuer transport congestion time → (id : SpaceId) → CryptoKept id [] (ideal stream v)
  server_kept stream m session words fixed remote remote_cid validated issuer transport congestion time v is =
      subst (λ (s : View t). (id : SpaceId) → CryptoKept id [] s) (sym is) (server_view_holds (λ (s : View t). (id : SpaceId) → CryptoKept id [] s) (λ keys session hello token words fixed paths issuer tokens transport time. λ id. made_kept t id keys session hello token words fixed paths issuer tokens transport time) m session words fixed remote remote_cid validated issuer transport congestion time)

  -- nothing is in flight, so the loss timer needn't stand
  pub first_timer : (stream : R → Stream) (m : Meaning t) (session : t.S) (words : Stream) (fixed : Fixed) (remote : SocketAddr) (first_cid token : List ℕ) (transport : TransportValues) (congestion : t.C) (time : ℕ) (v : Held t R) →
      ideal stream v ≡ first_view m session words fixed remote first_cid token transport congestion time → TimerHolds false (ideal stream v)
  first_timer stream m session words fixed remote first_cid token transport congestion time v is =
      subst (λ (s : View t). TimerHolds false s) (sym is) (client_view (λ (s : View t). TimerHolds false s) (made_timer t) m session words fixed remote first_cid token transport congestion time)

  pub server_timer : (stream : R → Stream) (m : Meaning t) (session : t.S) (words : Stream) (fixed : Fixed) (remote : SocketAddr) (remote_cid : List ℕ) (validated : Bool) (issuer : Issuer t.K t.T) (transport : TransportValues) (congestion : t.C) (time : ℕ) (v : Held t R) →
      ideal stream v ≡ server_view m session words fixed remote remote_cid validated issuer transport congestion time → TimerHolds false (ideal stream v)
  server_timer stream m session words fixed remote remote_cid validated issuer transport congestion time v is =
      subst (λ (s : View t). TimerHolds false s) (sym is) (server_view_holds (λ (s : View t). TimerHolds false s) (made_timer t) m session words fixed remote remote_cid validated issuer transport congestion time)

  -- no ACK is held back
  pub first_acks : (stream : R → Stream) (m : Meaning t) (session : t.S) (words : Stream) (fixed : Fixed) (remote : SocketAddr) (first_cid token : List ℕ) (transport : TransportValues) (congestion : t.C) (time : ℕ) (v : Held t R) →
      ideal stream v ≡ first_view m session words fixed remote first_cid token transport congestion time → AckHolds (ideal stream v)
  first_acks stream m session words fixed remote first_cid token transport congestion time v is =
      subst (λ (s : View t). AckHolds s) (sym is) (client_view (λ (s : View t). AckHolds s) (made_acks t) m session words fixed remote first_cid token transport congestion time)

  pub server_acks : (stream : R → Stream) (m : Meaning t) (session : t.S) (words : Stream) (fixed : Fixed) (remote : SocketAddr) (remote_cid : List ℕ) (validated : Bool) (issuer : Issuer t.K t.T) (transport : TransportValues) (congestion : t.C) (time : ℕ) (v : Held t R) →
      ideal stream v ≡ server_view m session words fixed remote remote_cid validated issuer transport congestion time → AckHolds (ideal stream v)
  server_acks stream m session words fixed remote remote_cid validated issuer transport congestion time v is =
      subst (λ (s : View t). AckHolds s) (sym is) (server_view_holds (λ (s : View t). AckHolds s) (made_acks t) m session words fixed remote remote_cid validated issuer transport congestion time)

  -- nothing came of any CRYPTO stream
  pub first_streams : (stream : R → Stream) (m : Meaning t) (session : t.S) (words : Stream) (fixed : Fixed) (remote : SocketAddr) (first_cid token : List ℕ) (transport : TransportValues) (congestion : t.C) (time : ℕ) (v : Held t R) →
      ideal stream v ≡ first_view m session words fixed remote first_cid token transport congestion time → IsUnread (ideal stream v)
  first_streams stream m session words fixed remote first_cid token transport congestion time v is =
      subst (λ (s : View t). IsUnread s) (sym is) (client_view (λ (s : View t). IsUnread s) (made_streams t) m session words fixed remote first_cid token transport congestion time)

  pub server_streams : (stream : R → Stream) (m : Meaning t) (session : t.S) (words : Stream) (fixed : Fixed) (remote : SocketAddr) (remote_cid : List ℕ) (validated : Bool) (issuer : Issuer t.K t.T) (transport : TransportValues) (congestion : t.C) (time : ℕ) (v : Held t R) →
      ideal stream v ≡ server_view m session words fixed remote remote_cid validated issuer transport congestion time → IsUnread (ideal stream v)
  server_streams stream m session words fixed remote remote_cid validated issuer transport congestion time v is =
      subst (λ (s : View t). IsUnread s) (sym is) (server_view_holds (λ (s : View t). IsUnread s) (made_streams t) m session words fixed remote remote_cid validated issuer transport congestion time)

  -- the streams of the application are new
  pub first_new : (stream : R → Stream) (m : Meaning t) (session : t.S) (words : Stream) (fixed : Fixed) (remote : SocketAddr) (first_cid token : List ℕ) (transport : TransportValues) (congestion : t.C) (time : ℕ) (v : Held t R) →
      ideal stream v ≡ first_view m session words fixed remote first_cid token transport congestion time → HasNewStreams (ideal stream v)
  first_new stream m session words fixed remote first_cid token transport congestion time v is =
      subst (λ (s : View t). HasNewStreams s) (sym is) (client_view (λ (s : View t). HasNewStreams s) (λ keys session hello token words fixed paths issuer tokens transport time. (fixed.side, transport, refl)) m session words fixed remote first_cid token transport congestion time)

  pub server_new : (stream : R → Stream) (m : Meaning t) (session : t.S) (words : Stream) (fixed : Fixed) (remote : SocketAddr) (remote_cid : List ℕ) (validated : Bool) (issuer : Issuer t.K t.T) (transport : TransportValues) (congestion : t.C) (time : ℕ) (v : Held t R) →
      ideal stream v ≡ server_view m session words fixed remote remote_cid validated issuer transport congestion time → HasNewStreams (ideal stream v)
  server_new stream m session words fixed remote remote_cid validated issuer transport congestion time v is =
      subst (λ (s : View t). HasNewStreams s) (sym is) (server_view_holds (λ (s : View t). HasNewStreams s) (λ keys session hello token words fixed paths issuer tokens transport time. (fixed.side, transport, refl)) m session words fixed remote remote_cid validated issuer transport congestion time)

  -- and so are its datagrams
  pub first_unposted : (stream : R → Stream) (m : Meaning t) (session : t.S) (words : Stream) (fixed : Fixed) (remote : SocketAddr) (first_cid token : List ℕ) (transport : TransportValues) (congestion : t.C) (time : ℕ) (v : Held t R) →
      ideal stream v ≡ first_view m session words fixed remote first_cid token transport congestion time → HasNewDatagrams (ideal stream v)
  first_unposted stream m session words fixed remote first_cid token transport congestion time v is =
      subst (λ (s : View t). HasNewDatagrams s) (sym is) (client_view (λ (s : View t). HasNewDatagrams s) (λ keys session hello token words fixed paths issuer tokens transport time. (transport.datagram_receive_buffer_size, transport.datagram_send_buffer_size, refl)) m session words fixed remote first_cid token transport congestion time)

  pub server_unposted : (stream : R → Stream) (m : Meaning t) (session : t.S) (words : Stream) (fixed : Fixed) (remote : SocketAddr) (remote_cid : List ℕ) (validated : Bool) (issuer : Issuer t.K t.T) (transport : TransportValues) (congestion : t.C) (time : ℕ) (v : Held t R) →
      ideal stream v ≡ server_view m session words fixed remote remote_cid validated issuer transport congestion time → HasNewDatagrams (ideal stream v)
  server_unposted stream m session words fixed remote remote_cid validated issuer transport congestion time v is =
      subst (λ (s : View t). HasNewDatagrams s) (sym is) (server_view_holds (λ (s : View t). HasNewDatagrams s) (λ keys session hello token words fixed paths issuer tokens transport time. (transport.datagram_receive_buffer_size, transport.datagram_send_buffer_size, refl)) m session words fixed remote remote_cid validated issuer transport congestion time)

  -- packets to the peer carry its id that is in use
  pub first_used : (stream : R → Stream) (m : Meaning t) (session : t.S) (words : Stream) (fixed : Fixed) (remote : SocketAddr) (first_cid token : List ℕ) (transport : TransportValues) (congestion : t.C) (time : ℕ) (v : Held t R) →
      ideal stream v ≡ first_view m session words fixed remote first_cid token transport congestion time → CarriesUsed (ideal stream v)
  first_used stream m session words fixed remote first_cid token transport congestion time v is =
      subst (λ (s : View t). CarriesUsed s) (sym is) (client_view (λ (s : View t). CarriesUsed s) (made_used t) m session words fixed remote first_cid token transport congestion time)

  pub server_used : (stream : R → Stream) (m : Meaning t) (session : t.S) (words : Stream) (fixed : Fixed) (remote : SocketAddr) (remote_cid : List ℕ) (validated : Bool) (issuer : Issuer t.K t.T) (transport : TransportValues) (congestion : t.C) (time : ℕ) (v : Held t R) →
      ideal stream v ≡ server_view m session words fixed remote remote_cid validated issuer transport congestion time → CarriesUsed (ideal stream v)
  server_used stream m session words fixed remote remote_cid validated issuer transport congestion time v is =
      subst (λ (s : View t). CarriesUsed s) (sym is) (server_view_holds (λ (s : View t). CarriesUsed s) (made_used t) m session words fixed remote remote_cid validated issuer transport congestion time)
