-- The Initial keys of a connection that was just made are those of the destination id of the client's first packets, its session's own, and have sealed
-- nothing; it has no other keys.
use Rattle.std.proofs.Common.{◌≡◌, ℕ, ◌+◌, List, Bool, Option, None, refl, sym, subst, arith}
use Rattle.rand_core.specs.Stream.{Stream}
use Rattle.std.specs.declared.net.SocketAddr.{SocketAddr}
use Rattle.qc_base.specs.declared.side.Side.TheVariants.{Client, Server}
use Rattle.qc_crypto.specs.GivenKeys as gifts
use Rattle.qc_crypto.specs.declared.session.Session.{Ghosts as SessionGhosts}
use Rattle.qc_recovery.specs.TransportValues.{TransportValues}
use Rattle.qc_state.specs.declared.form.Form.{Form}
use Rattle.qc_state.specs.declared.form.Form.TheVariants as form
use Rattle.qc_state.specs.declared.setup.Fixed.{Fixed}
use Rattle.qc_laws.specs.FitLaws.{SpaceKeysFit}
use Rattle.qc_laws.specs.KeyLaws.{IsSpared, SparesKeys}
use Rattle.qc_laws.specs.RetryLaws.{HasSpaceKeys}
use Rattle.qc_laws.proofs.SpacesFit.{client_spaces_fit, server_spaces_fit}
use Rattle.qc_state.specs.First.{first_view, server_view}
use Rattle.qc_state.specs.Keys.{usage_of}
use Rattle.qc_state.specs.declared.tokens.Issuer.{Issuer}
use Rattle.qc_state.specs.Types.{Types, Meaning}
use Rattle.qc_state.specs.View.{Held, View, ideal}

module _ {t : Types} where
  client_keys : (m : Meaning t) (session : t.S) (words : Stream) (fixed : Fixed) (remote : SocketAddr) (first_cid token : List ℕ) (transport : TransportValues) (congestion : t.C) (time : ℕ) → fixed.first_cid ≡ first_cid → fixed.side ≡ Client →
      HasSpaceKeys m (first_view m session words fixed remote first_cid token transport congestion time)
  unfolding first_view
  client_keys m session words fixed remote first_cid token transport congestion time cid side =
      let named : first_cid ≡ fixed.first_cid = sym cid in
      let client : Client ≡ fixed.side = sym side in
      record { keys = (session, (λ i. m.initial session (named i) (client i)), record { seals = refl; failures = refl }); handshake = tt }

  server_keys : (m : Meaning t) (session : t.S) (words : Stream) (fixed : Fixed) (remote : SocketAddr) (remote_cid : List ℕ) (validated : Bool) (issuer : Issuer t.K t.T) (transport : TransportValues) (congestion : t.C) (time : ℕ) → fixed.side ≡ Server →
      HasSpaceKeys m (server_view m session words fixed remote remote_cid validated issuer transport congestion time)
  unfolding server_view
  server_keys m session words fixed remote remote_cid validated issuer transport congestion time side =
      let server : Server ≡ fixed.side = sym side in
      record { keys = (session, (λ i. m.initial session fixed.first_cid (server i)), record { seals = refl; failures = refl }); handshake = tt }

  client_is_spared : (m : Meaning t) (session : t.S) (words : Stream) (fixed : Fixed) (remote : SocketAddr) (first_cid token : List ℕ) (transport : TransportValues) (congestion : t.C) (time : ℕ) →
      SparesKeys (first_view m session words fixed remote first_cid token transport congestion time)
  unfolding first_view usage_of
  client_is_spared m session words fixed remote first_cid token transport congestion time = λ alive. by_form
    where
      by_form : (form : Form) → IsSpared (usage_of (first_view m session words fixed remote first_cid token transport congestion time).keys form)
      by_form form.Initial = λ some. omega (arith, some)
      by_form form.Handshake = tt
      by_form form.Early = tt
      by_form form.OneRtt = tt

  server_is_spared : (m : Meaning t) (session : t.S) (words : Stream) (fixed : Fixed) (remote : SocketAddr) (remote_cid : List ℕ) (validated : Bool) (issuer : Issuer t.K t.T) (transport : TransportValues) (congestion : t.C) (time : ℕ) →
      SparesKeys (server_view m session words fixed remote remote_cid validated issuer transport congestion time)
  unfolding server_view usage_of
  server_is_spared m session words fixed remote remote_cid validated issuer transport congestion time = λ alive. by_form
    where
      by_form : (form : Form) → IsSpared (usage_of (server_view m session words fixed remote remote_cid validated issuer transport congestion time).keys form)
      by_form form.Initial = λ some. omega (arith, some)
      by_form form.Handshake = tt
      by_form form.Early = tt
      by_form form.OneRtt = tt

-- so of one that was made so
module _ {t : Types} {R : Type 0} where
  pub first_space_keys : (stream : R → Stream) (m : Meaning t) (session : t.S) (words : Stream) (fixed : Fixed) (remote : SocketAddr) (first_cid token : List ℕ) (transport : TransportValues) (congestion : t.C) (time : ℕ) (v : Held t R) →
      ideal stream v ≡ first_view m session words fixed remote first_cid token transport congestion time → fixed.first_cid ≡ first_cid → fixed.side ≡ Client → HasSpaceKeys m (ideal stream v)
  first_space_keys stream m session words fixed remote first_cid token transport congestion time v is cid side =
      subst (λ (s : View t). HasSpaceKeys m s) (sym is) (client_keys m session words fixed remote first_cid token transport congestion time cid side)

  pub server_space_keys : (stream : R → Stream) (m : Meaning t) (session : t.S) (words : Stream) (fixed : Fixed) (remote : SocketAddr) (remote_cid : List ℕ) (validated : Bool) (issuer : Issuer t.K t.T) (transport : TransportValues) (congestion : t.C) (time : ℕ) (v : Held t R) →
      ideal stream v ≡ server_view m session words fixed remote remote_cid validated issuer transport congestion time → fixed.side ≡ Server → HasSpaceKeys m (ideal stream v)
  server_space_keys stream m session words fixed remote remote_cid validated issuer transport congestion time v is side =
      subst (λ (s : View t). HasSpaceKeys m s) (sym is) (server_keys m session words fixed remote remote_cid validated issuer transport congestion time side)

  pub first_spared : (stream : R → Stream) (m : Meaning t) (session : t.S) (words : Stream) (fixed : Fixed) (remote : SocketAddr) (first_cid token : List ℕ) (transport : TransportValues) (congestion : t.C) (time : ℕ) (v : Held t R) →
      ideal stream v ≡ first_view m session words fixed remote first_cid token transport congestion time → SparesKeys (ideal stream v)
  first_spared stream m session words fixed remote first_cid token transport congestion time v is =
      subst (λ (s : View t). SparesKeys s) (sym is) (client_is_spared m session words fixed remote first_cid token transport congestion time)

  pub server_spared : (stream : R → Stream) (m : Meaning t) (session : t.S) (words : Stream) (fixed : Fixed) (remote : SocketAddr) (remote_cid : List ℕ) (validated : Bool) (issuer : Issuer t.K t.T) (transport : TransportValues) (congestion : t.C) (time : ℕ) (v : Held t R) →
      ideal stream v ≡ server_view m session words fixed remote remote_cid validated issuer transport congestion time → SparesKeys (ideal stream v)
  server_spared stream m session words fixed remote remote_cid validated issuer transport congestion time v is =
      subst (λ (s : View t). SparesKeys s) (sym is) (server_is_spared m session words fixed remote remote_cid validated issuer transport congestion time)

  pub first_own_keys : (stream : R → Stream) (m : Meaning t) (calls : SessionGhosts t.S t.H t.P t.D t.I) (session : t.S) (words : Stream) (fixed : Fixed) (remote : SocketAddr) (first_cid token : List ℕ) (transport : TransportValues) (congestion : t.C) (time : ℕ) (v : Held t R) →
      ideal stream v ≡ first_view m session words fixed remote first_cid token transport congestion time → fixed.first_cid ≡ first_cid → fixed.side ≡ Client →
      calls.changes session ≡ 0 → m.write_keys session ≡ None → calls.changes (m.after_write session) ≡ calls.changes session + gifts.keys_given (m.write_keys session) → calls.is_sound (m.after_write session) →
      m.initial (m.after_write session) first_cid Client ≡ m.initial session first_cid Client → SpaceKeysFit m calls (ideal stream v)
  first_own_keys stream m calls session words fixed remote first_cid token transport congestion time v is cid side zero none counted sound same =
      subst (λ (s : View t). SpaceKeysFit m calls s) (sym is) (client_spaces_fit m calls session words fixed remote first_cid token transport congestion time cid side zero none counted sound same)

  pub server_own_keys : (stream : R → Stream) (m : Meaning t) (calls : SessionGhosts t.S t.H t.P t.D t.I) (session : t.S) (words : Stream) (fixed : Fixed) (remote : SocketAddr) (remote_cid : List ℕ) (validated : Bool) (issuer : Issuer t.K t.T) (transport : TransportValues) (congestion : t.C) (time : ℕ) (v : Held t R) →
      ideal stream v ≡ server_view m session words fixed remote remote_cid validated issuer transport congestion time → fixed.side ≡ Server → calls.is_sound session → calls.changes session ≡ 0 → SpaceKeysFit m calls (ideal stream v)
  server_own_keys stream m calls session words fixed remote remote_cid validated issuer transport congestion time v is side sound zero =
      subst (λ (s : View t). SpaceKeysFit m calls s) (sym is) (server_spaces_fit m calls session words fixed remote remote_cid validated issuer transport congestion time side sound zero)
