-- The ids of a connection that was just made are new.
use Rattle.std.proofs.Common.{◌≡◌, ℕ, List, [], Option, None, Some, Bool, true, refl, sym, subst}
use Rattle.rand_core.specs.Stream.{Stream}
use Rattle.std.specs.declared.net.SocketAddr.{SocketAddr}
use Rattle.qc_base.specs.declared.side.Side.TheVariants.{Client, Server}
use Rattle.qc_base.specs.declared.side.SpaceId.{SpaceId}
use Rattle.qc_base.specs.declared.side.SpaceId.TheVariants.{Initial, Handshake, «Data»}
use Rattle.qc_ids.specs.LocalCids.{first_local_cids}
use Rattle.qc_recovery.specs.Calls.{begun_recovery}
use Rattle.qc_recovery.specs.Steps.{no_space}
use Rattle.qc_recovery.specs.Steps as recovery
use Rattle.qc_recovery.specs.TransportValues.{TransportValues}
use Rattle.qc_state.specs.declared.keys.SpaceKeys.{SpaceKeys}
use Rattle.qc_state.specs.declared.paths.Paths.{Paths}
use Rattle.qc_state.specs.declared.setup.Fixed.{Fixed}
use Rattle.qc_laws.specs.CidLaws.{HasNewIds}
use Rattle.qc_state.specs.First.{first_path, first_view, just_made, server_view}
use Rattle.qc_state.specs.Keys.{new_keys}
use Rattle.qc_state.specs.Paths.{new_path, only_path}
use Rattle.qc_state.specs.Tokens.{first_tokens}
use Rattle.qc_state.specs.declared.tokens.Issuer.{Issuer}
use Rattle.qc_state.specs.Types.{Types, Meaning}
use Rattle.qc_state.specs.View.{Held, View, ideal}

-- no packet is in flight
none_flown : (transport : TransportValues) (id : SpaceId) → (recovery.space_of id (begun_recovery transport)).flight ≡ []
unfolding begun_recovery no_space
none_flown transport Initial = refl
none_flown transport Handshake = refl
none_flown transport Data = refl

-- the id that the peer chose is the one that packets carry, if it chose one
none_chosen : (cid used : List ℕ) → None ≡ Some cid → cid ≡ used
none_chosen cid used h = absurd cc

same_chosen : (cid used : List ℕ) → Some used ≡ Some cid → cid ≡ used
same_chosen cid used h = cc

module _ {t : Types} where
  made : (keys : SpaceKeys t.H t.P) (session : t.S) (hello token : List ℕ) (words : Stream) (fixed : Fixed) (paths : Paths t.C) (issuer : Option (Issuer t.K t.T)) (tokens : ℕ) (transport : TransportValues) (time : ℕ) →
      ((cid : List ℕ) → paths.peer_cid ≡ Some cid → cid ≡ paths.current.remote_cid) → HasNewIds (just_made {t = t} keys session hello token words fixed paths issuer tokens transport time)
  unfolding first_local_cids
  made keys session hello token words fixed paths issuer tokens transport time chosen =
      record { local = _; ids = refl; size = refl; chosen = chosen; parameters = refl; retry = refl; handshake = refl; one_rtt = refl; flight = none_flown transport }

  -- of a client
  client_new : (m : Meaning t) (session : t.S) (words : Stream) (fixed : Fixed) (remote : SocketAddr) (first_cid token : List ℕ) (transport : TransportValues) (congestion : t.C) (time : ℕ) →
      HasNewIds (first_view m session words fixed remote first_cid token transport congestion time)
  unfolding first_view only_path new_path
  client_new m session words fixed remote first_cid token transport congestion time =
      made (new_keys m.seal_limit m.failure_limit (m.initial session first_cid Client)) (m.after_write session) (m.writes session) token words fixed
      (only_path (new_path remote first_cid true (first_path m.control transport congestion time)) None) None 0 transport time (λ cid e. none_chosen cid first_cid e)

  -- of a server
  server_new : (m : Meaning t) (session : t.S) (words : Stream) (fixed : Fixed) (remote : SocketAddr) (remote_cid : List ℕ) (validated : Bool) (issuer : Issuer t.K t.T) (transport : TransportValues) (congestion : t.C) (time : ℕ) →
      HasNewIds (server_view m session words fixed remote remote_cid validated issuer transport congestion time)
  unfolding server_view only_path new_path
  server_new m session words fixed remote remote_cid validated issuer transport congestion time =
      made (new_keys m.seal_limit m.failure_limit (m.initial session fixed.first_cid Server)) session [] [] words fixed
      (only_path (new_path remote remote_cid validated (first_path m.control transport congestion time)) (Some remote_cid)) (Some issuer) (first_tokens validated issuer) transport time (λ cid e. same_chosen cid remote_cid e)

-- and of one that was made so
module _ {t : Types} {R : Type 0} where
  pub first_new_ids : (stream : R → Stream) (m : Meaning t) (session : t.S) (words : Stream) (fixed : Fixed) (remote : SocketAddr) (first_cid token : List ℕ) (transport : TransportValues) (congestion : t.C) (time : ℕ) (v : Held t R) →
      ideal stream v ≡ first_view m session words fixed remote first_cid token transport congestion time → HasNewIds (ideal stream v)
  first_new_ids stream m session words fixed remote first_cid token transport congestion time v is =
      subst (λ (s : View t). HasNewIds s) (sym is) (client_new m session words fixed remote first_cid token transport congestion time)

  pub server_new_ids : (stream : R → Stream) (m : Meaning t) (session : t.S) (words : Stream) (fixed : Fixed) (remote : SocketAddr) (remote_cid : List ℕ) (validated : Bool) (issuer : Issuer t.K t.T) (transport : TransportValues) (congestion : t.C) (time : ℕ) (v : Held t R) →
      ideal stream v ≡ server_view m session words fixed remote remote_cid validated issuer transport congestion time → HasNewIds (ideal stream v)
  server_new_ids stream m session words fixed remote remote_cid validated issuer transport congestion time v is =
      subst (λ (s : View t). HasNewIds s) (sym is) (server_new m session words fixed remote remote_cid validated issuer transport congestion time)
