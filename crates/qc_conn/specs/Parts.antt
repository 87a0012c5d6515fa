-- What a suite is made of: its types, and what the calls on their values mean. A connection's type, as the logic knows it, is made of these.
use Rattle.std.specs.Borrow.{RattleType}
use Rattle.qc_base.specs.declared.mask.HeaderMask.{Ghosts as HeaderMaskGhosts}
use Rattle.qc_crypto.specs.declared.packet_key.PacketKey.{Ghosts as PacketKeyGhosts}
use Rattle.qc_crypto.specs.declared.session.Session.{Ghosts as SessionGhosts}
use Rattle.qc_crypto.specs.declared.token_keys.AeadKey.{Ghosts as AeadKeyGhosts}
use Rattle.qc_crypto.specs.declared.token_keys.HandshakeTokenKey.{Ghosts as TokenKeyGhosts}
use Rattle.qc_path.specs.declared.controller.Controller.{Ghosts as ControllerGhosts}
use Rattle.qc_path.specs.declared.controller.ControllerFactory.{Ghosts as ControllerFactoryGhosts}
use Rattle.qc_state.specs.Types.{Types}
use Rattle.qc_token.specs.declared.time_source.TimeSource.{Ghosts as TimeSourceGhosts}
use Rattle.rand_core.specs.declared.Rng.{Ghosts as RngGhosts}

-- the types that a connection is generic in, and what their calls mean, each by itself: the parts of a suite
pub record SuiteParts : Type 1 where
  -- the suite, its session, what makes its controllers, and its source of random words
  pub suite : RattleType
  pub session : RattleType
  pub control : RattleType
  pub random : RattleType
  -- the key of tokens, what seals one, and the source of the time
  pub token_key : RattleType
  pub token_aead : RattleType
  pub time : RattleType
  -- the session's header keys and packet keys, its handshake data and its peer's identity, and the controllers
  pub header_key : RattleType
  pub packet_key : RattleType
  pub handshake_data : RattleType
  pub peer_identity : RattleType
  pub controller : RattleType
  -- what the calls on them mean
  pub session_calls : SessionGhosts session.Denot header_key.Denot packet_key.Denot handshake_data.Denot peer_identity.Denot
  pub mask_calls : HeaderMaskGhosts header_key.Denot
  pub packet_calls : PacketKeyGhosts packet_key.Denot
  pub control_calls : ControllerFactoryGhosts control.Denot controller.Denot
  pub controller_calls : ControllerGhosts controller.Denot
  pub random_calls : RngGhosts random.Denot
  pub token_calls : TokenKeyGhosts token_key.Denot token_aead.Denot
  pub aead_calls : AeadKeyGhosts token_aead.Denot
  pub time_calls : TimeSourceGhosts time.Denot

-- the types that contracts see values of
abbrev pub types_of : SuiteParts → Types
types_of p = record { S = p.session.Denot; H = p.header_key.Denot; P = p.packet_key.Denot; D = p.handshake_data.Denot; I = p.peer_identity.Denot; C = p.controller.Denot; K = p.token_key.Denot; T = p.time.Denot }
