-- The types that a connection stands on, and what the calls on them mean.
use Rattle.std.specs.Prelude.{ℕ, Bool, List, Option, Result}
use Rattle.std.specs.declared.net.ip_addr.IpAddr.{IpAddr}
use Rattle.qc_base.specs.declared.side.Side.{Side}
use Rattle.qc_base.specs.declared.transport_error.TransportError.{TransportError}
use Rattle.qc_base.specs.declared.mask.HeaderMask.{Ghosts as HeaderMaskGhosts}
use Rattle.qc_crypto.specs.declared.keys.Keys.{Keys}
use Rattle.qc_crypto.specs.declared.keys.KeyPair.{KeyPair}
use Rattle.qc_crypto.specs.declared.packet_key.PacketKey.{Ghosts as PacketKeyGhosts}
use Rattle.qc_crypto.specs.declared.session.Session.{Ghosts as SessionGhosts}
use Rattle.qc_path.specs.declared.controller.Controller.{Ghosts as ControllerGhosts}
use Rattle.qc_params.specs.declared.params.TransportParameters.{TransportParameters}

-- the session, its header keys, its packet keys, its handshake data, its peer's identity, the congestion controller, the key of tokens and the
-- source of the time
pub record Types : Type 1 where
  pub S : Type 0
  pub H : Type 0
  pub P : Type 0
  pub D : Type 0
  pub I : Type 0
  pub C : Type 0
  pub K : Type 0
  pub T : Type 0

-- what makes tokens: the token that a key makes at a time for an IP address, with a nonce
abbrev pub TokenMaker : Types → Type 0
TokenMaker t = t.K → t.T → IpAddr → (nonce : ℕ) → List ℕ

-- what their calls answer and leave, as functions of values, and what makes tokens
pub record Meaning (t : Types) : Type 1 where
  pub mask : t.H → List ℕ → List ℕ
  pub seal : t.P → ℕ → List ℕ → List ℕ → List ℕ
  pub opening : t.P → ℕ → List ℕ → List ℕ → Option (List ℕ)
  pub seal_limit : t.P → ℕ
  pub failure_limit : t.P → ℕ
  pub initial : t.S → List ℕ → Side → Keys t.H t.P
  pub reads : t.S → List ℕ → Result Bool TransportError
  pub after_read : t.S → List ℕ → t.S
  pub writes : t.S → List ℕ
  pub write_keys : t.S → Option (Keys t.H t.P)
  pub after_write : t.S → t.S
  pub left : t.S → ℕ
  pub handshaking : t.S → Bool
  pub parameters : t.S → Result (Option TransportParameters) TransportError
  pub next_keys : t.S → Option (KeyPair t.P)
  pub after_next : t.S → t.S
  pub fits_retry : t.S → (first_cid header payload : List ℕ) → Bool
  pub control : ControllerGhosts t.C
  pub token : TokenMaker t

-- the meaning that the traits give
abbrev pub meaning : {t : Types} → SessionGhosts t.S t.H t.P t.D t.I → HeaderMaskGhosts t.H → PacketKeyGhosts t.P → ControllerGhosts t.C → TokenMaker t → Meaning t
meaning s h p c token = record {
  mask = h.mask_of;
  seal = p.seal;
  opening = p.opening;
  seal_limit = p.seal_limit;
  failure_limit = p.failure_limit;
  initial = s.initial;
  reads = s.reads;
  after_read = s.after_read;
  writes = s.writes;
  write_keys = s.write_keys;
  after_write = s.after_write;
  left = s.left;
  handshaking = s.handshaking;
  parameters = s.parameters;
  next_keys = s.next_keys;
  after_next = s.after_next;
  fits_retry = s.fits_retry;
  control = c;
  token = token;
}
