-- The keys of a connection are its session's: those of the Initial and the Handshake space, and the 1-RTT keys, each of its epoch (RFC 9001, sections 5.1,
-- 5.2 and 6.1).
use Rattle.std.specs.Prelude.{◌≡◌, ℕ, ◌+◌, ◌*◌, ◌≤◌, ◌<◌, Bool, true, false, List, Option, Some, None, is_some}
use Rattle.qc_base.specs.declared.side.Side.{Side}
use Rattle.qc_base.specs.declared.side.SpaceId.TheVariants.{Initial, Handshake, «Data»}
use Rattle.qc_crypto.specs.declared.keys.KeyPair.{KeyPair}
use Rattle.qc_crypto.specs.declared.session.Session.{Ghosts as SessionGhosts}
use Rattle.qc_rings.specs.Ring.{Kept, Dropped, Ring}
use Rattle.qc_state.specs.declared.keys.OneRttKeys.{OneRttKeys}
use Rattle.qc_state.specs.declared.keys.SpaceKeys.{SpaceKeys}
use Rattle.qc_state.specs.Numbers.{next_number}
use Rattle.qc_state.specs.Paths.{chosen_or}
use Rattle.qc_state.specs.Types.{Types, Meaning}
use Rattle.qc_state.specs.View.{View}
use Rattle.qc_laws.specs.RetryLaws.{HaveLimits}

-- 1 where it is so
abbrev pub one_if : Bool → ℕ
one_if true = 1
one_if false = 0

-- Epochs are no more than twice as many as numbers, and one: each is begun behind a packet that was sealed, whose number lies below this next one,
-- in the epoch before, or in answer to the peer's last update. A packet that was sealed in an epoch answers the update that began it; and one that was
-- acknowledged in it was sealed in it.
pub record IsEpochLow (next : ℕ) (r : Ring) : Type 0 where
  pub low : r.epoch + one_if (is_some r.first) ≤ 2 * next + one_if r.unanswered
  pub answered : is_some r.first ≡ true → r.unanswered ≡ false
  pub sealed : r.acked ≡ true → is_some r.first ≡ true

module _ {t : Types} (m : Meaning t) (calls : SessionGhosts t.S t.H t.P t.D t.I) where
  -- what is kept of the epoch before this one: nothing, or the session's keys of that epoch
  abbrev pub IsBefore : t.S → (epoch : ℕ) → Kept → Option (KeyPair t.P) → Type 0
  IsBefore session epoch Dropped keys = keys ≡ None
  IsBefore session epoch _ keys = (e : ℕ) × (e + 1 ≡ epoch) × (keys ≡ Some (calls.epoch_keys session e))

  -- 1-RTT keys are the session's: the header keys those of the Data space, the packet keys those of the ring's epoch, of the next one, which is the last of
  -- which the session gave keys, and of the one before; and the limits are those of the key that seals
  pub record AreSessions (session : t.S) (k : OneRttKeys t.H t.P) : Type 0 where
    pub changed : calls.changes session ≡ 2
    pub epoch : calls.epoch session ≡ k.ring.ring.epoch + 1
    pub header : k.header ≡ (calls.space_keys session «Data»).header
    pub current : k.ring.current ≡ calls.epoch_keys session k.ring.ring.epoch
    pub next : k.ring.next ≡ calls.epoch_keys session (k.ring.ring.epoch + 1)
    pub previous : IsBefore session k.ring.ring.epoch k.ring.ring.kept k.ring.previous
    pub seals : k.confidentiality_limit ≡ m.seal_limit k.ring.current.local
    pub failures : k.integrity_limit ≡ m.failure_limit k.ring.current.local

  -- so are those that there are; where there are none the session gave none of a further epoch
  abbrev pub FitKeys : t.S → (next : ℕ) → Option (OneRttKeys t.H t.P) → Type 0
  FitKeys session next None = calls.epoch session ≡ 0
  FitKeys session next (Some k) = AreSessions session k × IsEpochLow next k.ring.ring

  -- The 1-RTT keys of a view are its session's, whose own facts hold.
  pub record KeysFit (s : View t) : Type 0 where
    pub sound : calls.is_sound s.lower.session
    pub keys : FitKeys s.lower.session (next_number s.numbers «Data») s.keys.«data»

  -- Initial keys, if there are any, are those that the session gives of this id for an end of this side, and the limits are those of the key that seals
  abbrev pub FitInitial : t.S → (cid : List ℕ) → Side → Option (SpaceKeys t.H t.P) → Type 0
  FitInitial session cid side None = Unit {0}
  FitInitial session cid side (Some k) = (k.keys ≡ m.initial session cid side) × HaveLimits m k

  -- Handshake keys are the session's, which has given some: those of its Handshake space; and so are the limits
  pub record AreHandshakes (session : t.S) (k : SpaceKeys t.H t.P) : Type 0 where
    pub changed : 0 < calls.changes session
    pub keys : k.keys ≡ calls.space_keys session Handshake
    pub limits : HaveLimits m k

  -- so are those that there are
  abbrev pub FitHandshake : t.S → Option (SpaceKeys t.H t.P) → Type 0
  FitHandshake session None = Unit {0}
  FitHandshake session (Some k) = AreHandshakes session k

  -- The Initial and the Handshake keys of a view are its session's, whose own facts hold: those of the destination id of the client's first packets, or of
  -- the source id of the Retry that was taken, and those of the Handshake space. While Initial is the highest space, the session has given no keys:
  -- so the first that it gives are those of the Handshake space.
  pub record SpaceKeysFit (s : View t) : Type 0 where
    pub sound : calls.is_sound s.lower.session
    pub begins : s.keys.highest ≡ Initial → calls.changes s.lower.session ≡ 0
    pub initial : FitInitial s.lower.session (chosen_or s.setup.fixed.first_cid s.setup.retry_cid) s.setup.fixed.side s.keys.initial
    pub handshake : FitHandshake s.lower.session s.keys.handshake
