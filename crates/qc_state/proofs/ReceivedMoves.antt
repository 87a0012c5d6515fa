-- The moves that receiving makes, said of the move and, where the loss timer is set, of the view. Those of a packet that opened say more:
-- which packet they belong to (`PacketMoves`).
use Rattle.std.proofs.Common.{◌≡◌, ◌⊎◌, ℕ, [], refl, true, Option, Some, None}
use Rattle.qc_base.specs.declared.side.SpaceId.{SpaceId}
use Rattle.qc_base.specs.declared.side.SpaceId.TheVariants.{Initial, Handshake, «Data»}
use Rattle.qc_base.specs.declared.transport_error.TransportError.{TransportError}
use Rattle.qc_crypto.specs.declared.keys.KeyPair.{KeyPair}
use Rattle.qc_crypto.specs.declared.keys.Keys.{Keys}
use Rattle.qc_rings.specs.declared.which.Which.{Which}
use Rattle.qc_rings.specs.declared.which.Which.TheVariants.{Current, Next, Previous}
use Rattle.qc_state.specs.declared.deeds.Did.{Did}
use Rattle.qc_state.specs.declared.deeds.Did.TheVariants as did
use Rattle.qc_state.specs.declared.deeds.Verdict.TheVariants as verdict
use Rattle.qc_state.specs.declared.keys.Fresh.{Fresh}
use Rattle.qc_state.specs.declared.life.Close.{Close}
use Rattle.qc_state.specs.declared.life.Close.TheVariants as close
use Rattle.qc_state.specs.declared.life.ConnectionError.{ConnectionError}
use Rattle.qc_state.specs.declared.life.ConnectionError.TheVariants as lost
use Rattle.qc_state.specs.declared.life.State.TheVariants.{Drained}
use Rattle.qc_state.specs.Keys.{NewKeys, NoKeys, HandshakeKeys, DataKeys}
use Rattle.qc_state.specs.Moves.{Move, Give, Forget, Enter, Expect, Fail, Renew, Unseal, Accept, Fix, Hear, Ack, Arm, Come, Read, Write, Ready, Token, Learn, Want, Confirm, Establish, Tell, Hand, Insert, Switch, Retire, PeerClosesToo, PeerCloses, Owe, Shut, Raise, accepts}
use Rattle.qc_state.specs.Paths.{is_blocked}
use Rattle.qc_state.specs.Progress.{ring_with, keys_behind}
use Rattle.qc_state.specs.Recovering.{loss_time}
use Rattle.qc_state.specs.Stopping.{key_limit_error, update_error, violation_at}
use Rattle.qc_state.specs.Types.{Types, Meaning}
use Rattle.qc_state.specs.Updating.{fresh_by}
use Rattle.qc_state.specs.View.{View}

-- ---- of the move alone

-- keys under which nothing was sealed yet, if there are any
abbrev pub AreUnused : {H P : Type 0} → NewKeys H P → Type 0
AreUnused NoKeys = Unit {0}
AreUnused (HandshakeKeys k) = k.sealed ≡ 0
AreUnused (DataKeys k) = k.ring.count ≡ 0

-- those that a write gives are such keys
ring_unused : {t : Types} (m : Meaning t) (keys : Keys t.H t.P) (next : Option (KeyPair t.P)) → AreUnused (ring_with m keys next)
ring_unused m keys None = tt
ring_unused m keys (Some next) = refl

pub behind_unused : {t : Types} (m : Meaning t) (highest : SpaceId) (keys : Option (Keys t.H t.P)) (session : t.S) → AreUnused (keys_behind m highest keys session)
behind_unused m highest None session = tt
behind_unused m Initial (Some k) session = refl
behind_unused m Handshake (Some k) session = ring_unused m k (m.next_keys session)
behind_unused m Data (Some k) session = tt

-- what a ring takes with it into a new epoch is there for the next keys alone
abbrev pub FreshFits : {P : Type 0} → Which → Option (Fresh P) → Type 0
FreshFits Next fresh = Unit {0}
FreshFits Current None = Unit {0}
FreshFits Current (Some fresh) = ⊥
FreshFits Previous None = Unit {0}
FreshFits Previous (Some fresh) = ⊥

-- so it is with what the session gives
pub fresh_fits : {t : Types} (m : Meaning t) (which : Which) (s : View t) → FreshFits which (fresh_by m which s)
fresh_fits m Next s = tt
fresh_fits m Current s = tt
fresh_fits m Previous s = tt

-- the moves by which this end leaves a space, sets its loss timer, or closes, whatever came
abbrev pub IsEnding : {t : Types} → Move t → Type 0
IsEnding (Forget id) = Unit {0}
IsEnding (Arm at) = Unit {0}
IsEnding (Shut time close) = Unit {0}
IsEnding (Give why) = Unit {0}
IsEnding _ = ⊥

-- the moves that a packet which came makes, whatever it holds
abbrev pub IsOfPiece : {t : Types} → Move t → Type 0
IsOfPiece (Forget id) = Unit {0}
IsOfPiece (Enter id n v) = Unit {0}
IsOfPiece Fail = Unit {0}
IsOfPiece (Renew time cid token keys) = keys.sealed ≡ 0
IsOfPiece (Unseal time n which fresh session) = FreshFits which fresh
IsOfPiece (Accept time id n e g v) = accepts v ≡ true
IsOfPiece (Fix cid) = Unit {0}
IsOfPiece (Ack id n r) = Unit {0}
IsOfPiece (Arm at) = Unit {0}
IsOfPiece (Come id offset bytes) = Unit {0}
IsOfPiece (Read id count session) = Unit {0}
IsOfPiece (Write bytes keys session) = AreUnused keys
IsOfPiece Ready = Unit {0}
IsOfPiece (Token token) = Unit {0}
IsOfPiece (Learn parameters) = Unit {0}
IsOfPiece (Want time count) = Unit {0}
IsOfPiece Confirm = Unit {0}
IsOfPiece Establish = Unit {0}
IsOfPiece (Tell d) = Unit {0}
IsOfPiece (Hand f) = Unit {0}
IsOfPiece (Insert new) = Unit {0}
IsOfPiece Switch = Unit {0}
IsOfPiece (Retire time n) = Unit {0}
IsOfPiece PeerClosesToo = Unit {0}
IsOfPiece (PeerCloses time) = Unit {0}
IsOfPiece Owe = Unit {0}
IsOfPiece (Shut time close) = Unit {0}
IsOfPiece (Raise to) = to ≡ Drained
IsOfPiece (Give why) = Unit {0}
IsOfPiece _ = ⊥

-- the moves that receiving makes
abbrev pub IsReceived : {t : Types} → Move t → Type 0
IsReceived (Expect token) = Unit {0}
IsReceived (Hear bytes) = Unit {0}
IsReceived x = IsOfPiece x

-- those of a packet among them
pub piece_received : {t : Types} (x : Move t) → IsOfPiece x → IsReceived x
piece_received (Expect token) h = tt
piece_received (Hear bytes) h = tt
piece_received _ h = h

-- and those by which this end leaves a space or closes
pub ending_piece : {t : Types} (x : Move t) → IsEnding x → IsOfPiece x
ending_piece (Forget id) h = tt
ending_piece (Arm at) h = tt
ending_piece (Shut time close) h = tt
ending_piece (Give why) h = tt
ending_piece _ h = absurd h

pub in_packet_received : {t : Types} (x : Move t) → IsEnding x → IsReceived x
in_packet_received x h = piece_received x (ending_piece x h)

-- ---- around the packets that opened

-- a deed that tells of a packet whose payload isn't read: it was ignored, its key didn't open it, its reserved bits aren't 0, it shows an
-- update that its sender wasn't allowed to make, or it lists versions without this end's
abbrev pub IsUnread : Did → Type 0
IsUnread (did.Piece space number verdict.Ignored) = Unit {0}
IsUnread (did.Piece space number verdict.Failure) = Unit {0}
IsUnread (did.Piece space number verdict.BadBits) = Unit {0}
IsUnread (did.Piece space number verdict.BadUpdate) = Unit {0}
IsUnread (did.Piece space number verdict.Versions) = Unit {0}
IsUnread _ = ⊥

-- the close by which this end closes for an error
abbrev pub close_for : TransportError → Close
close_for error = close.Connection (record { error_code = error.code; frame_type = error.frame; reason = [] })

-- the errors for which this end closes with a packet that doesn't open: its reserved bits aren't 0, or it shows an update that its sender wasn't
-- allowed to make
abbrev pub IsUnopenedError : TransportError → Type 0
IsUnopenedError error = (error ≡ violation_at None) ⊎ (error ≡ update_error)

-- the reasons for the end that such a packet gives: one of these errors, or more packets didn't open than may, or the server speaks no version
-- that this end does
abbrev pub IsUnopenedReason : ConnectionError → Type 0
IsUnopenedReason why =
    ((error : TransportError) × (why ≡ lost.TransportError error) × IsUnopenedError error) ⊎ ((why ≡ lost.TransportError key_limit_error) ⊎ (why ≡ lost.VersionMismatch))

-- the moves that a packet makes which came at this time and doesn't open: this end closes for such an error, or it is a Retry that is taken, or one
-- that lists versions; the loss timer is set to what it is to be where the move is made
abbrev pub IsUnopened : {t : Types} → (time : ℕ) → Move t → View t → Type 0
IsUnopened time Fail s = Unit {0}
IsUnopened time (Renew at cid token keys) s = (at ≡ time) × (keys.sealed ≡ 0)
IsUnopened time (PeerCloses at) s = at ≡ time
IsUnopened time (Arm at) s = at ≡ loss_time s (is_blocked s.paths) time
IsUnopened time (Raise to) s = to ≡ Drained
IsUnopened time (Tell d) s = IsUnread d
IsUnopened time (Shut at close) s = (at ≡ time) × ((error : TransportError) × (close ≡ close_for error) × IsUnopenedError error)
IsUnopened time (Give why) s = IsUnopenedReason why
IsUnopened time _ s = ⊥

-- the moves that receiving makes at this time for no packet that opened
abbrev pub IsOutside : {t : Types} → (time : ℕ) → Move t → View t → Type 0
IsOutside time (Expect token) s = Unit {0}
IsOutside time (Hear bytes) s = Unit {0}
IsOutside time x s = IsUnopened time x s

pub unopened_piece : {t : Types} (time : ℕ) (x : Move t) (s : View t) → IsUnopened time x s → IsOfPiece x
unopened_piece time Fail s h = tt
unopened_piece time (Renew at cid token keys) s h = h.1
unopened_piece time (PeerCloses at) s h = tt
unopened_piece time (Arm at) s h = tt
unopened_piece time (Raise to) s h = h
unopened_piece time (Tell d) s h = tt
unopened_piece time (Shut at close) s h = tt
unopened_piece time (Give why) s h = tt
unopened_piece time _ s h = absurd h

pub unopened_outside : {t : Types} (time : ℕ) (x : Move t) (s : View t) → IsUnopened time x s → IsOutside time x s
unopened_outside time (Expect token) s h = tt
unopened_outside time (Hear bytes) s h = tt
unopened_outside time _ s h = h

pub outside_received : {t : Types} (time : ℕ) (x : Move t) (s : View t) → IsOutside time x s → IsReceived x
outside_received time (Expect token) s h = tt
outside_received time (Hear bytes) s h = tt
outside_received time x s h = piece_received x (unopened_piece time x s h)
