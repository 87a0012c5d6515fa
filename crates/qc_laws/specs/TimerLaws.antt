-- Laws over whole runs, said of the loss timer (RFC 9002, section 6.2).
use Rattle.std.specs.Prelude.{◌≡◌, ◌==◌, ◌&&◌, ◌||◌, not, Bool, true, false, if◌then◌else◌, List, [], ◌∷◌, is_some}
use Rattle.std.specs.List.{list_any}
use Rattle.qc_base.specs.declared.side.SpaceId.{SpaceId}
use Rattle.qc_base.specs.declared.side.SpaceId.TheVariants.{Initial, Handshake, «Data»}
use Rattle.qc_flight.specs.Packets.{Entry}
use Rattle.qc_recovery.specs.Steps.{has_eliciting}
use Rattle.qc_recovery.specs.Steps as recovery
use Rattle.qc_recovery.specs.declared.space.SpaceRecovery.{SpaceRecovery}
use Rattle.qc_state.specs.declared.deeds.Did.{Did}
use Rattle.qc_state.specs.declared.deeds.Did.TheVariants as did
use Rattle.qc_state.specs.Flight.{counts_in_flight}
use Rattle.qc_state.specs.Keys.{has_keys}
use Rattle.qc_state.specs.Life.{is_established, is_open}
use Rattle.qc_state.specs.Paths.{is_blocked}
use Rattle.qc_state.specs.Receiving.{is_below}
use Rattle.qc_state.specs.Recovering.{is_validated_by_peer}
use Rattle.qc_state.specs.Types.{Types}
use Rattle.qc_state.specs.View.{View}

-- whether a packet that counts as in flight was sealed since the handshake was over, behind these deeds: such a packet sets the timer anew
abbrev pub sealed_since : Bool → List Did → Bool
sealed_since since [] = since
sealed_since since (did.Sealed space number epoch early fs ∷ ds) = sealed_since (since || counts_in_flight fs) ds
sealed_since since (did.Rose life ∷ ds) = sealed_since (if life == 1 then false else since) ds
sealed_since since (_ ∷ ds) = sealed_since since ds

-- a packet elicits an acknowledgement, and doesn't count as in flight
abbrev pub is_uncounted : Entry → Bool
is_uncounted e = e.1.ack_eliciting && not e.1.counted

-- Of a space: each packet in flight that elicits an acknowledgement counts as in flight, and where there is one, it is known when the
-- last one was sent.
pub record FlightHolds (s : SpaceRecovery) : Type 0 where
  pub counts : list_any is_uncounted s.flight ≡ false
  pub asked : has_eliciting s.flight ≡ true → is_some s.eliciting_at ≡ true

module _ {t : Types} where
  -- Of a space: its packets in flight are as above; where one that elicits an acknowledgement was sent, and the keys weren't dropped since,
  -- it has keys; and where it has keys, the highest space lies no lower.
  pub record SpaceHolds (s : View t) (id : SpaceId) : Type 0 where
    pub flight : FlightHolds (recovery.space_of id s.lower.recovery)
    pub keyed : is_some (recovery.space_of id s.lower.recovery).eliciting_at ≡ true → has_keys s.keys id ≡ true
    pub below : has_keys s.keys id ≡ true → is_below s.keys.highest id ≡ false

  -- a packet of the space is in flight that elicits an acknowledgement
  unfoldable pub elicits_in : View t → SpaceId → Bool
  elicits_in s id = has_eliciting (recovery.space_of id s.lower.recovery).flight

  -- An acknowledgement is waited for: of a packet of the Initial or the Handshake space; or of one of Data, where the handshake is over,
  -- since before that the peer may not be able to acknowledge it (RFC 9002, section 6.2.1), and one that counts was sealed since.
  unfoldable pub awaits_ack : (since : Bool) → View t → Bool
  awaits_ack since s = elicits_in s Initial || (elicits_in s Handshake || ((since && is_established s.life.state) && elicits_in s «Data»))

  -- a packet that elicits an acknowledgement was sent in the space, whose keys weren't dropped since
  unfoldable pub has_asked : View t → SpaceId → Bool
  has_asked s id = is_some (recovery.space_of id s.lower.recovery).eliciting_at

  -- there are keys of the space in which an end probes that has nothing in flight
  unfoldable pub has_probe_keys : View t → Bool
  has_probe_keys s = if recovery.is_handshake s.keys.highest then has_keys s.keys Handshake else has_keys s.keys Initial

  -- A client asked for an acknowledgement before it had 1-RTT keys, and doesn't know that the server has validated its address: so it has
  -- to probe even with nothing in flight, lest the server may not send (RFC 9002, section 6.2.2.1).
  unfoldable pub must_probe : View t → Bool
  must_probe s = not (is_validated_by_peer s false) && (has_probe_keys s && ((has_asked s Initial || has_asked s Handshake) && not (has_asked s «Data»)))

  -- While a connection is open, the loss timer stands where an acknowledgement is waited for, or a client has to probe, unless no datagram
  -- may be begun, with which the timer could probe (RFC 9002, section 6.2.2.1; RFC 9000, section 8.1). So no packet that elicits an
  -- acknowledgement is waited for in vain, and the two ends don't wait for each other.
  pub record TimerHolds (since : Bool) (s : View t) : Type 0 where
    pub stands : is_open s.life.state ≡ true → is_blocked s.paths ≡ false → (awaits_ack since s || must_probe s) ≡ true → is_some s.timers.loss_detection ≡ true
    pub spaces : (id : SpaceId) → SpaceHolds s id

  -- from one view to another, between which these deeds were done, that holds on
  pub record KeepsTimer (ds : List Did) (s s' : View t) : Type 0 where
    pub timer : (since : Bool) → TimerHolds since s → TimerHolds (sealed_since since ds) s'
