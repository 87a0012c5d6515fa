-- When the loss timer stands (RFC 9002, section 6.2 and appendix A.8), in terms of the packets in flight and of what was sent
use Rattle.std.specs.Prelude.{◌==◌, Bool, not, ◌&&◌, ◌||◌, if◌then◌else◌, List, [], ◌∷◌, is_some}
use Rattle.std.specs.List.{list_any}
use Rattle.qc_base.specs.declared.side.SpaceId.{SpaceId}
use Rattle.qc_base.specs.declared.side.SpaceId.TheVariants.{Initial, Handshake, Data}
use Rattle.qc_recovery.specs.Losses.{rank}
use Rattle.qc_recovery.specs.Runs.{Acknowledge, Call, Discard, Fire, Send}
use Rattle.qc_recovery.specs.Steps.{has_eliciting, is_handshake}
use Rattle.qc_recovery.specs.declared.calls.Around.{Around}
use Rattle.qc_recovery.specs.declared.recovery.Recovery.{Recovery}
use Rattle.qc_recovery.specs.declared.space.SpaceRecovery.{SpaceRecovery}

module _ {C : Type 0} where
  -- a packet that elicits an ACK was sent in a space since it began or was dropped
  unfoldable pub asked_after : SpaceId → Call C → Bool → Bool
  asked_after id (Send space number packet) asked = ((rank space == rank id) && packet.ack_eliciting) || asked
  asked_after id (Acknowledge now space next began ack ranges around path) asked = asked
  asked_after id (Fire now around path) asked = asked
  asked_after id (Discard space) asked = not (rank space == rank id) && asked

  -- the same of several calls
  abbrev pub all_asked : SpaceId → List (Call C) → Bool → Bool
  all_asked id [] asked = asked
  all_asked id (c ∷ cs) asked = all_asked id cs (asked_after id c asked)

-- a space waits for an acknowledgement: a packet that counts is in flight, and one that elicits an ACK was sent
abbrev pub awaits : Bool → SpaceRecovery → Bool
awaits asked s = list_any (λ e. e.1.counted) s.flight && asked

-- a packet in flight elicits an ACK
abbrev pub elicits_any : Recovery → Bool
elicits_any r = has_eliciting r.initial.flight || (has_eliciting r.handshake.flight || has_eliciting r.application.flight)

-- a packet in flight may be lost for its age, at a time that is known
abbrev pub may_be_lost : Recovery → Bool
may_be_lost r = is_some r.initial.loss_time || (is_some r.handshake.loss_time || is_some r.application.loss_time)

-- there are keys of the space in which an end probes that has nothing in flight (RFC 9002, section 6.2.2.1)
abbrev pub can_probe : Around → Bool
can_probe around = if is_handshake around.highest then around.handshake_keys else around.initial_keys

-- The timer stands where a packet may be lost for its age. Else it stands unless sending is blocked: where a packet in flight
-- elicits an ACK, for a space that waits for one, Data only after the handshake; and where none does, for an end whose
-- address the peer may not have validated.
unfoldable pub stands : Around → (SpaceId → Bool) → Recovery → Bool
stands around asked r =
    may_be_lost r
    || (not around.blocked
    && (if elicits_any r
    then awaits (asked Initial) r.initial || (awaits (asked Handshake) r.handshake || (around.handshake_over && awaits (asked Data) r.application))
    else not around.peer_validated && can_probe around))
