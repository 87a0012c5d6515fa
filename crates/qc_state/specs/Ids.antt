-- The connection ids of both ends as a layer with steps of its own (RFC 9000, sections 5.1, 19.15 and 19.16): which of their steps a frame
-- is as it is sealed, and as its packet is lost. What a step makes of them stands with the ids, and is opened nowhere here.
use Rattle.std.specs.Prelude.{◌≡◌, ℕ, min, ◌&&◌, ◌||◌, Bool, true, false, if◌then◌else◌, List, [], ◌∷◌, ◌++◌, Option, None, Some, is_some, is_none}
use Rattle.qc_base.specs.declared.ids.IssuedCid.{IssuedCid}
use Rattle.qc_base.specs.declared.side.Side.{Side}
use Rattle.qc_base.specs.declared.side.Side.TheVariants.{Client, Server}
use Rattle.qc_base.specs.declared.side.SpaceId.{SpaceId}
use Rattle.qc_base.specs.declared.side.SpaceId.TheVariants.{«Data»}
use Rattle.qc_base.specs.declared.transport_error.TransportError.{TransportError}
use Rattle.qc_cids.specs.Cids.{limit_error, new_refusal, next_retired, next_told, retires_too_many, uses_first, violation}
use Rattle.qc_cids.specs.Steps.{Step, NewCame, Preferred, RetireLost, RetireSealed, TellLost, TellSealed, after, after_step}
use Rattle.qc_cids.specs.declared.connection_ids.ConnectionIds.{ConnectionIds}
use Rattle.qc_flight.specs.Packets.{Entry}
use Rattle.qc_flight.specs.declared.sent.SentPacket.{SentPacket}
use Rattle.qc_frame.specs.Frame.{FrameValue}
use Rattle.qc_frame.specs.declared.frames.FrameOf.TheVariants as frames
use Rattle.qc_frame.specs.declared.frames.NewConnectionId.{NewConnectionId}
use Rattle.qc_ids.specs.LocalCids.{may_retire}
use Rattle.qc_params.specs.declared.params.PreferredAddress.{PreferredAddress}
use Rattle.qc_params.specs.declared.params.TransportParameters.{TransportParameters}
use Rattle.qc_recovery.specs.declared.calls.Fired.{Fired}
use Rattle.qc_recovery.specs.declared.calls.Fired.TheVariants as fired

-- ---- sealed

-- the step with which a frame is sealed, where it is theirs
abbrev pub sealed_cid : FrameValue → List Step
sealed_cid (frames.NewConnectionId new) = TellSealed new.sequence ∷ []
sealed_cid (frames.RetireConnectionId sequence) = RetireSealed sequence ∷ []
sealed_cid _ = []

-- those of all frames of a packet, in their order
unfoldable pub sealed_cids : List FrameValue → List Step
sealed_cids [] = []
sealed_cids (f ∷ fs) = sealed_cid f ++ sealed_cids fs

-- a frame that is theirs is the one that goes next
abbrev pub IsNext : FrameValue → ConnectionIds → Type 0
IsNext (frames.NewConnectionId new) s = next_told s ≡ Some new
IsNext (frames.RetireConnectionId sequence) s = next_retired s ≡ Some sequence
IsNext _ s = Unit {0}

-- each frame of ids among others is the next one as its turn comes
unfoldable pub AllNext : List FrameValue → ConnectionIds → Type 0
AllNext [] s = Unit {0}
AllNext (f ∷ fs) s = IsNext f s × AllNext fs (after (sealed_cid f) s)

-- ---- lost

-- the id that a frame told
abbrev pub told_cid : NewConnectionId → IssuedCid
told_cid new = record { sequence = new.sequence; id = new.id; reset_token = new.reset_token }

-- the step with which a frame is lost, where it is theirs
abbrev pub lost_cid : FrameValue → List Step
lost_cid (frames.NewConnectionId new) = TellLost (told_cid new) ∷ []
lost_cid (frames.RetireConnectionId sequence) = RetireLost sequence ∷ []
lost_cid _ = []

-- Ids that the endpoint gives are told to the peer, again where their packet is lost (RFC 9000, sections 13.3 and 19.15). Those of all frames that
-- are kept of a packet, in their order
unfoldable pub lost_cids : List FrameValue → List Step
lost_cids [] = []
lost_cids (f ∷ fs) = lost_cid f ++ lost_cids fs

-- so of packets
unfoldable pub lost_ids : List Entry → List Step
lost_ids [] = []
lost_ids (e ∷ es) = lost_cids e.1.frames ++ lost_ids es

-- what the loss timer does as it fires
abbrev pub fired_ids : Fired → List Step
fired_ids (fired.Lost id lost) = lost_ids lost
fired_ids (fired.Probe id count) = []
fired_ids fired.Nothing = []

-- those with which a packet's frames wait again, where there is one
abbrev pub again_ids : Option SentPacket → List Step
again_ids None = []
again_ids (Some packet) = lost_cids packet.frames

-- ---- waiting

-- one of their frames waits in a space: they go in 1-RTT packets (RFC 9000, section 12.4)
abbrev pub ids_want : SpaceId → ConnectionIds → Bool
ids_want «Data» s = is_some (next_told s) || is_some (next_retired s)
ids_want _ s = false

-- ---- frames that come

-- the first of two errors
abbrev pub first_error : Option TransportError → Option TransportError → Option TransportError
first_error None other = other
first_error (Some error) other = Some error

-- more retirements wait than may, once a NEW_CONNECTION_ID came (RFC 9000, section 5.1.2)
abbrev pub owes_too_many : ConnectionIds → Option TransportError
owes_too_many s = if retires_too_many s then Some limit_error else None

-- the error with which a NEW_CONNECTION_ID stops its packet, if it does: it is refused as it comes, or too many retirements wait once it came
unfoldable pub insert_stop : NewConnectionId → ConnectionIds → Option TransportError
insert_stop new s = first_error (new_refusal new s.remote) (owes_too_many (after_step (NewCame new) s))

-- whether an end of this side is a server
abbrev pub is_server : Side → Bool
is_server Client = false
is_server Server = true

-- with a NEW_CONNECTION_ID that it keeps a server gives up the id of its client's first packets, where that is in use still, and takes the
-- next one
unfoldable pub switches_for : Side → NewConnectionId → ConnectionIds → Bool
switches_for side new s = is_none (new_refusal new s.remote) && (is_server side && uses_first (after_step (NewCame new) s))

-- ---- the peer's parameters

-- the NEW_CONNECTION_ID that a preferred address stands for: its id has number 1 (RFC 9000, section 18.2)
abbrev pub preferred_cid : PreferredAddress → NewConnectionId
preferred_cid p = record { sequence = 1; retire_prior_to = 0; id = p.id; reset_token = p.reset_token }

-- the step that an address is which the peer prefers, where it named one
abbrev pub preferred_steps : Option PreferredAddress → List Step
preferred_steps None = []
preferred_steps (Some address) = Preferred (preferred_cid address) ∷ []

-- the step that the peer's parameters are: a server may name such an address, with an id; a client may not
abbrev pub learned_cids : TransportParameters → List Step
learned_cids p = preferred_steps p.preferred_address

-- how many ids of this end the peer lets be active at a time, of 8 that are issued at most: 2 until its parameters were read (RFC 9000,
-- section 18.2)
abbrev pub active_limit : Option TransportParameters → ℕ
active_limit None = 2
active_limit (Some p) = min p.active_connection_id_limit 8

-- the error with which a RETIRE_CONNECTION_ID stops its packet, if it does: this end's ids are empty, or it issued none with that number
-- (RFC 9000, section 19.16)
unfoldable pub retire_stop : (sequence : ℕ) → ConnectionIds → Option TransportError
retire_stop n s = if may_retire n s.local then None else Some violation
