-- What waits in a space, over all layers: frames that the waiting group keeps, and those that a layer below offers in its own words: the
-- streams, the datagrams of the application, and the connection ids.
use Rattle.std.specs.Prelude.{ℕ, ◌+◌, ◌-◌, Bool, false, ◌||◌, ◌&&◌, not, ◌==◌, if◌then◌else◌, List, [], ◌++◌, length, Option, None, Some, is_some}
use Rattle.qc_cids.specs.Cids.{next_retired, next_told}
use Rattle.qc_cids.specs.declared.connection_ids.ConnectionIds.{ConnectionIds}
use Rattle.qc_base.specs.PacketNumber.{number_len, number_of}
use Rattle.qc_cids.specs.Steps as ids
use Rattle.qc_base.specs.declared.side.SpaceId.{SpaceId}
use Rattle.qc_flight.specs.Packets.{first_of}
use Rattle.qc_flight.specs.declared.sent.SentPacket.{SentPacket}
use Rattle.qc_recovery.specs.Steps as recovery
use Rattle.qc_base.specs.declared.side.SpaceId.TheVariants.{Initial, Handshake, «Data»}
use Rattle.qc_state.specs.Acks.{is_ack_owed}
use Rattle.qc_state.specs.Datagrams.{first_fits}
use Rattle.qc_state.specs.Ids.{again_ids, ids_want, lost_cids}
use Rattle.qc_state.specs.Lower.{ids_stepped, streams_stepped}
use Rattle.qc_state.specs.Numbers.{acked_number, coming_number}
use Rattle.qc_state.specs.Paths.{most_on}
use Rattle.qc_state.specs.StreamFrames.{filed_steps, packet_lost}
use Rattle.qc_streams.specs.Control.{next_control}
use Rattle.qc_streams.specs.Pending.{bytes_wait, has_control, has_waiting}
use Rattle.qc_streams.specs.Waits.{Step}
use Rattle.qc_streams.specs.declared.state.StreamsState.{StreamsState}
use Rattle.qc_state.specs.Spaces.{is_space, space_of}
use Rattle.qc_state.specs.declared.transmit.TheConstants.{SPARE_ROOM}
use Rattle.qc_state.specs.declared.waiting.SpaceWaiting.{SpaceWaiting}
use Rattle.qc_turns.specs.Ready.{next_turn}
use Rattle.qc_state.specs.Types.{Types}
use Rattle.qc_state.specs.View.{View}
use Rattle.qc_state.specs.Waiting.{frames_again, ping_asked, probe_spent, wants_here}

-- the steps with which a packet's frames of streams wait again, where there is one
abbrev pub again_steps : Option SentPacket → List Step
again_steps None = []
again_steps (Some packet) = packet_lost packet

-- the streams want to send in a space: a STREAM frame waits, or one of theirs without bytes
abbrev pub streams_want : SpaceId → StreamsState → Bool
streams_want «Data» s = has_waiting s || has_control s
streams_want _ s = false

-- of a stream whose turn it is bytes wait, or its end
abbrev pub turn_waits : Option ℕ → StreamsState → Bool
turn_waits None s = false
turn_waits (Some id) s = bytes_wait s id

-- The streams have a frame for a packet with room: one without bytes, or one with bytes of the stream whose turn it is, or its end. Behind
-- `file_marks` that is so where one waits at all, whatever happened to the streams (`what_waits_is_drawn`, `control_that_waits_is_drawn`).
abbrev pub streams_offer : StreamsState → Bool
streams_offer s = is_some (next_control SPARE_ROOM s) || turn_waits (next_turn s.waiting.ready) s

-- the connection ids have one
abbrev pub ids_offer : ConnectionIds → Bool
ids_offer s = is_some (next_told s) || is_some (next_retired s)

-- a NEW_TOKEN waits
abbrev pub tokens_wait : SpaceWaiting → Bool
tokens_wait w = not (w.tokens == 0)

-- one waits in a space: they go in 1-RTT packets (RFC 9000, section 12.4)
abbrev pub tokens_want : SpaceId → SpaceWaiting → Bool
tokens_want «Data» w = tokens_wait w
tokens_want _ w = false

-- there is a frame that elicits an acknowledgement for a packet with room, DATAGRAMs aside: one that waits here, or in a packet of 1-RTT one of
-- the streams or of the connection ids, or a NEW_TOKEN
abbrev pub offers_here : (in_data : Bool) → SpaceWaiting → StreamsState → ConnectionIds → Bool
offers_here in_data w streams ids = wants_here w || (in_data && (streams_offer streams || (ids_offer ids || tokens_wait w)))

module _ {t : Types} where
  -- so it is in a space
  unfoldable pub offers_in : View t → SpaceId → Bool
  offers_in s id = offers_here (is_space id «Data») (space_of s.waiting.spaces id) s.lower.streams s.lower.ids

  -- a frame waits in the space that elicits an acknowledgement, DATAGRAMs aside: one of its own, or one of the streams or of the connection
  -- ids, or a NEW_TOKEN, all of which go in 1-RTT packets
  unfoldable pub wants_sending : View t → SpaceId → Bool
  wants_sending s id = wants_here (space_of s.waiting.spaces id) || (streams_want id s.lower.streams || (ids_want id s.lower.ids || tokens_want id (space_of s.waiting.spaces id)))

  -- how many bytes a datagram to the path in use may have
  abbrev pub path_size : View t → ℕ
  path_size s = most_on s.paths.current

  -- how much room for frames a 1-RTT packet of so many bytes has, behind its header with the number that comes next, and before its tag of
  -- 16 bytes (RFC 9000, section 17.3.1)
  unfoldable pub short_room : (left : ℕ) → View t → ℕ
  short_room left s = left - 16 - (1 + length s.paths.current.remote_cid + number_len (number_of (coming_number s.numbers «Data») (acked_number s.numbers «Data»)))

  -- the first DATAGRAM that waits has so much room in a packet of the space: they go in 1-RTT packets
  abbrev pub datagram_fits : SpaceId → (room : ℕ) → View t → Bool
  datagram_fits Initial room s = false
  datagram_fits Handshake room s = false
  datagram_fits Data room s = first_fits room s.lower.datagrams.outgoing

  -- a DATAGRAM waits in the space: the first one fits alone into a datagram of the path
  unfoldable pub datagram_waits : SpaceId → View t → Bool
  datagram_waits id s = datagram_fits id (short_room (path_size s) s) s

  -- something waits there: such a frame, a DATAGRAM, an ACK that is owed, or a probe that is due
  unfoldable pub waits_in : View t → SpaceId → Bool
  waits_in s id = wants_sending s id || datagram_waits id s || is_ack_owed (space_of s.waiting.spaces id).acks || not ((space_of s.waiting.spaces id).probes == 0)

  -- the oldest packet of the space that is in flight
  abbrev pub oldest_in : View t → SpaceId → Option SentPacket
  oldest_in s id = first_of (recovery.space_of id s.lower.recovery).flight

  -- the frames of a packet wait again in its space, where there is one
  abbrev pub packet_again : SpaceId → Option SentPacket → View t → View t
  packet_again id None s = s
  packet_again id (Some packet) s = record s { waiting = frames_again s.waiting id packet.frames; lower = ids_stepped (lost_cids packet.frames) (streams_stepped (packet_lost packet) s.lower) }

  -- a PING waits where no frame does that elicits an acknowledgement, DATAGRAMs aside
  unfoldable pub with_ping : SpaceId → View t → View t
  with_ping id s = if wants_sending s id then s else record s { waiting = ping_asked s.waiting id }

  -- A probe is sent: where no frame waits that elicits an acknowledgement, DATAGRAMs aside, those of the oldest packet in flight wait again,
  -- and where it has none, a PING does (RFC 9002, section 6.2.4).
  unfoldable pub probe_sent : SpaceId → View t → View t
  probe_sent id s = with_ping id (if wants_sending s id then s else packet_again id (oldest_in s id) s)

  -- where a probe is due in the space of a packet that is begun, its frames wait from now on; a datagram that the packet opens spends it
  unfoldable pub probe_begun : SpaceId → (opens : Bool) → View t → View t
  probe_begun id opens s =
      if (space_of s.waiting.spaces id).probes == 0 then s
      else probe_sent id (if opens then record s { waiting = probe_spent s.waiting id } else s)

  -- the steps of the streams as frames wait again for a probe: those with which the oldest packet in flight is lost, where no frame waits
  -- that elicits an acknowledgement
  unfoldable pub probe_steps : SpaceId → View t → List Step
  probe_steps id s = if wants_sending s id then [] else again_steps (oldest_in s id)

  -- those with which a packet is begun
  unfoldable pub begun_steps : SpaceId → (opens : Bool) → View t → List Step
  begun_steps id opens s =
      (if (space_of s.waiting.spaces id).probes == 0 then [] else probe_steps id (if opens then record s { waiting = probe_spent s.waiting id } else s)) ++ filed_steps id

  -- the same of the ids
  unfoldable pub probe_ids : SpaceId → View t → List ids.Step
  probe_ids id s = if wants_sending s id then [] else again_ids (oldest_in s id)

  unfoldable pub begun_ids : SpaceId → (opens : Bool) → View t → List ids.Step
  begun_ids id opens s = if (space_of s.waiting.spaces id).probes == 0 then [] else probe_ids id (if opens then record s { waiting = probe_spent s.waiting id } else s)

  -- streams that may owe something are looked at, as a packet of 1-RTT is begun
  unfoldable pub streams_filed : SpaceId → View t → View t
  streams_filed id s = record s { lower = streams_stepped (filed_steps id) s.lower }

  -- a packet is begun in the space
  unfoldable pub packet_begun : SpaceId → (opens : Bool) → View t → View t
  packet_begun id opens s = streams_filed id (probe_begun id opens s)
