-- The layers below: the session, the bytes of the three CRYPTO streams that came and weren't given to it (RFC 9000, section 19.6;
-- RFC 9001, section 4), and what loss recovery keeps of the packets (RFC 9002; of the path it is Paths'), the streams and datagrams of the application, and the connection ids of both ends. Each changes by its own steps alone.
use Rattle.std.specs.Prelude.{ℕ, suc, ◌==◌, if◌then◌else◌, List, [], ◌∷◌, length, Option, None, Some}
use Rattle.qc_assembler.specs.Assembly.{Assembly, advanced, inserted}
use Rattle.qc_base.specs.declared.side.SpaceId.{SpaceId}
use Rattle.qc_state.specs.declared.lower.Lower.{Lower}
use Rattle.qc_flight.specs.declared.sent.SentPacket.{SentPacket}
use Rattle.qc_recovery.specs.Calls.{dropped_after}
use Rattle.qc_recovery.specs.Steps.{After, FiredAfter, sent_after}
use Rattle.qc_frame.specs.Frame.{FrameValue}
use Rattle.qc_params.specs.declared.params.TransportParameters.{TransportParameters}
use Rattle.qc_streams.specs.Waits.{Step, Closed, LimitsKnown, after}
use Rattle.qc_state.specs.Spaces.{space_of, with_space}
use Rattle.qc_base.specs.declared.transport_error.TransportError.{TransportError}
use Rattle.qc_cids.specs.Steps as ids
use Rattle.qc_datagrams.specs.Steps as datagrams
use Rattle.qc_state.specs.Datagrams.{datagram_steps, datagram_stop, sealed_datagrams}
use Rattle.qc_state.specs.Ids.{learned_cids, sealed_cids}
use Rattle.qc_state.specs.StreamFrames.{sealed_steps}
use Rattle.qc_state.specs.Streams.{events_of, limits_of, steps_of_frame, streams_stop, asked_for}

-- the bytes at the front of those that came, up to the first that is missing; the first one is wanted at o
abbrev pub front_run : ℕ → List (ℕ × ℕ) → List ℕ
front_run o [] = []
front_run o (x ∷ xs) = if x.0 == o then x.1 ∷ front_run (suc o) xs else []

-- the bytes that can be read in order
unfoldable pub ready_bytes : Assembly → List ℕ
ready_bytes a = front_run a.read a.came

-- the first of two errors
abbrev pub first_of : Option TransportError → Option TransportError → Option TransportError
first_of None other = other
first_of (Some error) other = Some error

module _ {S : Type 0} where
  -- what came of the space's CRYPTO stream
  unfoldable pub stream_of : Lower S → SpaceId → Assembly
  stream_of l id = space_of l.crypto id

  -- bytes of the space's CRYPTO stream came
  unfoldable pub bytes_came : Lower S → SpaceId → (offset : ℕ) → List ℕ → Lower S
  bytes_came l id offset bytes = record l { crypto = with_space l.crypto id (inserted offset bytes (space_of l.crypto id)) }

  -- so many of them were given to the session, which is this one afterwards
  unfoldable pub session_read : Lower S → SpaceId → (count : ℕ) → S → Lower S
  session_read l id count session = record l { session = session; crypto = with_space l.crypto id (advanced count (space_of l.crypto id)) }

  -- the session wrote, and is this one afterwards
  unfoldable pub session_wrote : Lower S → S → Lower S
  session_wrote l session = record l { session = session }

  -- it was asked for keys of a further epoch, or wasn't, and is this one afterwards (RFC 9001, section 6.1)
  abbrev pub session_asked : Lower S → S → Lower S
  session_asked l session = record l { session = session }

  -- a packet of the space is in flight from now on
  unfoldable pub packet_flown : Lower S → SpaceId → (number : ℕ) → SentPacket → Lower S
  packet_flown l id number packet = record l { recovery = sent_after id number packet l.recovery }

  -- what an acknowledgement leaves of the packets
  unfoldable pub packets_settled : {C : Type 0} → Lower S → After C → Lower S
  packets_settled l after = record l { recovery = after.recovery }

  -- what the loss timer leaves of them
  unfoldable pub timer_fired : {C : Type 0} → Lower S → FiredAfter C → Lower S
  timer_fired l after = record l { recovery = after.recovery }

  -- the keys of the space were dropped: none of its packets is in flight (RFC 9002, section 6.4)
  unfoldable pub flight_dropped : Lower S → SpaceId → Lower S
  flight_dropped l id = record l { recovery = dropped_after id l.recovery }

  -- the streams made these steps of their own
  unfoldable pub streams_stepped : List Step → Lower S → Lower S
  streams_stepped xs l = record l { streams = after xs l.streams }

  -- the datagrams of the application made these steps of their own
  unfoldable pub datagrams_stepped : List datagrams.Step → Lower S → Lower S
  datagrams_stepped xs l = record l { datagrams = datagrams.after xs l.datagrams }

  -- the connection ids of both ends made these steps of their own
  unfoldable pub ids_stepped : List ids.Step → Lower S → Lower S
  ids_stepped xs l = record l { ids = ids.after xs l.ids }

  -- frames were sealed, each a step of that layer whose frame it is
  unfoldable pub frames_sealed : List FrameValue → Lower S → Lower S
  frames_sealed fs l = ids_stepped (sealed_cids fs) (datagrams_stepped (sealed_datagrams fs) (streams_stepped (sealed_steps fs) l))

  -- streams and datagrams were handed a frame, which that layer whose frame it is may refuse
  unfoldable pub frame_handed : FrameValue → Lower S → Lower S
  frame_handed frame l = datagrams_stepped (datagram_steps frame) (streams_stepped (steps_of_frame frame l.streams) l)

  -- the error with which it is refused, if it is
  unfoldable pub handed_stop : FrameValue → Lower S → Option TransportError
  handed_stop frame l = first_of (streams_stop frame l.streams) (datagram_stop frame l.datagrams)

  -- the peer's limits are known, and the id that it named with an address, if it did
  unfoldable pub limits_learned : TransportParameters → Lower S → Lower S
  limits_learned parameters l = ids_stepped (learned_cids parameters) (streams_stepped (LimitsKnown (limits_of parameters) ∷ []) l)

  -- the connection isn't open any more
  unfoldable pub streams_closed : Lower S → Lower S
  streams_closed l = streams_stepped (Closed ∷ []) l

  -- they were asked for an event
  unfoldable pub event_told : Lower S → Lower S
  event_told l = streams_stepped (asked_for 1) l

  -- all that wait were told
  unfoldable pub events_told : Lower S → Lower S
  events_told l = streams_stepped (asked_for (length (events_of l.streams))) l
