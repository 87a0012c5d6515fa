-- The events that wait, and those that are asked for one by one.
use Rattle.std.specs.Prelude.{if◌then◌else◌, List, [], ◌∷◌, ◌++◌, map, slice_get, Option, None, Some, option_to_list}
use Rattle.qc_state.specs.declared.events.Event.{Event}
use Rattle.qc_state.specs.declared.events.Event.TheVariants.{Stream}
use Rattle.qc_state.specs.declared.events.EndpointEvent.{EndpointEvent}
use Rattle.qc_state.specs.Life.{connected_event, drained_event, lost_event, ready_event}
use Rattle.qc_state.specs.Moves.{ReportReady, ReportConnected, ReportHeard, ReportStream, ReportLost, ReportNotice, ReportDrained, state_move}
use Rattle.qc_state.specs.Streams.{events_of}
use Rattle.qc_state.specs.Types.{Types}
use Rattle.qc_state.specs.View.{View}
use Rattle.qc_streams.specs.Owed.{next_event}
use Rattle.qc_streams.specs.declared.events.StreamEvent.{StreamEvent}

-- the first event of datagrams, or what comes where none waits
abbrev pub heard_first : List Event → Option Event → Option Event
heard_first [] next = next
heard_first (event ∷ events) next = Some event

-- the first event of the streams, or the reason of the end where none waits
abbrev pub stream_first : Option StreamEvent → Option Event → Option Event
stream_first None lost = lost
stream_first (Some event) lost = Some (Stream event)

module _ {t : Types} where
  -- What came to pass is told, and once (RFC 9000, section 10). The events that wait for the application, in their order: those of the handshake,
  -- those of datagrams, those of streams, and the reason of the end last
  unfoldable pub waiting_events : View t → List Event
  waiting_events s =
      option_to_list (ready_event s.life)
      ++ (option_to_list (connected_event s.life) ++ (s.life.heard ++ (map Stream (events_of s.lower.streams) ++ option_to_list (lost_event s.life))))

  -- the events that wait for the endpoint, in the order of their causes, the end last
  unfoldable pub endpoint_events : View t → List EndpointEvent
  endpoint_events s = s.life.notices ++ option_to_list (drained_event s.life)

  -- the first event that waits for the application, if one does
  unfoldable pub first_event : View t → Option Event
  first_event s =
      if s.life.ready then ready_event s.life else if s.life.connected then connected_event s.life else heard_first s.life.heard (stream_first (next_event s.lower.streams) (lost_event s.life))

  -- the streams were asked for an event, and where they had none, the reason of the end was reported
  abbrev pub stream_polled : Option StreamEvent → View t → View t
  stream_polled None s = state_move ReportLost (state_move ReportStream s)
  stream_polled (Some event) s = state_move ReportStream s

  -- an event of datagrams was reported, or the streams were asked
  abbrev pub heard_polled : List Event → View t → View t
  heard_polled [] s = stream_polled (next_event s.lower.streams) s
  heard_polled (event ∷ events) s = state_move ReportHeard s

  -- it was reported
  unfoldable pub polled : View t → View t
  polled s =
      if s.life.ready then state_move ReportReady s
      else if s.life.connected then state_move ReportConnected s
      else heard_polled s.life.heard s

  -- the first event that waits for the endpoint, if one does
  unfoldable pub first_endpoint_event : View t → Option EndpointEvent
  first_endpoint_event s = slice_get (endpoint_events s) 0

  -- it was reported: one of those before the end, where one waits, and else the end
  abbrev pub reported_of : List EndpointEvent → View t → View t
  reported_of [] s = state_move ReportDrained s
  reported_of (e ∷ es) s = state_move ReportNotice s

  unfoldable pub polled_endpoint : View t → View t
  polled_endpoint s = reported_of s.life.notices s
