-- The life of a connection, the reason of its end, and what waits to be reported (RFC 9000, section 10).
use Rattle.std.specs.declared.net.SocketAddr.{SocketAddr}
use Rattle.std.specs.Prelude.{ℕ, Bool, true, false, ◌||◌, ◌==◌, if◌then◌else◌, List, [], ◌∷◌, ◌++◌, drop, slice_get, Option, Some, None, is_none, option_map}
use Rattle.qc_state.specs.declared.life.State.{State}
use Rattle.qc_state.specs.declared.life.State.TheVariants.{Handshake, Established, Closed, Draining, Drained}
use Rattle.qc_state.specs.declared.life.ConnectionError.{ConnectionError}
use Rattle.qc_state.specs.declared.life.Close.{Close}
use Rattle.qc_state.specs.declared.life.Life.{Life}
use Rattle.qc_state.specs.declared.events.Event.{Event}
use Rattle.qc_state.specs.declared.events.Event.TheVariants.{HandshakeDataReady, Connected, ConnectionLost, DatagramReceived}
use Rattle.qc_state.specs.declared.events.EndpointEvent.{EndpointEvent}
use Rattle.qc_state.specs.declared.events.EndpointEvent.TheVariants as endpoint

-- the order in which a life can pass
abbrev pub rank_of : State → ℕ
rank_of Handshake = 0
rank_of Established = 1
rank_of Closed = 2
rank_of Draining = 3
rank_of Drained = 4

-- neither end has closed
abbrev pub is_open : State → Bool
is_open Handshake = true
is_open Established = true
is_open _ = false

-- this end has closed, and the peer has not
abbrev pub is_closed : State → Bool
is_closed Closed = true
is_closed _ = false

-- the handshake isn't over
abbrev pub is_handshake : State → Bool
is_handshake Handshake = true
is_handshake _ = false

-- the handshake is over, and neither end has closed
abbrev pub is_established : State → Bool
is_established Established = true
is_established _ = false

-- the connection drains, or has ended: nothing that comes counts any more
abbrev pub is_over : State → Bool
is_over Draining = true
is_over Drained = true
is_over _ = false

-- the life has come to its end
abbrev pub is_drained : State → Bool
is_drained Drained = true
is_drained _ = false

-- a reason for the end is given, and waits to be reported, unless one was given before: the first one stays
unfoldable pub reason_given : Life → ConnectionError → Life
reason_given v why = if is_none v.reason then record v { reason = Some why; lost = Some why } else v

-- The life never falls, and one reason is given (RFC 9000, section 10). The life rises; at its end, that waits to be reported
unfoldable pub life_raised : Life → State → Life
life_raised v to = record v { state = to; drained = v.drained || (rank_of to == 4) }

-- this end closes
unfoldable pub life_closed : Life → Close → Life
life_closed v close = record v { state = Closed; close = Some close }

-- the peer closed
unfoldable pub life_drained : Life → Life
life_drained v = record v { state = Draining }

-- the handshake is over, which waits to be reported
unfoldable pub life_established : Life → Life
life_established v = record v { state = Established; connected = true }

-- what the handshake settles is ready, which waits to be reported
unfoldable pub data_ready : Life → Life
data_ready v = record v { ready = true }

-- an event, while its report waits
abbrev pub event_if : Bool → Event → Option Event
event_if waits event = if waits then Some event else None

-- that the handshake's data is ready, while its report waits
unfoldable pub ready_event : Life → Option Event
ready_event v = event_if v.ready HandshakeDataReady

-- it was reported
unfoldable pub ready_reported : Life → Life
ready_reported v = record v { ready = false }

-- that the handshake is over, while its report waits
unfoldable pub connected_event : Life → Option Event
connected_event v = event_if v.connected Connected

-- it was reported
unfoldable pub connected_reported : Life → Life
connected_reported v = record v { connected = false }

-- that a datagram came is to be reported, behind what waits of datagrams
unfoldable pub datagram_heard : Bool → Life → Life
datagram_heard tells v = if tells then record v { heard = v.heard ++ DatagramReceived ∷ [] } else v

-- these events of datagrams are to be reported, behind what waits of datagrams
abbrev pub more_heard : List Event → Life → Life
more_heard events v = record v { heard = v.heard ++ events }

-- the first that waits of datagrams was reported
unfoldable pub heard_reported : Life → Life
heard_reported v = record v { heard = drop 1 v.heard }

-- all that waited of datagrams was reported
unfoldable pub all_heard_reported : Life → Life
all_heard_reported v = record v { heard = [] }

-- the reason, while its report waits
unfoldable pub lost_event : Life → Option Event
lost_event v = option_map ConnectionLost v.lost

-- the reason was reported
unfoldable pub lost_reported : Life → Life
lost_reported v = record v { lost = None }

-- the peer's token for a stateless reset, which comes from this address, waits to be reported behind what waits
unfoldable pub token_learned : Life → SocketAddr → List ℕ → Life
token_learned v remote token = record v { notices = v.notices ++ endpoint.ResetToken remote token ∷ [] }

-- a token that came with another id of the peer waits to be reported too, where one did
abbrev pub token_told : Life → SocketAddr → Option (List ℕ) → Life
token_told v remote None = v
token_told v remote (Some token) = token_learned v remote token

-- the peer retired the id with a number at this time, which waits to be reported behind what waits; `more` says that one more is wanted
unfoldable pub retirement_told : Life → (time sequence : ℕ) → (more : Bool) → Life
retirement_told v time sequence more = record v { notices = v.notices ++ endpoint.RetireConnectionId time sequence more ∷ [] }

-- so many identifiers are wanted at this time, which waits to be reported behind what waits
unfoldable pub identifiers_wanted : Life → (time count : ℕ) → Life
identifiers_wanted v time count = record v { notices = v.notices ++ endpoint.NeedIdentifiers time count ∷ [] }

-- the first that waits for the endpoint before the end
abbrev pub first_notice : Life → Option EndpointEvent
first_notice v = slice_get v.notices 0

-- it was reported
unfoldable pub notice_reported : Life → Life
notice_reported v = record v { notices = drop 1 v.notices }

-- all that waited before the end was reported
unfoldable pub notices_reported : Life → Life
notices_reported v = record v { notices = [] }

-- the end, while its report waits
unfoldable pub drained_event : Life → Option EndpointEvent
drained_event v = if v.drained then Some endpoint.Drained else None

-- the end was reported
unfoldable pub drained_reported : Life → Life
drained_reported v = record v { drained = false }
