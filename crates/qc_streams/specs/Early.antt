-- Early data that the server refuses: all streams are as new (RFC 9001, section 4.6.2)
use Rattle.std.specs.Prelude.{false, []}
use Rattle.qc_streams.specs.declared.counts.PeerStreams.{PeerStreams}
use Rattle.qc_streams.specs.declared.credit.Incoming.{Incoming}
use Rattle.qc_streams.specs.declared.state.StreamsState.{StreamsState}
use Rattle.qc_streams.specs.Counts.{owes_places}
use Rattle.qc_streams.specs.Credit.{incoming_owes, new_outgoing}
use Rattle.qc_streams.specs.Events.{no_events}
use Rattle.qc_streams.specs.Streams.{no_limits, no_own}
use Rattle.qc_streams.specs.Queues.{new_waiting}

-- the peer opened no stream, and knows the limit that the transport parameters announced
abbrev pub none_opened : PeerStreams → PeerStreams
none_opened k = record k { announced = k.first; opened = 0; ended = 0; accepted = 0; tells = false }

-- the same; a MAX_STREAMS waits where one is owed
unfoldable pub places_anew : PeerStreams → PeerStreams
places_anew k = let next : PeerStreams = none_opened k in record next { waits = owes_places next }

-- nothing came, and the peer knows the credit that the transport parameters announced
abbrev pub none_came : Incoming → Incoming
none_came c = record c { received = 0; returned = 0; announced = c.first }

-- the same; a MAX_DATA waits where one is owed
unfoldable pub credit_anew : Incoming → Incoming
credit_anew c = let next : Incoming = none_came c in record next { waits = incoming_owes next }

-- no stream is open and none was, the peer's limits aren't known, and nothing is to be told or sent but what the application set since
-- the transport parameters were
unfoldable pub early_refused : StreamsState → StreamsState
early_refused s = record s {
  records = [];
  own = record { bi = no_own 0; uni = no_own 0 };
  peer = record { bi = places_anew s.peer.bi; uni = places_anew s.peer.uni };
  limits = no_limits;
  incoming = credit_anew s.incoming;
  outgoing = new_outgoing;
  events = no_events;
  waiting = new_waiting;
  blocked = [];
}
