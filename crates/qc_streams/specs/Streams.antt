-- The state over all streams of a connection (RFC 9000, sections 2 to 4)
use Rattle.std.specs.Prelude.{ℕ, zero, suc, ◌+◌, ◌-◌, ◌*◌, ◌/◌, ◌%◌, ◌==◌, Bool, true, false, not, ◌&&◌, ◌||◌, nat_lt, nat_le, if◌then◌else◌, [], Option, None, Some}
use Rattle.qc_base.specs.declared.side.Dir.{Dir}
use Rattle.qc_base.specs.declared.side.Dir.TheVariants.{Bi, Uni}
use Rattle.qc_base.specs.declared.side.Side.{Side}
use Rattle.qc_base.specs.declared.side.Side.TheVariants.{Client, Server}
use Rattle.qc_base.specs.StreamId.{initiator_bit, stream_id}
use Rattle.qc_recv.specs.Receiving.{new_receiving}
use Rattle.qc_send_stream.specs.Sending.{new_sending}
use Rattle.qc_streams.specs.declared.stream.Stream.{Stream}
use Rattle.qc_streams.specs.declared.stream.Totals.{Totals}
use Rattle.qc_streams.specs.declared.events.StreamEvent.{StreamEvent}
use Rattle.qc_streams.specs.declared.state.StreamsState.{StreamsState}
use Rattle.qc_streams.specs.declared.state.PeerLimits.{PeerLimits}
use Rattle.qc_streams.specs.declared.counts.OwnStreams.{OwnStreams}
use Rattle.qc_streams.specs.declared.counts.PeerStreams.{PeerStreams}
use Rattle.qc_streams.specs.Counts.{at_most, by_dir, dir_put, own_opened, own_raised, peer_opened, place_freed, accepted}
use Rattle.qc_streams.specs.Credit.{new_incoming, tallied, new_outgoing, outgoing_raised}
use Rattle.qc_streams.specs.Events.{event_added, no_events}
use Rattle.qc_streams.specs.Lending.{AllRecords}
use Rattle.qc_streams.specs.Records.{record_of, with_new, without, changed}
use Rattle.qc_streams.specs.Sends.{was_taken}
use Rattle.qc_streams.specs.Stream.{fresh_stream, totals_at, has_ended, is_freed, with_freed}
use Rattle.qc_streams.specs.Writable.{writables_told}
use Rattle.qc_streams.specs.Queues.{new_waiting, place_made, places_made, place_left, dues_at, sets_filed, left, owes_stop, touched, is_idle}

-- the other end
abbrev pub other : Side → Side
other Client = Server
other Server = Client

-- whether this end opens the stream with an id
unfoldable pub is_own : Side → ℕ → Bool
is_own side id = id % 2 == initiator_bit side

-- whether only one end sends on the stream with an id
unfoldable pub is_uni : ℕ → Bool
is_uni id = not (id / 2 % 2 == 0)

-- the direction of the stream with an id
unfoldable pub dir_of : ℕ → Dir
dir_of id = if id / 2 % 2 == 0 then Bi else Uni

-- so many streams may be opened, and none was
unfoldable pub no_own : ℕ → OwnStreams
no_own limit = record { limit = at_most limit; opened = 0 }

-- the peer may have so many streams open, and opened none
unfoldable pub no_peer : ℕ → PeerStreams
no_peer limit = record {
  concurrent = at_most limit;
  limit = at_most limit;
  announced = at_most limit;
  first = at_most limit;
  opened = 0;
  ended = 0;
  accepted = 0;
  tells = false;
  waits = false;
}

-- before the peer's limits are known, they are all 0
unfoldable pub no_limits : PeerLimits
no_limits = record { all_data = 0; bidi_streams = 0; uni_streams = 0; peer_bidi_data = 0; own_bidi_data = 0; own_uni_data = 0 }

-- no stream is open: an end that lets its peer have so many open, with its windows for what comes on all of them and on one, and
-- for the bytes that are kept
unfoldable pub new_streams : Side → (uni bi window stream_window send_window : ℕ) → (fair : Bool) → StreamsState
new_streams side uni bi window stream_window send_window fair = record {
  side = side;
  closed = false;
  failed = false;
  records = [];
  own = record { bi = no_own 0; uni = no_own 0 };
  peer = record { bi = no_peer bi; uni = no_peer uni };
  limits = no_limits;
  stream_window = stream_window;
  send_window = send_window;
  incoming = new_incoming window;
  outgoing = new_outgoing;
  events = no_events;
  waiting = new_waiting;
  blocked = [];
  fair = fair;
}

-- the peer's limits are known: those on what is open already only rise
unfoldable pub limits_set : PeerLimits → StreamsState → StreamsState
limits_set p s = writables_told None (record s {
  limits = p;
  outgoing = outgoing_raised p.all_data s.outgoing;
  own = record { bi = own_raised p.bidi_streams s.own.bi; uni = own_raised p.uni_streams s.own.uni };
})

-- the connection is closed
abbrev pub closed : StreamsState → StreamsState
closed s = record s { closed = true }

-- memory ran out: the connection has failed
abbrev pub failed : StreamsState → StreamsState
failed s = record s { failed = true }

-- a stream that this end opens
abbrev pub fresh_own : Dir → StreamsState → Stream
fresh_own Bi s = fresh_stream true (Some (new_receiving s.stream_window)) (Some (new_sending s.limits.own_bidi_data))
fresh_own Uni s = fresh_stream true None (Some (new_sending s.limits.own_uni_data))

-- a stream that the peer opens
abbrev pub fresh_peer : Dir → StreamsState → Stream
fresh_peer Bi s = fresh_stream false (Some (new_receiving s.stream_window)) (Some (new_sending s.limits.peer_bidi_data))
fresh_peer Uni s = fresh_stream false (Some (new_receiving s.stream_window)) None

-- whether the application may open a stream: the connection isn't closed, and the peer's limit isn't reached
unfoldable pub may_open : Dir → StreamsState → Bool
may_open dir s = not s.closed && nat_lt (by_dir dir s.own).opened (by_dir dir s.own).limit

-- the next stream that this end opens
unfoldable pub next_own : Dir → StreamsState → ℕ
next_own dir s = stream_id s.side dir (by_dir dir s.own).opened

-- the application opens a stream
unfoldable pub opened_own : Dir → StreamsState → StreamsState
opened_own dir s = record s {
  records = with_new (next_own dir s) (fresh_own dir s) s.records;
  own = dir_put dir (own_opened (by_dir dir s.own)) s.own;
  waiting = place_made s.waiting;
}

-- the next stream that the application accepts
unfoldable pub next_accepted : Dir → StreamsState → ℕ
next_accepted dir s = stream_id (other s.side) dir (by_dir dir s.peer).accepted

-- the application accepts a stream
unfoldable pub accepted_one : Dir → StreamsState → StreamsState
accepted_one dir s = record s {
  peer = dir_put dir (accepted (by_dir dir s.peer)) s.peer;
  records = changed was_taken (next_accepted dir s) s.records;
}

-- whether this end hasn't opened its stream with an id yet
unfoldable pub is_own_unopened : ℕ → StreamsState → Bool
is_own_unopened id s = nat_le (by_dir (dir_of id) s.own).opened (id / 4)

-- whether the peer hasn't opened its stream with an id yet
unfoldable pub is_peer_unopened : ℕ → StreamsState → Bool
is_peer_unopened id s = not (is_own s.side id) && nat_le (by_dir (dir_of id) s.peer).opened (id / 4)

-- whether the peer may not open its stream with an id
unfoldable pub is_past_limit : ℕ → StreamsState → Bool
is_past_limit id s = not (is_own s.side id) && nat_le (by_dir (dir_of id) s.peer).limit (id / 4)

-- so many streams of an id's kind, from an index on, are added
unfoldable pub made : (id from count : ℕ) → Stream → AllRecords → AllRecords
made id from zero st all = all
made id from (suc k) st all = with_new (4 * (from + k) + id % 4) st (made id from k st all)

-- how many of the peer's streams of an id's kind lie below it and aren't open
unfoldable pub lower_unopened : ℕ → StreamsState → ℕ
lower_unopened id s = id / 4 - (by_dir (dir_of id) s.peer).opened

-- the peer opens all its streams of a kind below an id
unfoldable pub lower_opened : ℕ → StreamsState → AllRecords
lower_opened id s = made id (by_dir (dir_of id) s.peer).opened (lower_unopened id s) (fresh_peer (dir_of id) s) s.records

-- the peer opens them
abbrev pub with_lower : ℕ → StreamsState → StreamsState
with_lower id s = record s { records = lower_opened id s; waiting = places_made (lower_unopened id s) s.waiting }

-- the peer opens the stream with an id, and with it all lower ones of its kind
unfoldable pub opened_with : ℕ → Stream → StreamsState → StreamsState
opened_with id st s = record s {
  records = with_new id st (lower_opened id s);
  peer = dir_put (dir_of id) (peer_opened (id / 4) (by_dir (dir_of id) s.peer)) s.peer;
  waiting = place_made (places_made (lower_unopened id s) s.waiting);
}

-- a frame changes the stream that it names; where the peer hasn't opened it, it is opened, and is a fresh one so changed
unfoldable pub met : (Stream → Stream) → ℕ → StreamsState → StreamsState
met f id s =
    if is_peer_unopened id s then opened_with id (f (fresh_peer (dir_of id) s)) s
    else record s { records = changed f id s.records }

-- the stream that a frame meets; None where it has ended
unfoldable pub target : ℕ → StreamsState → Option Stream
target id s = if is_peer_unopened id s then Some (fresh_peer (dir_of id) s) else record_of id s.records

-- what came on a stream, and what it gives back, counts for the connection
unfoldable pub counted : Totals → ℕ → StreamsState → StreamsState
counted before id s = record s { incoming = tallied before (totals_at id s.records) s.incoming }

-- a stream leaves; where it is one of the peer's, it frees a place, unless it did before
unfoldable pub removed : ℕ → StreamsState → StreamsState
removed id s = record s {
  records = without id s.records;
  peer = if is_own s.side id || is_freed (record_of id s.records) then s.peer else dir_put (dir_of id) (place_freed (by_dir (dir_of id) s.peer)) s.peer;
  waiting = if is_idle (record_of id s.records) then place_left s.waiting else s.waiting;
}

-- nothing of a stream waits any more
unfoldable pub forgotten : ℕ → StreamsState → StreamsState
forgotten id s = record s { waiting = sets_filed (dues_at None) id s.waiting }

-- the same, with its turn and with what it owes
unfoldable pub released : ℕ → StreamsState → StreamsState
released id s = removed id (left id (forgotten id s))

-- whether there is a stream whose STOP_SENDING waits
abbrev pub stops_later : Option Stream → Bool
stops_later None = false
stops_later (Some st) = owes_stop st.receiving

-- a stream that has ended and whose STOP_SENDING waits stays for that alone: where it is one of the peer's, it frees its place at once
unfoldable pub lingering : ℕ → StreamsState → StreamsState
lingering id s = touched id (record s {
  records = changed with_freed id s.records;
  peer = if is_own s.side id || is_freed (record_of id s.records) then s.peer else dir_put (dir_of id) (place_freed (by_dir (dir_of id) s.peer)) s.peer;
})

-- a stream that has ended leaves, once no STOP_SENDING of it waits; of another it is looked at what it owes now
unfoldable pub settled : ℕ → StreamsState → StreamsState
settled id s =
    if has_ended (record_of id s.records) then (if stops_later (record_of id s.records) then lingering id s else released id s) else touched id s

-- a stream that has ended leaves, and any other stays as it is
unfoldable pub left_over : ℕ → StreamsState → StreamsState
left_over id s = if has_ended (record_of id s.records) then released id s else s

-- an event waits, if it is to be told
unfoldable pub told_if : Bool → StreamEvent → StreamsState → StreamsState
told_if tells e s = record s { events = if tells then event_added e s.events else s.events }
