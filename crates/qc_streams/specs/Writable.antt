-- Streams on which a write was blocked (RFC 9000, section 4.1)
use Rattle.std.specs.Prelude.{ℕ, ◌-◌, Bool, false, not, ◌&&◌, ◌||◌, nat_le, nat_lt, if◌then◌else◌, [], ◌∷◌, Option, None, Some, is_some}
use Rattle.qc_send_stream.specs.declared.fault.WriteError.{WriteError}
use Rattle.qc_send_stream.specs.declared.fault.WriteError.TheVariants.{Blocked as WriteBlocked, ClosedStream, Stopped, OutOfMemory}
use Rattle.qc_send_stream.specs.declared.send.SendPart.{SendPart}
use Rattle.qc_send_stream.specs.Sending.{is_closed, unblocked}
use Rattle.qc_streams.specs.declared.events.StreamEvent.TheVariants.{Writable}
use Rattle.qc_streams.specs.declared.stream.Stream.{Stream}
use Rattle.qc_streams.specs.declared.state.StreamsState.{StreamsState}
use Rattle.qc_streams.specs.Blocked.{BlockedIds, is_below, with_blocked, without_blocked}
use Rattle.qc_streams.specs.Credit.{budget}
use Rattle.qc_streams.specs.Events.{EventQueue, event_placed, given_up_if, put_by_if}
use Rattle.qc_streams.specs.Kept.{kept_in}
use Rattle.qc_streams.specs.Records.{changed, record_of}
use Rattle.qc_streams.specs.Stream.{with_sending}

-- whether a sending side may be written on, as far as it goes by itself: it is neither finished nor reset, and has credit left
unfoldable pub has_credit : SendPart → Bool
has_credit p = not (is_closed p || nat_le p.limit p.buffer.written)

-- the same, where there is a sending side
abbrev pub credit_of : Option SendPart → Bool
credit_of None = false
credit_of (Some p) = has_credit p

-- the same of a stream, where there is one
abbrev pub credit_at : Option Stream → Bool
credit_at None = false
credit_at (Some st) = credit_of st.sending

-- whether a write was blocked on such a sending side, and that it can be written on again wasn't told since
abbrev pub awaits : Option SendPart → Bool
awaits None = false
awaits (Some p) = p.blocked && has_credit p

-- the same of a stream, where there is one
abbrev pub awaits_at : Option Stream → Bool
awaits_at None = false
awaits_at (Some st) = awaits st.sending

-- a write was blocked on a stream: where it has credit it waits for the connection's, and for room in the send window
unfoldable pub held_up : Bool → ℕ → StreamsState → StreamsState
held_up credit id s = record s { blocked = if credit then with_blocked id s.blocked else without_blocked id s.blocked }

-- a stream that was finished or reset, or has no credit left, doesn't wait for the connection
unfoldable pub passed : ℕ → StreamsState → StreamsState
passed id s = record s { blocked = if credit_at (record_of id s.records) then s.blocked else without_blocked id s.blocked }

-- the peer gave a stream credit: it waits for the connection now, where a write was blocked on it
unfoldable pub watched : ℕ → StreamsState → StreamsState
watched id s = record s { blocked = if awaits_at (record_of id s.records) then with_blocked id s.blocked else s.blocked }

-- ---- places for the event that a stream can be written on again

-- whether a place is put by for that event of a sending side: a write was blocked on it, and it is neither finished nor reset
abbrev pub has_place : Option SendPart → Bool
has_place None = false
has_place (Some p) = p.blocked && not (is_closed p)

-- the same of a stream, where there is one
abbrev pub has_place_at : Option Stream → Bool
has_place_at None = false
has_place_at (Some st) = has_place st.sending

-- whether one is to be put by once a write is blocked on it
abbrev pub needs_place : Option SendPart → Bool
needs_place None = false
needs_place (Some p) = not (p.blocked || is_closed p)

-- the same of a stream, where there is one
abbrev pub needs_place_at : Option Stream → Bool
needs_place_at None = false
needs_place_at (Some st) = needs_place st.sending

-- whether a write that has budget is blocked by a sending side for the first time since it was told: it is neither finished nor reset nor
-- stopped, and has no credit left
unfoldable pub blocks_anew : SendPart → Bool
blocks_anew p = not p.blocked && (not (is_closed p) && (not (is_some p.stopped) && nat_le p.limit p.buffer.written))

-- a write was refused: where it was blocked, a place is put by, if one is needed
abbrev pub place_after : WriteError → Bool → EventQueue → EventQueue
place_after WriteBlocked needs q = put_by_if needs q
place_after ClosedStream needs q = q
place_after (Stopped code) needs q = q
place_after OutOfMemory needs q = q

-- a place is put by, where one is needed
abbrev pub place_reserved : Bool → StreamsState → StreamsState
place_reserved needs s = record s { events = put_by_if needs s.events }

-- a place is given up, where there is one
abbrev pub place_released : Bool → StreamsState → StreamsState
place_released has s = record s { events = given_up_if has s.events }

-- ---- that streams can be written on again

-- whether the connection is open, has credit, and room in the send window
unfoldable pub has_room : StreamsState → Bool
has_room s = not s.closed && nat_lt 0 (budget (s.send_window - kept_in s.records) s.outgoing)

-- that the first stream of those that wait can be written on again waits to be told, behind all events whose causes came before: once,
-- until a write is blocked on it again
abbrev pub told_first : ℕ × ℕ → BlockedIds → StreamsState → StreamsState
told_first x xs s = record s { records = changed (with_sending unblocked) x.0 s.records; events = event_placed (Writable x.1) s.events; blocked = xs }

-- that of all of them below an id, or of all, in ascending order
unfoldable pub all_told : Option ℕ → BlockedIds → StreamsState → StreamsState
all_told below [] s = s
all_told below (x ∷ xs) s = if is_below below x.1 then all_told below xs (told_first x xs s) else s

-- the same, where the connection lets streams be written on
unfoldable pub writables_told : Option ℕ → StreamsState → StreamsState
writables_told below s = if has_room s then all_told below s.blocked s else s
