-- Frames that come: which are refused, and what the others make of the streams (RFC 9000, sections 3, 4 and 19.4 to 19.14)
use Rattle.std.specs.Prelude.{ℕ, ◌^◌, Bool, not, ◌&&◌, ◌||◌, nat_lt, if◌then◌else◌, List, [], ◌∷◌, Option, None, Some}
use Rattle.std.specs.Option.{option_map}
use Rattle.qc_base.specs.declared.side.Dir.{Dir}
use Rattle.qc_base.specs.declared.varint.VarInt.{VarInt}
use Rattle.qc_recv.specs.declared.recv.Recv.{Recv}
use Rattle.qc_recv.specs.declared.fault.Refusal.{Refusal as SideRefusal}
use Rattle.qc_recv.specs.Receiving.{stream_taken, reset_taken}
use Rattle.qc_streams.specs.declared.events.StreamEvent.TheVariants.{Readable, Stopped, Available}
use Rattle.qc_streams.specs.declared.fault.Refusal.{Refusal}
use Rattle.qc_streams.specs.declared.fault.Refusal.TheVariants.{State, Limit, Encoding, Side}
use Rattle.qc_streams.specs.declared.state.StreamsState.{StreamsState}
use Rattle.qc_streams.specs.Counts.{by_dir, dir_put, own_raised}
use Rattle.qc_streams.specs.Credit.{outgoing_raised}
use Rattle.qc_streams.specs.Records.{record_of}
use Rattle.qc_streams.specs.Refusals.{first_row, or_else}
use Rattle.qc_streams.specs.Stream.{totals_at, refusal_at, reads_if, stops_at, with_receiving, with_sending, stop_taken, limit_taken}
use Rattle.qc_streams.specs.Writable.{watched, writables_told}
use Rattle.qc_streams.specs.Streams.{is_own, is_uni, is_own_unopened, is_peer_unopened, is_past_limit, target, met, counted, settled, told_if}

-- whether nothing may come on the stream with an id: it is this end's own and unidirectional, or wasn't opened
unfoldable pub bars_receiving : ℕ → StreamsState → Bool
bars_receiving id s = is_own s.side id && (is_uni id || is_own_unopened id s)

-- whether nothing is sent on the stream with an id: it is the peer's and unidirectional, or this end's own and wasn't opened
unfoldable pub bars_sending : ℕ → StreamsState → Bool
bars_sending id s = if is_own s.side id then is_own_unopened id s else is_uni id

-- why no frame may come about what comes on a stream, the first row that holds
unfoldable pub receive_bar : ℕ → StreamsState → Option Refusal
receive_bar id s = first_row (
    (bars_receiving id s, State)
    ∷ (is_past_limit id s, Limit)
    ∷ [])

-- why a frame about what comes on a stream is refused: by that table, or else by the receiving side
unfoldable pub receive_refusal : (Recv → Option SideRefusal) → ℕ → StreamsState → Option Refusal
receive_refusal f id s = or_else (receive_bar id s) (option_map Side (refusal_at f (target id s)))

-- why a frame about what is sent on a stream is refused, the first row that holds
unfoldable pub send_refusal : ℕ → StreamsState → Option Refusal
send_refusal id s = first_row (
    (bars_sending id s, State)
    ∷ (is_past_limit id s, Limit)
    ∷ [])

-- why a STREAM_DATA_BLOCKED frame is refused, the first row that holds
unfoldable pub blocked_refusal : ℕ → StreamsState → Option Refusal
blocked_refusal id s = first_row (
    (is_own s.side id && is_uni id, State)
    ∷ (is_past_limit id s, Limit)
    ∷ [])

-- why a frame with a number of streams is refused
unfoldable pub count_refusal : ℕ → Option Refusal
count_refusal n = if nat_lt (2 ^ 60) n then Some Encoding else None

-- a frame changes what comes on a stream: that counts for the connection's credit, and a stream that has ended leaves
unfoldable pub comes : (Recv → Recv) → ℕ → StreamsState → StreamsState
comes f id s = settled id (counted (totals_at id s.records) id (met (with_receiving f) id s))

-- whether the application is told of a frame: the stream was open, neither stopped nor reset, and hasn't ended
unfoldable pub reads_more : ℕ → StreamsState → Bool
reads_more id s = not (is_peer_unopened id s) && reads_if (record_of id s.records)

-- a STREAM frame is taken
unfoldable pub stream_came : (id offset : ℕ) → (bytes : List ℕ) → (last : Bool) → StreamsState → StreamsState
stream_came id o bs last s = told_if (reads_more id s) (Readable id) (comes (stream_taken o bs last) id s)

-- a RESET_STREAM frame is taken
unfoldable pub reset_came : ℕ → VarInt → ℕ → StreamsState → StreamsState
reset_came id code size s = told_if (reads_more id s) (Readable id) (comes (reset_taken code size) id s)

-- a STOP_SENDING frame is taken: the first one of a stream is told
unfoldable pub stop_came : ℕ → VarInt → StreamsState → StreamsState
stop_came id code s = told_if (stops_at (target id s)) (Stopped id code) (met (with_sending (stop_taken code)) id s)

-- a MAX_STREAM_DATA frame is taken
unfoldable pub stream_limit_came : (id limit : ℕ) → StreamsState → StreamsState
stream_limit_came id limit s = writables_told None (watched id (met (with_sending (limit_taken limit)) id s))

-- a MAX_STREAMS frame is taken: a limit that rises is told
unfoldable pub streams_limit_came : Dir → ℕ → StreamsState → StreamsState
streams_limit_came dir n s = told_if (nat_lt (by_dir dir s.own).limit n) (Available dir)
    (record s { own = dir_put dir (own_raised n (by_dir dir s.own)) s.own })

-- a MAX_DATA frame is taken
unfoldable pub limit_came : ℕ → StreamsState → StreamsState
limit_came n s = writables_told None (record s { outgoing = outgoing_raised n s.outgoing })
