-- The application's calls on one stream (RFC 9000, sections 2.2, 2.4, 3.1 and 3.2)
use Rattle.std.specs.Prelude.{◌≡◌, ℕ, ◌-◌, Bool, true, false, if◌then◌else◌, List, length, take, Option, None, Some, is_some, Result, Ok, Err}
use Rattle.qc_base.specs.declared.varint.VarInt.{VarInt}
use Rattle.qc_recv.specs.declared.recv.Recv.{Recv}
use Rattle.qc_recv.specs.declared.recv.Chunk.{Chunk}
use Rattle.qc_recv.specs.declared.fault.ReadableError.TheVariants.{ClosedStream as SideClosed, IllegalOrderedRead as SideUnordered}
use Rattle.qc_recv.specs.declared.fault.ReadableError.{ReadableError}
use Rattle.qc_recv.specs.declared.fault.ReadError.{ReadError}
use Rattle.qc_recv.specs.declared.fault.ReadError.TheVariants.{Reset as SideReset, Blocked as SideBlocked, OutOfMemory as SideMemory}
use Rattle.qc_recv.specs.Receiving.{is_closed, is_at_end, has_chunk, chunk_given, end_told, opened, read_refusal, GivesChunk}
use Rattle.qc_send_stream.specs.declared.send.SendPart.{SendPart}
use Rattle.qc_send_stream.specs.declared.fault.WriteError.{WriteError}
use Rattle.qc_send_stream.specs.declared.fault.WriteError.TheVariants.{Blocked as WriteBlocked, ClosedStream as WriteClosed, Stopped as WriteStopped, OutOfMemory as WriteMemory}
use Rattle.qc_send_stream.specs.declared.fault.FinishError.{FinishError}
use Rattle.qc_send_stream.specs.declared.fault.FinishError.TheVariants.{ClosedStream as FinishClosed}
use Rattle.qc_send_stream.specs.Sending.{is_done, takes, part_written, was_blocked, was_reset, write_refusal as part_write_refusal, finish_refusal as part_finish_refusal}
use Rattle.qc_streams.specs.declared.stream.Stream.{Stream}
use Rattle.qc_streams.specs.declared.fault.ReadFault.{ReadFault}
use Rattle.qc_streams.specs.declared.fault.ReadFault.TheVariants.{ClosedStream, IllegalOrderedRead, Reset, Blocked, OutOfMemory}
use Rattle.qc_streams.specs.declared.state.StreamsState.{StreamsState}
use Rattle.qc_streams.specs.Credit.{budget, outgoing_written}
use Rattle.qc_streams.specs.Kept.{kept_in}
use Rattle.qc_streams.specs.Records.{record_of, changed}
use Rattle.qc_streams.specs.Stream.{totals_at, with_receiving, with_sending}
use Rattle.qc_streams.specs.Streams.{counted, settled}
use Rattle.qc_streams.specs.Queues.{queued, touched}
use Rattle.qc_streams.specs.Writable.{credit_at, has_place_at, held_up, needs_place_at, passed, place_released, place_reserved, writables_told}

-- a sending side that the application knows: not one of which all is acknowledged
abbrev pub known : Option SendPart → Option SendPart
known None = None
known (Some p) = if is_done p then None else Some p

-- the sending side that the application knows of a stream
abbrev pub known_of : Option Stream → Option SendPart
known_of None = None
known_of (Some st) = known st.sending

-- the sending side that the application knows under an id
unfoldable pub known_at : ℕ → StreamsState → Option SendPart
known_at id s = known_of (record_of id s.records)

-- a sending side that the application knows changes
abbrev pub if_known : (SendPart → SendPart) → SendPart → SendPart
if_known f p = if is_done p then p else f p

-- the same of the stream with an id, which can't be written on any more, so it doesn't wait for that, nor is it told; its end waits from
-- this moment on, and it is looked at what it owes now
unfoldable pub sends : (SendPart → SendPart) → ℕ → StreamsState → StreamsState
sends f id s =
    place_released (has_place_at (record_of id s.records))
    (touched id (queued id (passed id (record s { records = changed (with_sending (if_known f)) id s.records }))))

-- a stream is reset: that its bytes are let go makes room in the send window
unfoldable pub resets : VarInt → ℕ → StreamsState → StreamsState
resets code id s = writables_told None (sends (was_reset code) id s)

-- why a write is refused: the stream is unknown, or its sending side refuses
abbrev pub write_fault : ℕ → Option SendPart → Option WriteError
write_fault most None = Some WriteClosed
write_fault most (Some p) = part_write_refusal most p

-- how many more bytes may be kept until they are acknowledged: what the send window leaves beside those that all streams keep
unfoldable pub send_room : StreamsState → ℕ
send_room s = s.send_window - kept_in s.records

-- why a write is refused, the first that holds: the connection is closed, the stream is unknown, or its side refuses
unfoldable pub write_refusal : ℕ → StreamsState → Option WriteError
write_refusal id s = if s.closed then Some WriteBlocked else write_fault (budget (send_room s) s.outgoing) (known_at id s)

-- how many bytes a write takes
abbrev pub count_taken : (wanted most : ℕ) → Option SendPart → ℕ
count_taken wanted most None = 0
count_taken wanted most (Some p) = takes wanted most p

-- the application writes so many bytes of a chunk's front
unfoldable pub wrote : (id count : ℕ) → (chunk : List ℕ) → StreamsState → StreamsState
wrote id n chunk s = touched id (queued id (passed id (record s {
  records = changed (with_sending (if_known (part_written (take n chunk)))) id s.records;
  outgoing = outgoing_written n s.outgoing;
})))

-- whether a write needs memory that may want: it isn't refused, or is blocked, which is noted
abbrev pub needs_memory : Option WriteError → Bool
needs_memory None = true
needs_memory (Some WriteBlocked) = true
needs_memory (Some WriteClosed) = false
needs_memory (Some (WriteStopped code)) = false
needs_memory (Some WriteMemory) = false

-- a write isn't done because of that refusal, or for want of memory
unfoldable pub IsRefused : WriteError → Option WriteError → Type 0
IsRefused WriteMemory refusal = needs_memory refusal ≡ true
IsRefused WriteBlocked refusal = refusal ≡ Some WriteBlocked
IsRefused WriteClosed refusal = refusal ≡ Some WriteClosed
IsRefused (WriteStopped code) refusal = refusal ≡ Some (WriteStopped code)

-- a write that is refused leaves everything as it was, but that it was blocked on a connection that isn't closed
unfoldable pub write_refused : WriteError → ℕ → StreamsState → StreamsState
write_refused WriteBlocked id s =
    if s.closed then s
    else
    place_reserved (needs_place_at (record_of id s.records))
    (held_up (credit_at (record_of id s.records)) id (record s { records = changed (with_sending (if_known was_blocked)) id s.records }))
write_refused WriteClosed id s = s
write_refused (WriteStopped code) id s = s
write_refused WriteMemory id s = s

-- why a stream can't be finished: it is unknown, or its sending side refuses
abbrev pub finish_refusal : Option SendPart → Option FinishError
finish_refusal None = Some FinishClosed
finish_refusal (Some p) = part_finish_refusal p

-- whether a stream can't be reset: it is unknown, or was reset
abbrev pub bars_reset : Option SendPart → Bool
bars_reset None = true
bars_reset (Some p) = is_some p.reset

-- the receiving side of a stream
abbrev pub receiving_of : Option Stream → Option Recv
receiving_of None = None
receiving_of (Some st) = st.receiving

-- the receiving side of the stream with an id
unfoldable pub receiving_at : ℕ → StreamsState → Option Recv
receiving_at id s = receiving_of (record_of id s.records)

-- whether a receiving side is closed to the application, or there is none
abbrev pub closed_to : Option Recv → Bool
closed_to None = true
closed_to (Some r) = is_closed r

-- the code of the reset that came, where one did
abbrev pub reset_of : Option Recv → Option VarInt
reset_of None = None
reset_of (Some r) = r.reset

-- the application changes a receiving side: what it gives back counts for the connection's credit, and a stream that has ended
-- leaves
unfoldable pub gives : (Recv → Recv) → ℕ → StreamsState → StreamsState
gives f id s = settled id (counted (totals_at id s.records) id (record s { records = changed (with_receiving f) id s.records }))

-- the application begins to read a receiving side
unfoldable pub reading_begun : Bool → ℕ → StreamsState → StreamsState
reading_begun ordered id s = record s { records = changed (with_receiving (opened ordered)) id s.records }

-- why a stream can't be read: there is no such side, or the side refuses
abbrev pub begin_refusal : Bool → Option Recv → Option ReadableError
begin_refusal ordered None = Some SideClosed
begin_refusal ordered (Some r) = read_refusal ordered r

-- why a stream can't be read, as a read's fault
abbrev pub fault_of_open : ReadableError → ReadFault
fault_of_open SideClosed = ClosedStream
fault_of_open SideUnordered = IllegalOrderedRead

-- why a read gives nothing, as a read's fault
abbrev pub fault_of_read : ReadError → ReadFault
fault_of_read (SideReset code) = Reset code
fault_of_read SideBlocked = Blocked
fault_of_read SideMemory = OutOfMemory

-- What a read answers: by the receiving side's refusals; a reset before all else, a chunk where there is one, the end where all
-- was read, and nothing otherwise
unfoldable pub IsRead : ℕ → Bool → Recv → Result (Option Chunk) ReadFault → Type 0
IsRead most ordered r (Ok (Some c)) = (read_refusal ordered r ≡ None) × (r.reset ≡ None) × GivesChunk most (opened ordered r) c
IsRead most ordered r (Ok None) = (read_refusal ordered r ≡ None) × (r.reset ≡ None) × (has_chunk (opened ordered r) ≡ false) × (is_at_end r ≡ true)
IsRead most ordered r (Err (Reset code)) = (read_refusal ordered r ≡ None) × (r.reset ≡ Some code)
IsRead most ordered r (Err Blocked) = (read_refusal ordered r ≡ None) × (r.reset ≡ None) × (has_chunk (opened ordered r) ≡ false) × (is_at_end r ≡ false)
IsRead most ordered r (Err ClosedStream) = read_refusal ordered r ≡ Some SideClosed
IsRead most ordered r (Err IllegalOrderedRead) = read_refusal ordered r ≡ Some SideUnordered
IsRead most ordered r (Err OutOfMemory) = Unit {0}

-- What a read of a stream answers: that it is closed, where there is no receiving side
unfoldable pub IsReadOf : ℕ → Bool → Option Recv → Result (Option Chunk) ReadFault → Type 0
IsReadOf most ordered None result = result ≡ Err ClosedStream
IsReadOf most ordered (Some r) result = IsRead most ordered r result

-- what a read leaves of a receiving side
abbrev pub after_read : Bool → Result (Option Chunk) ReadFault → Recv → Recv
after_read ordered (Ok (Some c)) r = chunk_given c.offset (length c.bytes) (opened ordered r)
after_read ordered (Ok None) r = end_told (opened ordered r)
after_read ordered (Err (Reset code)) r = end_told (opened ordered r)
after_read ordered (Err Blocked) r = opened ordered r
after_read ordered (Err OutOfMemory) r = opened ordered r
after_read ordered (Err ClosedStream) r = r
after_read ordered (Err IllegalOrderedRead) r = r
