-- The application's views over the streams (RFC 9000, sections 2 to 4): their answers and refusals, and what they leave. A connection
-- that wanted memory in one of their calls has failed
use Rattle.std.specs.Prelude.{◌≡◌, ℕ, Bool, true, false, ◌||◌, if◌then◌else◌, Option, None, Some, is_some, Result, Ok, Err}
use Rattle.std.specs.Option.{option_map}
use Rattle.qc_base.specs.declared.fault.Fault.{Fault}
use Rattle.qc_base.specs.declared.fault.Fault.TheVariants.{OutOfMemory as NoMemory, Failed as HasFailed}
use Rattle.qc_recv.specs.declared.recv.Chunk.{Chunk}
use Rattle.qc_recv.specs.declared.recv.Recv.{Recv}
use Rattle.qc_send_stream.specs.declared.send.SendPart.{SendPart}
use Rattle.qc_send_stream.specs.declared.fault.FinishError.{FinishError as SideFinish}
use Rattle.qc_send_stream.specs.declared.fault.FinishError.TheVariants.{ClosedStream as SideFinishClosed, Stopped as SideFinishStopped}
use Rattle.qc_send_stream.specs.declared.fault.WriteError.{WriteError as SideWrite}
use Rattle.qc_send_stream.specs.declared.fault.WriteError.TheVariants.{Blocked as SideBlocked, ClosedStream as SideClosed, Stopped as SideStopped, OutOfMemory as SideMemory}
use Rattle.qc_streams.specs.declared.fault.FinishError.{FinishError}
use Rattle.qc_streams.specs.declared.fault.FinishError.TheVariants.{ClosedStream as FinishClosed, Stopped as FinishStopped}
use Rattle.qc_streams.specs.declared.fault.ReadError.{ReadError}
use Rattle.qc_streams.specs.declared.fault.ReadError.TheVariants.{Reset as ReadReset, Blocked as ReadBlocked, OutOfMemory as ReadMemory, Failed as ReadFailed}
use Rattle.qc_streams.specs.declared.fault.ReadFault.{ReadFault}
use Rattle.qc_streams.specs.declared.fault.ReadFault.TheVariants.{ClosedStream as FaultClosed, IllegalOrderedRead as FaultUnordered, Reset as FaultReset, Blocked as FaultBlocked, OutOfMemory as FaultMemory}
use Rattle.qc_streams.specs.declared.fault.WriteError.{WriteError}
use Rattle.qc_streams.specs.declared.fault.WriteError.TheVariants.{Blocked, ClosedStream, Stopped, OutOfMemory, Failed}
use Rattle.qc_streams.specs.declared.recv_stream.Told.{Told}
use Rattle.qc_streams.specs.declared.recv_stream.Told.TheVariants.{Nothing, End, Reset}
use Rattle.qc_streams.specs.declared.state.StreamsState.{StreamsState}
use Rattle.qc_streams.specs.Calls.{IsReadOf, after_read, begin_refusal, count_taken, finish_refusal, gives, receiving_at, write_fault, write_refusal, write_refused}
use Rattle.qc_streams.specs.Chunks.{Chunks}
use Rattle.qc_streams.specs.Streams.{failed}
use Rattle.qc_streams.specs.Queues.{owes_credit}

-- why a call that only wants memory gives up: the connection had failed, or has now
abbrev pub fault_of : Bool → Fault
fault_of true = HasFailed
fault_of false = NoMemory

-- what such a call leaves that gives up: everything as it was, but that the connection has failed
abbrev pub given_up : Fault → StreamsState → StreamsState
given_up HasFailed s = s
given_up NoMemory s = failed s

-- why a write takes no bytes, as the application is told
abbrev pub write_error : SideWrite → WriteError
write_error SideBlocked = Blocked
write_error SideClosed = ClosedStream
write_error (SideStopped code) = Stopped code
write_error SideMemory = OutOfMemory

-- why a stream can't be finished, as the application is told
abbrev pub finish_error : SideFinish → FinishError
finish_error SideFinishClosed = FinishClosed
finish_error (SideFinishStopped code) = FinishStopped code

-- why a stream can't be finished: it is unknown, or its sending side refuses
abbrev pub finish_bar : Option SendPart → Option FinishError
finish_bar p = option_map finish_error (finish_refusal p)

-- want of memory in a write: the connection has failed
abbrev pub side_marked : SideWrite → StreamsState → StreamsState
side_marked SideMemory s = failed s
side_marked SideBlocked s = s
side_marked SideClosed s = s
side_marked (SideStopped code) s = s

-- why a write is barred, the first that holds: the connection has failed, or what refuses it otherwise
unfoldable pub write_bar : ℕ → StreamsState → Option WriteError
write_bar id s = if s.failed then Some Failed else option_map write_error (write_refusal id s)

-- whether a write needs memory that may want: it isn't barred, or is blocked, which is noted
abbrev pub may_want : Option WriteError → Bool
may_want None = true
may_want (Some Blocked) = true
may_want (Some ClosedStream) = false
may_want (Some (Stopped code)) = false
may_want (Some OutOfMemory) = false
may_want (Some Failed) = false

-- a write isn't done because of that bar, or for want of memory
unfoldable pub IsBarred : WriteError → Option WriteError → Type 0
IsBarred OutOfMemory bar = may_want bar ≡ true
IsBarred Blocked bar = bar ≡ Some Blocked
IsBarred ClosedStream bar = bar ≡ Some ClosedStream
IsBarred (Stopped code) bar = bar ≡ Some (Stopped code)
IsBarred Failed bar = bar ≡ Some Failed

-- what a write leaves that isn't done: everything as it was, but that it was blocked, or that the connection has failed
unfoldable pub unwritten : WriteError → ℕ → StreamsState → StreamsState
unwritten Failed id s = s
unwritten OutOfMemory id s = failed s
unwritten Blocked id s = write_refused SideBlocked id s
unwritten ClosedStream id s = s
unwritten (Stopped code) id s = s

-- What a write of chunks leaves that isn't done: the chunks as they were, and all else as a write of bytes leaves it. After want of memory
-- nothing is said but that the connection has failed
unfoldable pub IsUntaken : WriteError → Chunks → Chunks → ℕ → StreamsState → StreamsState → Type 0
IsUntaken OutOfMemory before after id s s' = s'.failed ≡ true
IsUntaken Failed before after id s s' = (after ≡ before) × (s' ≡ s)
IsUntaken Blocked before after id s s' = (after ≡ before) × (s' ≡ unwritten Blocked id s)
IsUntaken ClosedStream before after id s s' = (after ≡ before) × (s' ≡ s)
IsUntaken (Stopped code) before after id s s' = (after ≡ before) × (s' ≡ s)

-- how many bytes a write takes, none where it is refused
abbrev pub unrefused : (wanted most : ℕ) → Option SendPart → ℕ
unrefused wanted most p = if is_some (write_fault most p) then 0 else count_taken wanted most p

-- why a read gives nothing, as the application is told; a side that is read on isn't closed
abbrev pub read_error : ReadFault → ReadError
read_error (FaultReset code) = ReadReset code
read_error FaultMemory = ReadMemory
read_error FaultBlocked = ReadBlocked
read_error FaultClosed = ReadBlocked
read_error FaultUnordered = ReadBlocked

-- want of memory in a read: the connection has failed
abbrev pub fault_marked : ReadFault → StreamsState → StreamsState
fault_marked (FaultReset code) s = s
fault_marked FaultMemory s = failed s
fault_marked FaultBlocked s = s
fault_marked FaultClosed s = s
fault_marked FaultUnordered s = s

-- whether a receiving side can't be read so: there is none, or it refuses
abbrev pub is_shut : Bool → Option Recv → Bool
is_shut ordered r = is_some (begin_refusal ordered r)

-- whether a side can't be read on of which neither the end nor a reset was told
abbrev pub is_lost : Told → Bool → Option Recv → Bool
is_lost Nothing ordered r = is_shut ordered r
is_lost End ordered r = false
is_lost (Reset code) ordered r = false

-- What a read answers of a side whose end and reset weren't told: as the state's call
unfoldable pub IsGiven : ℕ → Bool → Option Recv → Result (Option Chunk) ReadError → Type 0
IsGiven most ordered r (Ok c) = IsReadOf most ordered r (Ok c)
IsGiven most ordered r (Err (ReadReset code)) = IsReadOf most ordered r (Err (FaultReset code))
IsGiven most ordered r (Err ReadBlocked) = IsReadOf most ordered r (Err FaultBlocked)
IsGiven most ordered r (Err ReadMemory) = Unit {0}
IsGiven most ordered r (Err ReadFailed) = true ≡ false

-- What a read answers, the first that holds: that the connection has failed, again what was told last, or what the side gives
unfoldable pub IsAnswer : Bool → Told → ℕ → Bool → Option Recv → Result (Option Chunk) ReadError → Type 0
IsAnswer true told most ordered r result = result ≡ Err ReadFailed
IsAnswer false End most ordered r result = result ≡ Ok None
IsAnswer false (Reset code) most ordered r result = result ≡ Err (ReadReset code)
IsAnswer false Nothing most ordered r result = IsGiven most ordered r result

-- what a read leaves of a side
abbrev pub read_left : Bool → Result (Option Chunk) ReadError → Recv → Recv
read_left ordered (Ok c) r = after_read ordered (Ok c) r
read_left ordered (Err (ReadReset code)) r = after_read ordered (Err (FaultReset code)) r
read_left ordered (Err ReadBlocked) r = after_read ordered (Err FaultBlocked) r
read_left ordered (Err ReadMemory) r = after_read ordered (Err FaultMemory) r
read_left ordered (Err ReadFailed) r = r

-- want of memory in a read: the connection has failed
abbrev pub want_marked : Result (Option Chunk) ReadError → StreamsState → StreamsState
want_marked (Ok c) s = s
want_marked (Err (ReadReset code)) s = s
want_marked (Err ReadBlocked) s = s
want_marked (Err ReadMemory) s = failed s
want_marked (Err ReadFailed) s = s

-- what a read leaves of a side whose end and reset weren't told
unfoldable pub read_on : Bool → Result (Option Chunk) ReadError → ℕ → StreamsState → StreamsState
read_on ordered result id s = want_marked result (gives (read_left ordered result) id s)

-- what a read leaves: everything as it was on a connection that had failed, and where the end or the reset was told before
unfoldable pub after_next : Bool → Told → Bool → Result (Option Chunk) ReadError → ℕ → StreamsState → StreamsState
after_next true told ordered result id s = s
after_next false End ordered result id s = s
after_next false (Reset code) ordered result id s = s
after_next false Nothing ordered result id s = read_on ordered result id s

-- what a read tells of the stream's end
abbrev pub told_after : Result (Option Chunk) ReadError → Told → Told
told_after (Ok None) told = End
told_after (Ok (Some c)) told = told
told_after (Err (ReadReset code)) told = Reset code
told_after (Err ReadBlocked) told = told
told_after (Err ReadMemory) told = told
told_after (Err ReadFailed) told = told

-- whether credit waits to be sent: a MAX_DATA, a MAX_STREAMS, or the MAX_STREAM_DATA of the stream with an id
unfoldable pub owes_frames : ℕ → StreamsState → Bool
owes_frames id s = s.incoming.waits || s.peer.bi.waits || s.peer.uni.waits || owes_credit (receiving_at id s)
