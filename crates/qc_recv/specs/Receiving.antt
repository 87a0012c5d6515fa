-- The receiving side of a stream (RFC 9000, sections 2.2, 3.2, 4.1 and 4.5)
use Rattle.std.specs.Prelude.{◌≡◌, ℕ, ◌+◌, ◌-◌, ◌/◌, ◌^◌, ◌<◌, ◌≤◌, Bool, true, false, not, ◌&&◌, ◌||◌, ◌==◌, nat_lt, nat_le, min, max, if◌then◌else◌, List, [], ◌∷◌, ◌++◌, length, drop, Option, None, Some, is_some, Result, Ok, Err}
use Rattle.qc_base.specs.declared.varint.VarInt.{VarInt}
use Rattle.qc_assembler.specs.Assembly.{nothing, inserted, discarded, advanced, taken, part_count, has_bytes, is_readable, run}
use Rattle.qc_recv.specs.declared.recv.Recv.{Recv}
use Rattle.qc_assembler.specs.declared.insert.InsertError.{InsertError}
use Rattle.qc_assembler.specs.declared.insert.InsertError.TheVariants.{TooManyParts as InsertTooMany, OutOfMemory as InsertMemory}
use Rattle.qc_recv.specs.declared.recv.Chunk.{Chunk}
use Rattle.qc_recv.specs.declared.fault.ReadError.{ReadError}
use Rattle.qc_recv.specs.declared.fault.ReadError.TheVariants.{Reset, Blocked, OutOfMemory as NoMemory}
use Rattle.qc_recv.specs.declared.fault.ReadableError.{ReadableError}
use Rattle.qc_recv.specs.declared.fault.ReadableError.TheVariants.{ClosedStream, IllegalOrderedRead}
use Rattle.qc_recv.specs.declared.fault.FrameFault.{FrameFault}
use Rattle.qc_recv.specs.declared.fault.FrameFault.TheVariants.{Refused, OutOfMemory}
use Rattle.qc_recv.specs.declared.fault.Refusal.{Refusal}
use Rattle.qc_recv.specs.declared.fault.Refusal.TheVariants.{FlowControl, FinalSize, TooManyParts}

-- the number of the error that the connection closes with: FLOW_CONTROL_ERROR, FINAL_SIZE_ERROR, INTERNAL_ERROR (RFC
-- 9000, section 20.1)
abbrev pub code_of : Refusal → ℕ
code_of FlowControl = 3
code_of FinalSize = 6
code_of TooManyParts = 1

-- a count stands still at the greatest number of 64 bits
unfoldable pub counted : ℕ → ℕ → ℕ
counted a b = min (a + b) (2 ^ 64 - 1)

-- a stream of which nothing came, with a window
unfoldable pub new_receiving : ℕ → Recv
new_receiving window = record {
  assembler = nothing;
  greatest = 0;
  size = None;
  reset = None;
  stopped = None;
  told = false;
  unordered = false;
  read = 0;
  window = window;
  announced = window;
  credit_waits = false;
  stop_waits = false;
}

-- whether nothing more happens on this side: the end or the reset was told (RFC 9000, section 3.2, "Data Read" and "Reset
-- Read"), or the stream is stopped and its end is known
unfoldable pub is_ended : Recv → Bool
is_ended r = r.told || (is_some r.stopped && is_some r.size)

-- up to where the peer may send: what was read, and the window beyond that (RFC 9000, section 4.1)
unfoldable pub credit : Recv → ℕ
credit r = counted r.read r.window

-- how many of its bytes give credit back to the connection: those that were read, and all once
-- the application wants none or the peer reset the stream (RFC 9000, sections 4.1 and 4.5)
unfoldable pub returned : Recv → ℕ
returned r = if is_some r.stopped || is_some r.reset then r.greatest else r.read

-- how many bytes that end there are new
unfoldable pub new_bytes : ℕ → Recv → ℕ
new_bytes end r = end - r.greatest

-- whether bytes up to an end lie past a size that is known: no byte may come at the final size or beyond (RFC 9000, section 4.5)
abbrev pub is_past : ℕ → Option ℕ → Bool
is_past end None = false
is_past end (Some size) = nat_lt size end

-- whether an end isn't the size that is known: once it is, the final size can't change (RFC 9000, section 4.5)
abbrev pub is_other : ℕ → Option ℕ → Bool
is_other end None = false
is_other end (Some size) = not (size == end)

-- whether a frame's end contradicts what is known: it lies past the known size, or it is the last and another size than the
-- known one, or lies below bytes that came
unfoldable pub breaks_size : ℕ → Bool → Recv → Bool
breaks_size end last r = is_past end r.size || (last && (is_other end r.size || nat_lt end r.greatest))

-- whether an end lies above the stream's credit, or takes more than the connection has room for: a peer that passes a
-- limit breaks flow control (RFC 9000, section 4.1)
unfoldable pub above_credit : (end room : ℕ) → Recv → Bool
above_credit end room r = nat_lt (credit r) end || nat_lt room (new_bytes end r)

-- the first refusal of a table whose row holds
unfoldable pub first_row : List (Bool × Refusal) → Option Refusal
first_row [] = None
first_row (x ∷ xs) = if x.0 then Some x.1 else first_row xs

-- why a frame whose bytes end there is refused, the first row that holds. No byte of a stream lies at 2^62 or above, so
-- that counts as flow control too (RFC 9000, section 19.8)
unfoldable pub end_refusal : ℕ → Bool → ℕ → Recv → Option Refusal
end_refusal end last room r = first_row (
    (nat_le (2 ^ 62) end, FlowControl)
    ∷ (breaks_size end last r, FinalSize)
    ∷ (above_credit end room r, FlowControl)
    ∷ [])

-- whether bytes that come are kept
unfoldable pub keeps : Recv → Bool
keeps r = not (is_some r.stopped || is_some r.reset)

-- whether with these bytes more than 1024 separate parts would stand
unfoldable pub has_many_parts : ℕ → List ℕ → Recv → Bool
has_many_parts o bs r = keeps r && nat_lt 1024 (part_count (inserted o bs r.assembler).came)

-- why a STREAM frame is refused; on a side that has ended none is
unfoldable pub stream_refusal : ℕ → List ℕ → Bool → ℕ → Recv → Option Refusal
stream_refusal o bs last room r =
    if is_ended r then None else
    (if is_some (end_refusal (o + length bs) last room r) then end_refusal (o + length bs) last room r
    else if has_many_parts o bs r then Some TooManyParts else None)

-- the end of a frame is taken; where it is the last, the size is known and no more credit is due
unfoldable pub end_taken : ℕ → Bool → Recv → Recv
end_taken end last r = record r {
  greatest = max r.greatest end;
  size = if last then Some end else r.size;
  credit_waits = if last then false else r.credit_waits;
}

-- bytes that come are kept, unless the stream is stopped or reset (RFC 9000, sections 2.2, 3.2 and 3.5)
unfoldable pub bytes_taken : ℕ → List ℕ → Recv → Recv
bytes_taken o bs r = if keeps r then record r { assembler = inserted o bs r.assembler } else r

-- a STREAM frame is taken: passed over on a side that has ended or after a reset (RFC 9000, section 3.2)
unfoldable pub stream_taken : ℕ → List ℕ → Bool → Recv → Recv
stream_taken o bs last r =
    if is_ended r || is_some r.reset then r else end_taken (o + length bs) last (bytes_taken o bs r)

-- why a RESET_STREAM frame is refused; on a side that has ended none is
unfoldable pub reset_refusal : (size room : ℕ) → Recv → Option Refusal
reset_refusal size room r = if is_ended r then None else end_refusal size true room r

-- a RESET_STREAM frame is taken: passed over on a side that has ended or after another; bytes that weren't read may be
-- dropped, and are (RFC 9000, section 3.2)
unfoldable pub reset_taken : VarInt → ℕ → Recv → Recv
reset_taken code size r =
    if is_ended r || is_some r.reset then r
    else end_taken size true (record r { assembler = discarded r.assembler; reset = Some code })

-- whether credit exceeds what was announced by an eighth of the window, and by more than nothing,
-- while the application reads on and the end isn't known; when to announce more is the receiver's choice (RFC 9000,
-- section 4.2)
unfoldable pub owes_credit : Recv → Bool
owes_credit r =
    nat_lt r.announced (credit r) && nat_le (r.window / 8) (credit r - r.announced) && not (is_some r.size) && not (is_some r.stopped)

-- so many bytes were given; a frame of credit waits where one is owed
unfoldable pub given : ℕ → Recv → Recv
given n r =
    let next : Recv = record r { read = counted r.read n } in
    record next { credit_waits = next.credit_waits || owes_credit next }

-- a chunk is given in order, or out of order on a stream that is read so
unfoldable pub chunk_given : (offset count : ℕ) → Recv → Recv
chunk_given o n r =
    given n (record r { assembler = if r.unordered then taken o n r.assembler else advanced n r.assembler })

-- the application is told the end or the reset
unfoldable pub end_told : Recv → Recv
end_told r = record r { told = true }

-- whether a size is known and so many bytes
abbrev pub match_size : Option ℕ → ℕ → Bool
match_size None n = false
match_size (Some size) n = size == n

-- whether all bytes up to the end were read
unfoldable pub is_at_end : Recv → Bool
is_at_end r = match_size r.size r.read

-- the application wants no more: what waits is let go, and STOP_SENDING is owed, but not after a reset (RFC 9000, section
-- 3.5)
unfoldable pub stop_asked : VarInt → Recv → Recv
stop_asked code r = record r { assembler = discarded r.assembler; stopped = Some code; stop_waits = not (is_some r.reset) }

-- a frame isn't taken because of that refusal, or for want of memory
unfoldable pub IsRefusal : FrameFault → Option Refusal → Type 0
IsRefusal (Refused x) refusal = refusal ≡ Some x
IsRefusal OutOfMemory refusal = Unit {0}

-- why an insertion failed, as a frame's fault
abbrev pub fault_of : InsertError → FrameFault
fault_of InsertTooMany = Refused TooManyParts
fault_of InsertMemory = OutOfMemory

-- whether the application can't read any more: it stopped the stream, or was told the end or the reset
unfoldable pub is_closed : Recv → Bool
is_closed r = r.told || is_some r.stopped

-- why a read is refused, the first that holds: the stream is closed to the application, or was
-- read out of order and is to be read in order
unfoldable pub read_refusal : Bool → Recv → Option ReadableError
read_refusal ordered r =
    if is_closed r then Some ClosedStream
    else if ordered && r.unordered then Some IllegalOrderedRead else None

-- reading begins: once out of order, always so
unfoldable pub opened : Bool → Recv → Recv
opened ordered r = record r { unordered = r.unordered || not ordered }

-- whether a byte can be read: the first unread one came, or out of order any that wasn't read
unfoldable pub has_chunk : Recv → Bool
has_chunk r = if r.unordered then has_bytes r.assembler.came else is_readable r.assembler

-- What a chunk of at most so many bytes may be: how many is free
pub record GivesChunk (most : ℕ) (r : Recv) (c : Chunk) : Type 0 where
  -- there is something to read
  pub there : has_chunk r ≡ true
  -- no more bytes than were asked for
  pub within : length c.bytes ≤ most
  -- at least one, where one was asked for
  pub some : 0 < most → 0 < length c.bytes
  -- in order it begins at the first unread byte
  pub place : r.unordered ≡ false → c.offset ≡ r.assembler.read
  -- its bytes are those that came first, at the lowest offsets that wait
  pub first : r.assembler.came ≡ run c.offset c.bytes ++ drop (length c.bytes) r.assembler.came

-- What a read that finds no reset leaves
unfoldable pub ReadsChunk : ℕ → Recv → Option Chunk → Recv → Type 0
ReadsChunk most r None s = (has_chunk r ≡ false) × (s ≡ r)
ReadsChunk most r (Some c) s = GivesChunk most r c × (s ≡ chunk_given c.offset (length c.bytes) r)

-- What a read answers, and what it leaves: a reset before all else, a chunk where there is one, the
-- end where all was read, and nothing otherwise
unfoldable pub IsNext : ℕ → Recv → Result (Option Chunk) ReadError → Recv → Type 0
IsNext most r (Ok (Some c)) s = (r.reset ≡ None) × GivesChunk most r c × (s ≡ chunk_given c.offset (length c.bytes) r)
IsNext most r (Ok None) s = (r.reset ≡ None) × (has_chunk r ≡ false) × (is_at_end r ≡ true) × (s ≡ end_told r)
IsNext most r (Err (Reset code)) s = (r.reset ≡ Some code) × (s ≡ end_told r)
IsNext most r (Err Blocked) s = (r.reset ≡ None) × (has_chunk r ≡ false) × (is_at_end r ≡ false) × (s ≡ r)
IsNext most r (Err NoMemory) s = s ≡ r

-- the application asks for a reset: it is told one that came
unfoldable pub reset_asked : Recv → Recv
reset_asked r = if is_some r.reset then end_told r else r
