-- The sending side of a stream (RFC 9000, sections 2.2, 3.1, 4.1 and 19.8)
use Rattle.std.specs.Prelude.{◌≡◌, ℕ, ◌+◌, ◌-◌, Bool, true, false, not, ◌&&◌, ◌||◌, ◌==◌, nat_le, min, max, if◌then◌else◌, List, [], length, Option, None, Some, is_some}
use Rattle.qc_base.specs.declared.varint.VarInt.{VarInt}
use Rattle.qc_send_stream.specs.Buffer.{nothing, bytes_written, range_sealed, range_acked, range_lost, discarded, has_bytes, waiting, IsNext}
use Rattle.qc_send_stream.specs.declared.send.SendPart.{SendPart}
use Rattle.qc_send_stream.specs.declared.send.Part.{Part}
use Rattle.qc_send_stream.specs.declared.send.Reset.{Reset}
use Rattle.qc_send_stream.specs.declared.send.Standing.{Standing}
use Rattle.qc_send_stream.specs.declared.send.Standing.TheVariants.{Waiting, InFlight, Acknowledged}
use Rattle.qc_send_stream.specs.declared.fault.WriteError.{WriteError}
use Rattle.qc_send_stream.specs.declared.fault.WriteError.TheVariants.{Blocked, ClosedStream, Stopped, OutOfMemory}
use Rattle.qc_send_stream.specs.declared.fault.FinishError.{FinishError}
use Rattle.qc_send_stream.specs.declared.fault.FinishError.TheVariants.{ClosedStream as FinishClosed, Stopped as FinishStopped}

-- a stream on which nothing was written, with the peer's limit
unfoldable pub new_sending : ℕ → SendPart
new_sending limit = record { buffer = nothing; limit = limit; end = None; reset = None; stopped = None; blocked = false }

-- whether the application can't write any more: it finished or reset the stream
unfoldable pub is_closed : SendPart → Bool
is_closed s = is_some s.end || is_some s.reset

-- how many bytes are kept until they are acknowledged
abbrev pub kept_count : SendPart → ℕ
kept_count s = length s.buffer.kept

-- how many bytes a write takes: all that are wanted, as far as the stream's credit and the budget reach
unfoldable pub takes : (wanted budget : ℕ) → SendPart → ℕ
takes wanted budget s = min wanted (min (s.limit - s.buffer.written) budget)

-- why a write is refused where the peer stopped the stream, or for want of the stream's credit
abbrev pub stop_refusal : Option VarInt → Bool → Option WriteError
stop_refusal (Some code) none = Some (Stopped code)
stop_refusal None none = if none then Some Blocked else None

-- why a write is refused, the first that holds: there is no budget, the stream is finished or reset, the peer stopped it, or
-- there is no credit of the stream
unfoldable pub write_refusal : ℕ → SendPart → Option WriteError
write_refusal budget s =
    if budget == 0 then Some Blocked
    else if is_closed s then Some ClosedStream
    else stop_refusal s.stopped (nat_le s.limit s.buffer.written)

-- a write isn't done because of that refusal, or for want of memory
unfoldable pub IsWriteRefusal : WriteError → Option WriteError → Type 0
IsWriteRefusal OutOfMemory refusal = refusal ≡ None
IsWriteRefusal Blocked refusal = refusal ≡ Some Blocked
IsWriteRefusal ClosedStream refusal = refusal ≡ Some ClosedStream
IsWriteRefusal (Stopped code) refusal = refusal ≡ Some (Stopped code)

-- bytes are written
unfoldable pub part_written : List ℕ → SendPart → SendPart
part_written bs s = record s { buffer = bytes_written bs s.buffer }

-- a write was blocked
unfoldable pub was_blocked : SendPart → SendPart
was_blocked s = record s { blocked = true }

-- what a write that fails leaves: that it was blocked is noted
abbrev pub after_refusal : WriteError → SendPart → SendPart
after_refusal Blocked s = was_blocked s
after_refusal ClosedStream s = s
after_refusal (Stopped code) s = s
after_refusal OutOfMemory s = s

-- it is forgotten that a write was blocked
unfoldable pub unblocked : SendPart → SendPart
unblocked s = record s { blocked = false }

-- why the stream can't be finished where the peer stopped it, or where it is closed
abbrev pub finish_fault : Option VarInt → Bool → Option FinishError
finish_fault (Some code) closed = Some (FinishStopped code)
finish_fault None closed = if closed then Some FinishClosed else None

-- why the stream can't be finished, the first that holds: the peer stopped it, or it is finished or reset
unfoldable pub finish_refusal : SendPart → Option FinishError
finish_refusal s = finish_fault s.stopped (is_closed s)

-- the application finishes the stream: its end waits to be sent
unfoldable pub finished : SendPart → SendPart
finished s = record s { end = Some Waiting }

-- the application resets the stream: its bytes are let go, and RESET_STREAM waits to be sent
unfoldable pub was_reset : VarInt → SendPart → SendPart
was_reset code s = record s { buffer = discarded s.buffer; reset = Some (record { code = code; standing = Waiting }) }

-- the peer stops the stream: its first code counts
unfoldable pub was_stopped : VarInt → SendPart → SendPart
was_stopped code s = record s { stopped = if is_some s.stopped then s.stopped else Some code }

-- the peer lets this end send up to there: a limit only rises
unfoldable pub limit_raised : ℕ → SendPart → SendPart
limit_raised limit s = record s { limit = max s.limit limit }

-- a standing once a frame with it is sealed
abbrev pub sealed_standing : Standing → Standing
sealed_standing Waiting = InFlight
sealed_standing InFlight = InFlight
sealed_standing Acknowledged = Acknowledged

-- a standing once a frame with it is acknowledged
abbrev pub acked_standing : Standing → Standing
acked_standing x = Acknowledged

-- a standing once a frame with it is lost
abbrev pub lost_standing : Standing → Standing
lost_standing Waiting = Waiting
lost_standing InFlight = Waiting
lost_standing Acknowledged = Acknowledged

-- the end's standing, where the stream is finished and the frame has its end
abbrev pub end_with : (Standing → Standing) → Bool → Option Standing → Option Standing
end_with f last None = None
end_with f last (Some x) = if last then Some (f x) else Some x

-- the reset's standing, where the stream is reset
abbrev pub reset_with : (Standing → Standing) → Option Reset → Option Reset
reset_with f None = None
reset_with f (Some r) = Some (record r { standing = f r.standing })

-- a STREAM frame with the bytes of a range, and maybe the end, is sealed
unfoldable pub part_sealed : (start stop : ℕ) → (last : Bool) → SendPart → SendPart
part_sealed start stop last s = record s { buffer = range_sealed start stop s.buffer; end = end_with sealed_standing last s.end }

-- it is acknowledged
unfoldable pub part_acked : (start stop : ℕ) → (last : Bool) → SendPart → SendPart
part_acked start stop last s = record s { buffer = range_acked start stop s.buffer; end = end_with acked_standing last s.end }

-- it is lost
unfoldable pub part_lost : (start stop : ℕ) → (last : Bool) → SendPart → SendPart
part_lost start stop last s = record s { buffer = range_lost start stop s.buffer; end = end_with lost_standing last s.end }

-- a RESET_STREAM is sealed
unfoldable pub reset_sealed : SendPart → SendPart
reset_sealed s = record s { reset = reset_with sealed_standing s.reset }

-- it is acknowledged
unfoldable pub reset_acked : SendPart → SendPart
reset_acked s = record s { reset = reset_with acked_standing s.reset }

-- it is lost
unfoldable pub reset_lost : SendPart → SendPart
reset_lost s = record s { reset = reset_with lost_standing s.reset }

-- whether something waits to be sent
abbrev pub is_waiting : Standing → Bool
is_waiting Waiting = true
is_waiting InFlight = false
is_waiting Acknowledged = false

-- whether something was acknowledged
abbrev pub is_acked : Standing → Bool
is_acked Waiting = false
is_acked InFlight = false
is_acked Acknowledged = true

-- whether the end waits to be sent
abbrev pub end_waits : Option Standing → Bool
end_waits None = false
end_waits (Some x) = is_waiting x

-- whether a STREAM frame is to be sent: a byte is lost or fresh, or the end waits; none of a stream that was reset
unfoldable pub has_more : SendPart → Bool
has_more s = not (is_some s.reset) && (has_bytes (waiting s.buffer) || end_waits s.end)

-- whether the end is acknowledged
abbrev pub end_acked : Option Standing → Bool
end_acked None = false
end_acked (Some x) = is_acked x

-- whether nothing more is to be sent or acknowledged: RESET_STREAM is, or all bytes and the end are
abbrev pub done_with : Option Reset → Bool → Bool
done_with (Some r) all = is_acked r.standing
done_with None all = all

-- whether nothing more is to be sent or acknowledged
unfoldable pub is_done : SendPart → Bool
is_done s = done_with s.reset (end_acked s.end && not (has_bytes s.buffer.kept))

-- the code and the final size of a RESET_STREAM that waits: as many bytes as were written
abbrev pub owed_reset : Option Reset → ℕ → Option (VarInt × ℕ)
owed_reset None size = None
owed_reset (Some r) size = if is_waiting r.standing then Some (r.code, size) else None

-- the RESET_STREAM that waits to be sent
unfoldable pub reset_owed : SendPart → Option (VarInt × ℕ)
reset_owed s = owed_reset s.reset s.buffer.written

-- the part of the stream that a STREAM frame holds, of its bytes that wait: with the end where the bytes reach it, and the
-- end alone where it waits and no byte does
abbrev pub part_of : Option (ℕ × List ℕ) → SendPart → Option Part
part_of (Some p) s = Some (record { offset = p.0; bytes = p.1; last = is_some s.end && (p.0 + length p.1 == s.buffer.written) })
part_of None s = if end_waits s.end then Some (record { offset = s.buffer.written; bytes = []; last = true }) else None

-- What may be sent next of a stream, with at most so many bytes: nothing of one that was reset
unfoldable pub IsOffer : ℕ → SendPart → Option Part → Type 0
IsOffer most s part =
    (bytes : Option (ℕ × List ℕ)) × IsNext most s.buffer bytes × (part ≡ (if is_some s.reset then None else part_of bytes s))
