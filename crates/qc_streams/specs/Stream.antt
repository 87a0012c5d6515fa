-- One stream of a connection, and what a frame makes of it (RFC 9000, section 3)
use Rattle.std.specs.Prelude.{ℕ, pos, Bool, true, false, not, ◌&&◌, if◌then◌else◌, Option, None, Some, is_some}
use Rattle.std.specs.Option.{option_map}
use Rattle.qc_recv.specs.declared.recv.Recv.{Recv}
use Rattle.qc_recv.specs.declared.fault.Refusal.{Refusal as SideRefusal}
use Rattle.qc_recv.specs.Receiving.{is_ended, returned, keeps}
use Rattle.qc_send_stream.specs.declared.send.SendPart.{SendPart}
use Rattle.qc_send_stream.specs.Sending.{is_done, was_stopped, limit_raised}
use Rattle.qc_base.specs.declared.varint.VarInt.{VarInt}
use Rattle.qc_streams.specs.declared.stream.Stream.{Stream}
use Rattle.qc_streams.specs.declared.stream.Totals.{Totals}
use Rattle.qc_streams.specs.Lending.{AllRecords}
use Rattle.qc_streams.specs.Records.{record_of}

-- whether no more comes: there is no such side, or it has ended
abbrev pub receiving_over : Option Recv → Bool
receiving_over None = true
receiving_over (Some r) = is_ended r

-- whether no more is sent: there is no such side, or all is acknowledged
abbrev pub sending_over : Option SendPart → Bool
sending_over None = true
sending_over (Some p) = is_done p

-- whether a stream has ended: nothing more happens on either side
unfoldable pub is_over : Stream → Bool
is_over st = receiving_over st.receiving && sending_over st.sending

-- what a receiving side counts for the connection's credit: the greatest end of what came, and the bytes that give credit back
abbrev pub totals_of : Option Recv → Totals
totals_of None = record { received = 0; returned = 0 }
totals_of (Some r) = record { received = r.greatest; returned = returned r }

-- whether the application is told of what comes: the side is neither stopped nor reset, and hasn't ended
abbrev pub is_reading : Option Recv → Bool
is_reading None = false
is_reading (Some r) = keeps r && not (is_ended r)

-- why the receiving side refuses a frame, where there is one
abbrev pub side_refusal : (Recv → Option SideRefusal) → Option Recv → Option SideRefusal
side_refusal f None = None
side_refusal f (Some r) = f r

-- a stream of which nothing came and nothing was sent, and whether this end opened it
unfoldable pub fresh_stream : Bool → Option Recv → Option SendPart → Stream
fresh_stream taken r p = record { receiving = r; sending = p; priority = pos 0; turn = None; due = None; marked = false; taken = taken; freed = false }

-- its place is freed
unfoldable pub with_freed : Stream → Stream
with_freed st = record st { freed = true }

-- whether there is a stream whose place was freed
abbrev pub is_freed : Option Stream → Bool
is_freed None = false
is_freed (Some st) = st.freed

-- the receiving side changes, where there is one
unfoldable pub with_receiving : (Recv → Recv) → Stream → Stream
with_receiving f st = record st { receiving = option_map f st.receiving }

-- the sending side changes, where there is one
unfoldable pub with_sending : (SendPart → SendPart) → Stream → Stream
with_sending f st = record st { sending = option_map f st.sending }

-- the peer stops a sending side; one of which all is acknowledged takes no more frames
unfoldable pub stop_taken : VarInt → SendPart → SendPart
stop_taken code p = if is_done p then p else was_stopped code p

-- the peer raises a sending side's limit; one of which all is acknowledged takes no more frames
unfoldable pub limit_taken : ℕ → SendPart → SendPart
limit_taken limit p = if is_done p then p else limit_raised limit p

-- whether the peer stops the sending side for the first time
abbrev pub stops_first : Option SendPart → Bool
stops_first None = false
stops_first (Some p) = not (is_done p) && not (is_some p.stopped)

-- whether the peer stops a stream for the first time
abbrev pub stops_at : Option Stream → Bool
stops_at None = false
stops_at (Some st) = stops_first st.sending

-- why a stream refuses a frame, where there is one
abbrev pub refusal_at : (Recv → Option SideRefusal) → Option Stream → Option SideRefusal
refusal_at f None = None
refusal_at f (Some st) = side_refusal f st.receiving

-- what a stream counts for the connection's credit, nothing where it has ended
abbrev pub totals_if : Option Stream → Totals
totals_if None = record { received = 0; returned = 0 }
totals_if (Some st) = totals_of st.receiving

-- what the stream with an id counts
unfoldable pub totals_at : ℕ → AllRecords → Totals
totals_at id all = totals_if (record_of id all)

-- whether there is a stream that has ended
abbrev pub has_ended : Option Stream → Bool
has_ended None = false
has_ended (Some st) = is_over st

-- whether there is a stream from which the application is told of more
abbrev pub reads_if : Option Stream → Bool
reads_if None = false
reads_if (Some st) = is_reading st.receiving
