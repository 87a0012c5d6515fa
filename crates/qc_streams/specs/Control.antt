-- Frames of streams and of limits without bytes of a stream: which is sent next, and what becomes of them (RFC 9000, sections
-- 19.4, 19.5 and 19.9 to 19.11)
use Rattle.std.specs.Prelude.{ℕ, ◌+◌, nat_le, if◌then◌else◌, length, Option, None, Some, is_some}
use Rattle.std.specs.Option.{option_and_then, option_map}
use Rattle.qc_base.specs.declared.side.Dir.{Dir}
use Rattle.qc_base.specs.declared.side.Dir.TheVariants.{Bi, Uni}
use Rattle.qc_base.specs.declared.varint.VarInt.{VarInt}
use Rattle.qc_base.specs.Varint.{varint}
use Rattle.qc_recv.specs.declared.recv.Recv.{Recv}
use Rattle.qc_recv.specs.Owed.{credit_value, credit_sealed, credit_lost, stop_sealed, stop_lost}
use Rattle.qc_send_stream.specs.declared.send.SendPart.{SendPart}
use Rattle.qc_send_stream.specs.Sending.{reset_owed, reset_sealed, reset_acked, reset_lost}
use Rattle.qc_turns.specs.Ids.{first_id, without_id}
use Rattle.qc_streams.specs.declared.control.Control.{Control}
use Rattle.qc_streams.specs.declared.control.Control.TheVariants.{Reset, Stop, MaxData, MaxStreamData, MaxStreams}
use Rattle.qc_streams.specs.declared.stream.Stream.{Stream}
use Rattle.qc_streams.specs.declared.state.StreamsState.{StreamsState}
use Rattle.qc_streams.specs.Owed.{max_data_owed, max_data_sealed, max_data_lost, max_streams_owed, max_streams_sealed, max_streams_lost}
use Rattle.qc_streams.specs.Records.{record_of, changed}
use Rattle.qc_streams.specs.Stops.{first_stop, with_stop, without_stop}
use Rattle.qc_streams.specs.Stream.{with_receiving, with_sending}
use Rattle.qc_streams.specs.Streams.{left_over, settled}
use Rattle.qc_streams.specs.Queues.{touched}

-- the code and the final size of the RESET_STREAM that a sending side owes
abbrev pub reset_due : Option SendPart → Option (VarInt × ℕ)
reset_due None = None
reset_due (Some p) = reset_owed p

-- the code of the STOP_SENDING that a receiving side owes
abbrev pub stop_due : Option Recv → Option VarInt
stop_due None = None
stop_due (Some r) = if r.stop_waits then r.stopped else None

-- the credit of the MAX_STREAM_DATA that a receiving side owes
abbrev pub credit_due : Option Recv → Option ℕ
credit_due None = None
credit_due (Some r) = if r.credit_waits then Some (credit_value r) else None

-- the RESET_STREAM that the stream with an id owes
abbrev pub reset_of : ℕ → Option Stream → Option Control
reset_of id st = option_map (λ due. Reset id due.0 due.1) (option_and_then (λ st. reset_due st.sending) st)

-- the STOP_SENDING that the stream with an id owes
abbrev pub stop_of : ℕ → Option Stream → Option Control
stop_of id st = option_map (Stop id) (option_and_then (λ st. stop_due st.receiving) st)

-- the MAX_STREAM_DATA that the stream with an id owes
abbrev pub credit_of : ℕ → Option Stream → Option Control
credit_of id st = option_map (MaxStreamData id) (option_and_then (λ st. credit_due st.receiving) st)

-- the STOP_SENDING of a stream that has gone
abbrev pub gone_stop : StreamsState → Option Control
gone_stop s = option_map (λ stop. Stop stop.0 stop.1) (first_stop s.waiting.gone_stops)

-- the frame of the stream that is the first of a set
abbrev pub of_first : (ℕ → Option Stream → Option Control) → Option ℕ → StreamsState → Option Control
of_first f first s = option_and_then (λ id. f id (record_of id s.records)) first

-- the MAX_DATA with a limit that is owed
abbrev pub data_with : Option ℕ → Option Control
data_with limit = option_map MaxData limit

-- the MAX_STREAMS of a direction with a limit that is owed
abbrev pub streams_with : Dir → Option ℕ → Option Control
streams_with dir limit = option_map (MaxStreams dir) limit

-- how many bytes a frame takes: its type, of one byte, and its fields
abbrev pub control_len : Control → ℕ
control_len (Reset id code size) = 1 + length (varint id) + length (varint code) + length (varint size)
control_len (Stop id code) = 1 + length (varint id) + length (varint code)
control_len (MaxData limit) = 1 + length (varint limit)
control_len (MaxStreamData id limit) = 1 + length (varint id) + length (varint limit)
control_len (MaxStreams dir limit) = 1 + length (varint limit)

-- a frame, where there is room for it
abbrev pub if_fits : ℕ → Option Control → Option Control
if_fits room None = None
if_fits room (Some c) = if nat_le (control_len c) room then Some c else None

-- a frame, or where there is none another
abbrev pub or_else : Option Control → Option Control → Option Control
or_else (Some c) other = Some c
or_else None other = other

-- the frame of a limit that is sent next
abbrev pub next_limit : ℕ → StreamsState → Option Control
next_limit room s =
    or_else (if_fits room (data_with (max_data_owed s)))
    (or_else (if_fits room (of_first credit_of (first_id s.waiting.credits) s))
    (or_else (if_fits room (streams_with Bi (max_streams_owed Bi s)))
    (if_fits room (streams_with Uni (max_streams_owed Uni s)))))

-- the frame that is sent next: RESET_STREAM, STOP_SENDING, those of streams that have gone last, MAX_DATA, MAX_STREAM_DATA and
-- MAX_STREAMS, in this order
unfoldable pub next_control : ℕ → StreamsState → Option Control
next_control room s =
    or_else (if_fits room (of_first reset_of (first_id s.waiting.resets) s))
    (or_else (if_fits room (of_first stop_of (first_id s.waiting.stops) s))
    (or_else (if_fits room (gone_stop s))
    (or_else (if_fits room (data_with (max_data_owed s)))
    (or_else (if_fits room (of_first credit_of (first_id s.waiting.credits) s))
    (or_else (if_fits room (streams_with Bi (max_streams_owed Bi s)))
    (if_fits room (streams_with Uni (max_streams_owed Uni s))))))))

-- a frame is sealed: it waits no longer, and with its STOP_SENDING a stream leaves that has ended
unfoldable pub control_sealed : Control → StreamsState → StreamsState
control_sealed (Reset id code size) s = record s {
  records = changed (with_sending reset_sealed) id s.records;
  waiting = record s.waiting { resets = without_id id s.waiting.resets };
}
control_sealed (Stop id code) s = left_over id (record s {
  records = changed (with_receiving stop_sealed) id s.records;
  waiting = record s.waiting { stops = without_id id s.waiting.stops; gone_stops = without_stop id s.waiting.gone_stops };
})
control_sealed (MaxData limit) s = max_data_sealed s
control_sealed (MaxStreamData id limit) s = record s {
  records = changed (with_receiving credit_sealed) id s.records;
  waiting = record s.waiting { credits = without_id id s.waiting.credits };
}
control_sealed (MaxStreams dir limit) s = max_streams_sealed dir s

-- a frame is drawn
abbrev pub control_drawn : Option Control → StreamsState → StreamsState
control_drawn None s = s
control_drawn (Some c) s = control_sealed c s

-- a STOP_SENDING is lost: it waits again, by itself where its stream has gone
unfoldable pub stop_again : ℕ → VarInt → StreamsState → StreamsState
stop_again id code s =
    if is_some (record_of id s.records) then touched id (record s { records = changed (with_receiving stop_lost) id s.records })
    else record s { waiting = record s.waiting { gone_stops = with_stop id code s.waiting.gone_stops } }

-- a frame is lost: it waits again, where it still holds
unfoldable pub control_lost : Control → StreamsState → StreamsState
control_lost (Reset id code size) s = touched id (record s { records = changed (with_sending reset_lost) id s.records })
control_lost (Stop id code) s = stop_again id code s
control_lost (MaxData limit) s = max_data_lost s
control_lost (MaxStreamData id limit) s = touched id (record s { records = changed (with_receiving credit_lost) id s.records })
control_lost (MaxStreams dir limit) s = max_streams_lost dir s

-- a frame is acknowledged: with its RESET_STREAM a sending side has ended
unfoldable pub control_acked : Control → StreamsState → StreamsState
control_acked (Reset id code size) s = settled id (record s { records = changed (with_sending reset_acked) id s.records })
control_acked (Stop id code) s = s
control_acked (MaxData limit) s = s
control_acked (MaxStreamData id limit) s = s
control_acked (MaxStreams dir limit) s = s
