-- The streams of the application as a layer with steps of its own (RFC 9000, sections 2 to 4): which frames they are handed, why they
-- refuse one, and which of their steps a call is. What a step makes of them stands with the streams, and is opened nowhere here.
use Rattle.std.specs.Prelude.{ℕ, zero, suc, ◌^◌, nat_lt, Bool, true, false, ◌||◌, not, if◌then◌else◌, List, [], ◌∷◌, ◌++◌, length, Option, None, Some, option_map, is_some, Result, Ok, Err}
use Rattle.qc_base.specs.declared.side.Dir.TheVariants.{Bi, Uni}
use Rattle.qc_base.specs.declared.side.Side.{Side}
use Rattle.qc_base.specs.declared.transport_error.TransportError.{TransportError}
use Rattle.qc_frame.specs.Frame.{FrameValue}
use Rattle.qc_frame.specs.declared.frames.FrameOf.TheVariants as frames
use Rattle.qc_params.specs.declared.params.TransportParameters.{TransportParameters}
use Rattle.qc_recv.specs.declared.recv.Chunk.{Chunk}
use Rattle.qc_send_stream.specs.declared.fault.FinishError.{FinishError}
use Rattle.qc_send_stream.specs.declared.fault.FinishError.TheVariants as finish
use Rattle.qc_send_stream.specs.declared.fault.WriteError.{WriteError}
use Rattle.qc_send_stream.specs.declared.fault.WriteError.TheVariants as write
use Rattle.qc_streams.specs.declared.events.StreamEvent.{StreamEvent}
use Rattle.qc_streams.specs.declared.events.StreamEvent.TheVariants.{Opened as WereOpened}
use Rattle.qc_streams.specs.declared.fault.ReadFault.{ReadFault}
use Rattle.qc_streams.specs.declared.fault.ReadFault.TheVariants as fault
use Rattle.qc_streams.specs.declared.state.PeerLimits.{PeerLimits}
use Rattle.qc_streams.specs.declared.state.StreamsState.{StreamsState}
use Rattle.qc_streams.specs.Calls.{IsReadOf, bars_reset, closed_to, count_taken, finish_refusal, known_at, receiving_at, send_room, write_refusal}
use Rattle.qc_streams.specs.Counts.{by_dir, has_accepted}
use Rattle.qc_streams.specs.Credit.{budget}
use Rattle.qc_streams.specs.Refusals.{code_of}
use Rattle.qc_streams.specs.Steps.{Handed, Stream, ResetStream, StopSending, MaxStreamData, MaxStreams, MaxData, StreamDataBlocked, StreamsBlocked, refusal_of, steps_of}
use Rattle.qc_streams.specs.Streams.{is_own, is_uni, may_open, next_accepted, next_own}
use Rattle.qc_streams.specs.Waits as streams
use Rattle.qc_state.specs.declared.input.Input.{Input}
use Rattle.qc_state.specs.declared.input.Input.TheVariants as input
use Rattle.qc_state.specs.declared.trace.Answer.{Answer}
use Rattle.qc_state.specs.declared.trace.Answer.TheVariants as answer
use Rattle.qc_state.specs.declared.trace.Refusal.TheVariants as refusal

-- ---- frames

-- a frame about the stream with an id, where there can be one: ids have 62 bits (RFC 9000, section 2.1), so each that is read is such an id
abbrev pub of_stream : ℕ → Handed → Option Handed
of_stream id frame = if nat_lt id (2 ^ 62) then Some frame else None

-- a frame as the streams take it, if it is about them
abbrev pub stream_frame : FrameValue → Option Handed
stream_frame (frames.ResetStream id code size) = of_stream id (ResetStream id code size)
stream_frame (frames.StopSending id code) = of_stream id (StopSending id code)
stream_frame (frames.Stream id offset fin body) = of_stream id (Stream id offset body fin)
stream_frame (frames.MaxData limit) = Some (MaxData limit)
stream_frame (frames.MaxStreamData id limit) = of_stream id (MaxStreamData id limit)
stream_frame (frames.MaxStreams dir count) = Some (MaxStreams dir count)
stream_frame (frames.StreamDataBlocked id limit) = of_stream id (StreamDataBlocked id)
stream_frame (frames.StreamsBlocked dir limit) = Some (StreamsBlocked limit)
stream_frame _ = None

-- whether it is told of as it is given to them, or to the datagrams: one that only says where the peer was blocked changes nothing (RFC
-- 9000, sections 19.13 and 19.14)
abbrev pub is_given_to_streams : FrameValue → Bool
is_given_to_streams (frames.ResetStream id code size) = true
is_given_to_streams (frames.StopSending id code) = true
is_given_to_streams (frames.Stream id offset fin body) = true
is_given_to_streams (frames.MaxData limit) = true
is_given_to_streams (frames.MaxStreamData id limit) = true
is_given_to_streams (frames.MaxStreams dir count) = true
is_given_to_streams (frames.Datagram body) = true
is_given_to_streams _ = false

-- the error with which they refuse it, if they do; it names no type of frame
abbrev pub refused_by : Option Handed → StreamsState → Option TransportError
refused_by None s = None
refused_by (Some f) s = option_map (λ r. record { code = code_of r; frame = None }) (refusal_of f s)

-- so of a frame
unfoldable pub streams_stop : FrameValue → StreamsState → Option TransportError
streams_stop frame s = refused_by (stream_frame frame) s

-- the steps that they make of it, none where they refuse it
abbrev pub steps_of_handed : Option Handed → StreamsState → List streams.Step
steps_of_handed None s = []
steps_of_handed (Some f) s = steps_of f s

-- so of a frame
unfoldable pub steps_of_frame : FrameValue → StreamsState → List streams.Step
steps_of_frame frame s = steps_of_handed (stream_frame frame) s

-- ---- limits

-- the peer's limits, as its parameters have them: what it calls local are the streams that it opens (RFC 9000, section 18.2)
abbrev pub limits_of : TransportParameters → PeerLimits
limits_of p = record {
  all_data = p.initial_max_data;
  bidi_streams = p.initial_max_streams_bidi;
  uni_streams = p.initial_max_streams_uni;
  peer_bidi_data = p.initial_max_stream_data_bidi_local;
  own_bidi_data = p.initial_max_stream_data_bidi_remote;
  own_uni_data = p.initial_max_stream_data_uni;
}

-- ---- events

-- that the peer opened streams, while it waits to be told
abbrev pub opened_if : Bool → StreamEvent → List StreamEvent
opened_if waits event = if waits then event ∷ [] else []

-- the events that wait, in the order in which they are told
unfoldable pub events_of : StreamsState → List StreamEvent
events_of s = opened_if s.peer.bi.tells (WereOpened Bi) ++ (opened_if s.peer.uni.tells (WereOpened Uni) ++ s.events.items)

-- so many steps with which they are asked for one
abbrev pub asked_for : ℕ → List streams.Step
asked_for zero = []
asked_for (suc n) = streams.Polled ∷ asked_for n

-- ---- calls

-- whether the streams let an end send on the stream with an id: it is bidirectional, or the end's own (RFC 9000, section 2.1)
abbrev pub sends_on : Side → ℕ → Bool
sends_on side id = not (is_uni id) || is_own side id

-- whether they let it receive on it: it is bidirectional, or the peer's
abbrev pub receives_on : Side → ℕ → Bool
receives_on side id = not (is_uni id) || not (is_own side id)

-- a step, unless the call is refused
abbrev pub unless : Bool → streams.Step → List streams.Step
unless refused x = if refused then [] else x ∷ []

-- a write takes so many bytes, or is refused
abbrev pub write_steps : Option WriteError → (id count : ℕ) → List ℕ → List streams.Step
write_steps None id count body = streams.Wrote id count body ∷ []
write_steps (Some e) id count body = streams.Refused e id ∷ []

-- how many bytes a write takes of the stream with an id
unfoldable pub count_written : ℕ → List ℕ → StreamsState → ℕ
count_written id body s = count_taken (length body) (budget (send_room s) s.outgoing) (known_at id s)

-- The steps of the streams that an input is, where they are these: at most one, and none where the input's call is refused, or isn't one of
-- theirs. A write that is refused is one, since it is noted that it was blocked. `read` is what a read answers.
abbrev pub calls_of : Input → (read : Result (Option Chunk) ReadFault) → StreamsState → List streams.Step
calls_of (input.Open time dir) read s = unless (not (may_open dir s)) (streams.Opened dir)
calls_of (input.Accept time dir) read s = unless (has_accepted (by_dir dir s.peer)) (streams.Accepted dir)
calls_of (input.Write time id body) read s = write_steps (write_refusal id s) id (count_written id body s) body
calls_of (input.Finish time id) read s = unless (is_some (finish_refusal (known_at id s))) (streams.Finished id)
calls_of (input.ResetSend time id code) read s = unless (bars_reset (known_at id s)) (streams.WasReset code id)
calls_of (input.StopRecv time id code) read s = unless (closed_to (receiving_at id s)) (streams.Stopped code id)
calls_of (input.Read time id max) read s = streams.Read true read id ∷ []
calls_of (input.MaxStreams time dir count) read s = streams.ConcurrentSet dir count ∷ []
calls_of (input.SendWindow time size) read s = streams.SendWindowSet size ∷ []
calls_of (input.ReceiveWindow time size) read s = streams.ReceiveWindowSet size ∷ []
calls_of _ read s = []

-- ---- answers

-- what a write answers: how many bytes it took, or why it is refused
abbrev pub write_answer : Option WriteError → (count : ℕ) → Answer
write_answer None count = answer.Wrote count
write_answer (Some write.Blocked) count = answer.Error refusal.Blocked
write_answer (Some write.ClosedStream) count = answer.Error refusal.ClosedStream
write_answer (Some (write.Stopped code)) count = answer.Error (refusal.Stopped code)
write_answer (Some write.OutOfMemory) count = answer.Nothing

-- what a finish answers
abbrev pub finish_answer : Option FinishError → Answer
finish_answer None = answer.Done
finish_answer (Some finish.ClosedStream) = answer.Error refusal.ClosedStream
finish_answer (Some (finish.Stopped code)) = answer.Error (refusal.Stopped code)

-- what a call answers that is refused only where its stream is unknown, or closed to the application
abbrev pub closed_answer : Bool → Answer
closed_answer refused = if refused then answer.Error refusal.ClosedStream else answer.Done

-- what a read answers: bytes, the end, or why it gives neither
abbrev pub read_answer : Result (Option Chunk) ReadFault → Answer
read_answer (Ok (Some chunk)) = answer.Read chunk.offset chunk.bytes
read_answer (Ok None) = answer.Ended
read_answer (Err fault.ClosedStream) = answer.Error refusal.ClosedStream
read_answer (Err fault.IllegalOrderedRead) = answer.Error refusal.IllegalOrderedRead
read_answer (Err (fault.Reset code)) = answer.Error (refusal.Reset code)
read_answer (Err fault.Blocked) = answer.Error refusal.Blocked
read_answer (Err fault.OutOfMemory) = answer.Nothing

-- what an input of the streams answers, where they are these as it is made; any other is done
abbrev pub call_answer : Input → (read : Result (Option Chunk) ReadFault) → StreamsState → Answer
call_answer (input.Open time dir) read s = if may_open dir s then answer.Opened (next_own dir s) else answer.Nothing
call_answer (input.Accept time dir) read s = if has_accepted (by_dir dir s.peer) then answer.Nothing else answer.Accepted (next_accepted dir s)
call_answer (input.Write time id body) read s = write_answer (write_refusal id s) (count_written id body s)
call_answer (input.Finish time id) read s = finish_answer (finish_refusal (known_at id s))
call_answer (input.ResetSend time id code) read s = closed_answer (bars_reset (known_at id s))
call_answer (input.StopRecv time id code) read s = closed_answer (closed_to (receiving_at id s))
call_answer (input.Read time id max) read s = read_answer read
call_answer _ read s = answer.Done

-- memory didn't want
abbrev pub had_memory : Result (Option Chunk) ReadFault → Type 0
had_memory (Err fault.OutOfMemory) = ⊥
had_memory _ = Unit {0}

-- A read answers what it may: how many of the bytes that can be read in order it gives is free, up to the most, but some where there are any
abbrev pub MayRead : Input → (read : Result (Option Chunk) ReadFault) → StreamsState → Type 0
MayRead (input.Read time id max) read s = IsReadOf max true (receiving_at id s) read × had_memory read
MayRead _ read s = Unit {0}
