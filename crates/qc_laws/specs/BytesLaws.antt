-- Laws over whole runs, said of the bytes that the application writes on streams (RFC 9000, sections 2.2, 3.1 and 13.3).
use Rattle.std.specs.Prelude.{◌≡◌, ℕ, ◌<◌, ◌==◌, ◌&&◌, ◌||◌, nat_le, nat_lt, Bool, true, false, List, length, Option, None, Some}
use Rattle.std.specs.List.{list_any}
use Rattle.qc_base.specs.declared.side.SpaceId.TheVariants.{«Data»}
use Rattle.qc_flight.specs.Packets.{Entry}
use Rattle.qc_flight.specs.declared.stream_frames.StreamMeta.{StreamMeta}
use Rattle.qc_recovery.specs.Steps as recovery
use Rattle.qc_send_stream.specs.declared.send.SendPart.{SendPart}
use Rattle.qc_streams.specs.Records.{record_of}
use Rattle.qc_streams.specs.declared.state.StreamsState.{StreamsState}
use Rattle.qc_streams.specs.declared.stream.Stream.{Stream}
use Rattle.qc_state.specs.declared.input.Input.{Input}
use Rattle.qc_state.specs.declared.input.Input.TheVariants as input
use Rattle.qc_state.specs.declared.trace.Answer.{Answer}
use Rattle.qc_state.specs.declared.trace.Answer.TheVariants as answer
use Rattle.qc_state.specs.declared.trace.Step.{Step as TraceStep}
use Rattle.qc_state.specs.Life.{is_open}
use Rattle.qc_state.specs.Types.{Types, Meaning}
use Rattle.qc_state.specs.View.{View}
use Rattle.qc_laws.specs.AckedLaws.{AcksFrames, all_acked}
use Rattle.qc_laws.specs.CryptoLaws.{is_awaited, is_kept}
use Rattle.qc_laws.specs.StreamsLaws.{with_steps}
use Rattle.qc_laws.specs.WriteLaws.{written_in}

-- ---- where a byte is

-- a STREAM frame has this byte of a stream, by which bytes of it were kept of the frame
abbrev pub has_byte : (id o : ℕ) → StreamMeta → Bool
has_byte id o meta = (meta.id == id) && (nat_le meta.start o && nat_lt o meta.end)

-- a packet among these has it
abbrev pub is_held : (id o : ℕ) → List Entry → Bool
is_held id o es = list_any (λ e. list_any (has_byte id o) e.1.stream_frames) es

-- it waits to be sealed: its stream keeps it, and it never was sealed, or it was lost since
abbrev pub waits_in : ℕ → Option SendPart → Bool
waits_in o None = false
waits_in o (Some part) = is_kept o part.buffer.kept && is_awaited o part.buffer

-- the same of a stream that may not be there
abbrev pub waits_on : ℕ → Option Stream → Bool
waits_on o None = false
waits_on o (Some stream) = waits_in o stream.sending

-- the byte at an offset of a stream waits in the state of all streams
abbrev pub byte_waits : (id o : ℕ) → StreamsState → Bool
byte_waits id o s = waits_on o (record_of id s.records)

-- ---- which streams are reset

-- an input resets the stream with an id
abbrev pub resets_by : ℕ → Input → Answer → Bool
resets_by id (input.ResetSend time stream code) answer.Done = stream == id
resets_by id _ _ = false

-- one of them does
abbrev pub reset_in : ℕ → List (Input × TraceStep) → Bool
reset_in id calls = list_any (λ call. resets_by id call.0 call.1.answer) calls

module _ {t : Types} where
  -- From one view to another, over inputs whose trace is this, where the streams were new: as long as the connection is open, each byte that the
  -- inputs wrote on a stream, and none of them reset it, waits to be sealed, is in flight, or was acknowledged: a packet that has it in a
  -- STREAM frame is in flight, or is one of those that recovery's steps acknowledged.
  pub record KeepsWritten (m : Meaning t) (is : List Input) (xs : List TraceStep) (s s' : View t) : Type 0 where
    pub acks : AcksFrames m is xs s s'
    pub bytes : is_open s'.life.state ≡ true → (id o : ℕ) → o < length (written_in id (with_steps is xs)) → reset_in id (with_steps is xs) ≡ false →
        (byte_waits id o s'.lower.streams || (is_held id o (recovery.space_of «Data» s'.lower.recovery).flight || is_held id o (all_acked acks.recovers.steps))) ≡ true
