-- Which sides the steps change
use Rattle.std.proofs.Common.{ℕ, Bool, List, take, Option, refl}
use Rattle.std.specs.Prelude.{ℤ}
use Rattle.qc_base.specs.declared.side.Dir.{Dir}
use Rattle.qc_base.specs.declared.varint.VarInt.{VarInt}
use Rattle.qc_recv.specs.Owed.{credit_lost as side_credit_lost, credit_sealed as side_credit_sealed, stop_lost, stop_sealed}
use Rattle.qc_recv.specs.Receiving.{opened, reset_asked, reset_taken, stop_asked, stream_taken}
use Rattle.qc_send_stream.specs.declared.fault.WriteError.{WriteError}
use Rattle.qc_send_stream.specs.Sending.{finished, part_acked, part_lost, part_sealed, part_written, reset_acked, reset_lost, reset_sealed, was_reset}
use Rattle.qc_streams.specs.declared.control.Control.TheVariants.{Reset, Stop, MaxData, MaxStreamData, MaxStreams}
use Rattle.qc_streams.specs.declared.parts.StreamPart.{StreamPart}
use Rattle.qc_streams.specs.Calls.{after_read, if_known}
use Rattle.qc_streams.specs.StreamBytes.{part_end}
use Rattle.qc_streams.specs.Waits.{Accepted, Wrote, Refused, Finished, WasReset, Began, Read, Stopped, ResetAsked, PrioritySet, StreamCame, ResetCame, StopCame, StreamLimitCame, ControlSealed, ControlLost, ControlAcked, PartSealed, BytesLost, BytesAcked}
use Rattle.qc_streams.proofs.StepAt.{came_to, sent_to}
use Rattle.qc_streams.proofs.Stepped.{ChangesNone, ChangesReceiving, ChangesSending}
use Rattle.std.specs.Prelude.{Result}
use Rattle.qc_recv.specs.declared.recv.Chunk.{Chunk}
use Rattle.qc_streams.specs.declared.fault.ReadFault.{ReadFault}

pub accepted_none : (dir : Dir) → ChangesNone (Accepted dir)
unfolding came_to sent_to
accepted_none dir = record { came = λ id r. refl; sent = λ id p. refl }

pub refused_none : (e : WriteError) (j : ℕ) → ChangesNone (Refused e j)
unfolding came_to sent_to
refused_none e j = record { came = λ id r. refl; sent = λ id p. refl }

pub priority_none : (priority : ℤ) (j : ℕ) → ChangesNone (PrioritySet priority j)
unfolding came_to sent_to
priority_none priority j = record { came = λ id r. refl; sent = λ id p. refl }

pub stop_none : (j : ℕ) (code : VarInt) → ChangesNone (StopCame j code)
unfolding came_to sent_to
stop_none j code = record { came = λ id r. refl; sent = λ id p. refl }

pub limit_none : (j limit : ℕ) → ChangesNone (StreamLimitCame j limit)
unfolding came_to sent_to
limit_none j limit = record { came = λ id r. refl; sent = λ id p. refl }

pub stop_acked_none : (j : ℕ) (code : VarInt) → ChangesNone (ControlAcked (Stop j code))
unfolding came_to sent_to
stop_acked_none j code = record { came = λ id r. refl; sent = λ id p. refl }

pub credit_acked_none : (j limit : ℕ) → ChangesNone (ControlAcked (MaxStreamData j limit))
unfolding came_to sent_to
credit_acked_none j limit = record { came = λ id r. refl; sent = λ id p. refl }

pub data_sealed_none : (limit : ℕ) → ChangesNone (ControlSealed (MaxData limit))
unfolding came_to sent_to
data_sealed_none limit = record { came = λ id r. refl; sent = λ id p. refl }

pub streams_sealed_none : (dir : Dir) (limit : ℕ) → ChangesNone (ControlSealed (MaxStreams dir limit))
unfolding came_to sent_to
streams_sealed_none dir limit = record { came = λ id r. refl; sent = λ id p. refl }

pub data_lost_none : (limit : ℕ) → ChangesNone (ControlLost (MaxData limit))
unfolding came_to sent_to
data_lost_none limit = record { came = λ id r. refl; sent = λ id p. refl }

pub streams_lost_none : (dir : Dir) (limit : ℕ) → ChangesNone (ControlLost (MaxStreams dir limit))
unfolding came_to sent_to
streams_lost_none dir limit = record { came = λ id r. refl; sent = λ id p. refl }

pub data_acked_none : (limit : ℕ) → ChangesNone (ControlAcked (MaxData limit))
unfolding came_to sent_to
data_acked_none limit = record { came = λ id r. refl; sent = λ id p. refl }

pub streams_acked_none : (dir : Dir) (limit : ℕ) → ChangesNone (ControlAcked (MaxStreams dir limit))
unfolding came_to sent_to
streams_acked_none dir limit = record { came = λ id r. refl; sent = λ id p. refl }

pub wrote_sends : (j n : ℕ) (chunk : List ℕ) → ChangesSending j (Wrote j n chunk) (if_known (part_written (take n chunk)))
unfolding came_to sent_to
wrote_sends j n chunk = record { came = λ id r. refl; sent = λ id p. refl }

pub finished_sends : (j : ℕ) → ChangesSending j (Finished j) (if_known finished)
unfolding came_to sent_to
finished_sends j = record { came = λ id r. refl; sent = λ id p. refl }

pub reset_sends : (code : VarInt) (j : ℕ) → ChangesSending j (WasReset code j) (if_known (was_reset code))
unfolding came_to sent_to
reset_sends code j = record { came = λ id r. refl; sent = λ id p. refl }

pub reset_sealed_sends : (j : ℕ) (code : VarInt) (size : ℕ) → ChangesSending j (ControlSealed (Reset j code size)) (reset_sealed)
unfolding came_to sent_to
reset_sealed_sends j code size = record { came = λ id r. refl; sent = λ id p. refl }

pub reset_lost_sends : (j : ℕ) (code : VarInt) (size : ℕ) → ChangesSending j (ControlLost (Reset j code size)) (reset_lost)
unfolding came_to sent_to
reset_lost_sends j code size = record { came = λ id r. refl; sent = λ id p. refl }

pub reset_acked_sends : (j : ℕ) (code : VarInt) (size : ℕ) → ChangesSending j (ControlAcked (Reset j code size)) (reset_acked)
unfolding came_to sent_to
reset_acked_sends j code size = record { came = λ id r. refl; sent = λ id p. refl }

pub part_sends : (d : StreamPart) → ChangesSending d.id (PartSealed d) (part_sealed d.part.offset (part_end d.part) d.part.last)
unfolding came_to sent_to
part_sends d = record { came = λ id r. refl; sent = λ id p. refl }

pub bytes_lost_sends : (j start stop : ℕ) (last : Bool) → ChangesSending j (BytesLost j start stop last) (part_lost start stop last)
unfolding came_to sent_to
bytes_lost_sends j start stop last = record { came = λ id r. refl; sent = λ id p. refl }

pub bytes_acked_sends : (j start stop : ℕ) (last : Bool) → ChangesSending j (BytesAcked j start stop last) (part_acked start stop last)
unfolding came_to sent_to
bytes_acked_sends j start stop last = record { came = λ id r. refl; sent = λ id p. refl }

pub began_receives : (ordered : Bool) (j : ℕ) → ChangesReceiving j (Began ordered j) (opened ordered)
unfolding came_to sent_to
began_receives ordered j = record { came = λ id r. refl; sent = λ id p. refl }

pub read_receives : (ordered : Bool) (result : Result (Option Chunk) ReadFault) (j : ℕ) → ChangesReceiving j (Read ordered result j) (after_read ordered result)
unfolding came_to sent_to
read_receives ordered result j = record { came = λ id r. refl; sent = λ id p. refl }

pub stopped_receives : (code : VarInt) (j : ℕ) → ChangesReceiving j (Stopped code j) (stop_asked code)
unfolding came_to sent_to
stopped_receives code j = record { came = λ id r. refl; sent = λ id p. refl }

pub asked_receives : (j : ℕ) → ChangesReceiving j (ResetAsked j) (reset_asked)
unfolding came_to sent_to
asked_receives j = record { came = λ id r. refl; sent = λ id p. refl }

pub stream_receives : (j o : ℕ) (bs : List ℕ) (last : Bool) → ChangesReceiving j (StreamCame j o bs last) (stream_taken o bs last)
unfolding came_to sent_to
stream_receives j o bs last = record { came = λ id r. refl; sent = λ id p. refl }

pub reset_receives : (j : ℕ) (code : VarInt) (size : ℕ) → ChangesReceiving j (ResetCame j code size) (reset_taken code size)
unfolding came_to sent_to
reset_receives j code size = record { came = λ id r. refl; sent = λ id p. refl }

pub stop_sealed_receives : (j : ℕ) (code : VarInt) → ChangesReceiving j (ControlSealed (Stop j code)) (stop_sealed)
unfolding came_to sent_to
stop_sealed_receives j code = record { came = λ id r. refl; sent = λ id p. refl }

pub stop_lost_receives : (j : ℕ) (code : VarInt) → ChangesReceiving j (ControlLost (Stop j code)) (stop_lost)
unfolding came_to sent_to
stop_lost_receives j code = record { came = λ id r. refl; sent = λ id p. refl }

pub credit_sealed_receives : (j limit : ℕ) → ChangesReceiving j (ControlSealed (MaxStreamData j limit)) (side_credit_sealed)
unfolding came_to sent_to
credit_sealed_receives j limit = record { came = λ id r. refl; sent = λ id p. refl }

pub credit_lost_receives : (j limit : ℕ) → ChangesReceiving j (ControlLost (MaxStreamData j limit)) (side_credit_lost)
unfolding came_to sent_to
credit_lost_receives j limit = record { came = λ id r. refl; sent = λ id p. refl }
