-- The names of frames that layers are given.
use Rattle.std.proofs.Common.{◌≡◌, ℕ, ◌+◌, ◌/◌, Bool, true, false, List, ◌++◌, length, Option, Some, None, refl}
use Rattle.std.specs.Prelude.{codes}
use Rattle.std.specs.List.{flat_map}
use Rattle.qc_base.specs.Spelling.{blob}
use Rattle.qc_base.specs.Varint.{varint}
use Rattle.qc_base.specs.declared.side.Dir.{Dir}
use Rattle.qc_base.specs.declared.side.Dir.TheVariants.{Bi, Uni}
use Rattle.qc_base.specs.StreamId.{dir_bit}
use Rattle.qc_frame.specs.Frame.{FrameValue, AckValue}
use Rattle.qc_frame.specs.FrameSpelling.{ack_type, ack_spelling, ecn_spelling, numbers_of, has_offset, offset_spelling, stream_type, frame_name, spelling}
use Rattle.qc_frame.specs.declared.frames.EcnCounts.{EcnCounts}
use Rattle.qc_frame.specs.declared.frames.FrameOf.TheVariants as frames
use Rattle.qc_text.specs.TraceText.{IsGiven, type_name, given_name}

-- bytes that begin with the type of an ACK, with or without counts
ack_named : (counts : Option EcnCounts) (a b c d e : List ℕ) → given_name (varint (ack_type counts) ++ a ++ b ++ c ++ d ++ e) ≡ codes "ACK"
unfolding given_name type_name varint
ack_named None a b c d e = refl
ack_named (Some counts) a b c d e = refl

ack_given : (ack : AckValue) → given_name (ack_spelling ack) ≡ codes "ACK"
unfolding ack_spelling
ack_given ack = ack_named ack.ecn (varint ack.largest) (varint ack.delay) (varint (length (numbers_of ack.additional) / 2)) (flat_map varint (numbers_of ack.additional)) (ecn_spelling ack.ecn)

-- bytes that begin with a type of a STREAM frame
stream_named : (offset length fin : Bool) (a b c : List ℕ) → given_name (varint (stream_type offset length fin) ++ a ++ b ++ c) ≡ codes "STREAM"
unfolding given_name type_name varint
stream_named true true true a b c = refl
stream_named true true false a b c = refl
stream_named true false true a b c = refl
stream_named true false false a b c = refl
stream_named false true true a b c = refl
stream_named false true false a b c = refl
stream_named false false true a b c = refl
stream_named false false false a b c = refl

-- or of a MAX_STREAMS frame
streams_named : (dir : Dir) (rest : List ℕ) → given_name (varint (0x12 + dir_bit dir) ++ rest) ≡ codes "MAX_STREAMS"
unfolding given_name type_name varint
streams_named Bi rest = refl
streams_named Uni rest = refl

pub given_named : (frame : FrameValue) → IsGiven frame → given_name (spelling frame) ≡ frame_name frame
unfolding given_name type_name spelling varint frame_name
given_named (frames.Ack ack) h = ack_given ack
given_named (frames.ResetStream id code size) h = refl
given_named (frames.StopSending id code) h = refl
given_named (frames.NewToken token) h = refl
given_named (frames.Stream id offset fin body) h = stream_named (has_offset offset) true fin (varint id) (offset_spelling offset) (blob body)
given_named (frames.MaxData limit) h = refl
given_named (frames.MaxStreamData id limit) h = refl
given_named (frames.MaxStreams dir count) h = streams_named dir (varint count)
given_named (frames.NewConnectionId issued) h = refl
given_named (frames.RetireConnectionId sequence) h = refl
given_named (frames.ConnectionClose code type reason) h = refl
given_named (frames.ApplicationClose code reason) h = refl
given_named frames.HandshakeDone h = refl
given_named (frames.Datagram body) h = refl
given_named _ h = absurd h
