-- How frames are written (RFC 9000, section 19; RFC 9221, section 4): each number in its shortest form
use Rattle.std.specs.Prelude.{ℕ, zero, suc, ◌+◌, ◌/◌, ◌==◌, List, [], ◌∷◌, ◌++◌, length, Bool, true, false, if◌then◌else◌, Option, None, Some, unwrap_or, codes}
use Rattle.std.specs.List.{flat_map}
use Rattle.std.specs.Option.{option_map_or}
use Rattle.std.specs.Int.{w64, to_be_bytes}
use Rattle.qc_base.specs.Reading.{varint_of}
use Rattle.qc_base.specs.Spelling.{bit, blob}
use Rattle.qc_base.specs.StreamId.{dir_bit}
use Rattle.qc_base.specs.Varint.{varint}
use Rattle.qc_frame.specs.Frame.{FrameValue, AckValue}
use Rattle.qc_frame.specs.declared.frames.EcnCounts.{EcnCounts}
use Rattle.qc_frame.specs.declared.frames.FrameOf.TheVariants as frames

-- ---- ACK (RFC 9000, section 19.3)

-- the first numbers that the bytes spell, at most so many
abbrev pub numbers_within : ℕ → List ℕ → List ℕ
numbers_within zero bytes = []
numbers_within (suc most) bytes = option_map_or (λ x. x.0 ∷ numbers_within most x.1) (varint_of bytes) []

-- the numbers that the bytes spell: of an ACK's ranges the first one's length, and then a gap and a length each
unfoldable pub numbers_of : List ℕ → List ℕ
numbers_of bytes = numbers_within (length bytes) bytes

-- an ACK with counts of ECN has a type of its own
abbrev pub ack_type : Option EcnCounts → ℕ
ack_type None = 0x02
ack_type (Some _) = 0x03

-- three counts, or none
abbrev pub ecn_spelling : Option EcnCounts → List ℕ
ecn_spelling None = []
ecn_spelling (Some counts) = varint counts.ect0 ++ varint counts.ect1 ++ varint counts.ce

-- an ACK: behind its delay the number of ranges but for the first, then the ranges
unfoldable pub ack_spelling : AckValue → List ℕ
ack_spelling ack =
    varint (ack_type ack.ecn) ++ varint ack.largest ++ varint ack.delay ++ varint (length (numbers_of ack.additional) / 2)
    ++ flat_map varint (numbers_of ack.additional) ++ ecn_spelling ack.ecn

-- ---- STREAM (RFC 9000, section 19.8)

-- bit 4 says that there is an offset, bit 2 a length, bit 1 that the stream ends
abbrev pub stream_type : (has_offset has_length fin : Bool) → ℕ
stream_type has_offset has_length fin = 0x08 + bit has_offset 4 + bit has_length 2 + bit fin 1

-- no offset stands for 0
abbrev pub offset_spelling : ℕ → List ℕ
offset_spelling offset = if offset == 0 then [] else varint offset

-- whether a STREAM frame has an offset
abbrev pub has_offset : ℕ → Bool
has_offset offset = if offset == 0 then false else true

-- ---- all kinds

-- the bytes of a frame, its type first
unfoldable pub spelling : FrameValue → List ℕ
spelling frames.Padding = varint 0x00
spelling frames.Ping = varint 0x01
spelling (frames.Ack ack) = ack_spelling ack
spelling (frames.ResetStream id code size) = varint 0x04 ++ varint id ++ varint code ++ varint size
spelling (frames.StopSending id code) = varint 0x05 ++ varint id ++ varint code
spelling (frames.Crypto offset body) = varint 0x06 ++ varint offset ++ blob body
spelling (frames.NewToken token) = varint 0x07 ++ blob token
spelling (frames.Stream id offset fin body) = varint (stream_type (has_offset offset) true fin) ++ varint id ++ offset_spelling offset ++ blob body
spelling (frames.MaxData limit) = varint 0x10 ++ varint limit
spelling (frames.MaxStreamData id offset) = varint 0x11 ++ varint id ++ varint offset
spelling (frames.MaxStreams dir count) = varint (0x12 + dir_bit dir) ++ varint count
spelling (frames.DataBlocked offset) = varint 0x14 ++ varint offset
spelling (frames.StreamDataBlocked id offset) = varint 0x15 ++ varint id ++ varint offset
spelling (frames.StreamsBlocked dir limit) = varint (0x16 + dir_bit dir) ++ varint limit
spelling (frames.NewConnectionId new) = varint 0x18 ++ varint new.sequence ++ varint new.retire_prior_to ++ (length new.id ∷ new.id) ++ new.reset_token
spelling (frames.RetireConnectionId sequence) = varint 0x19 ++ varint sequence
spelling (frames.PathChallenge word) = varint 0x1a ++ to_be_bytes w64 word
spelling (frames.PathResponse word) = varint 0x1b ++ to_be_bytes w64 word
spelling (frames.ConnectionClose code frame_type reason) = varint 0x1c ++ varint code ++ varint (unwrap_or frame_type 0) ++ blob reason
spelling (frames.ApplicationClose code reason) = varint 0x1d ++ varint code ++ blob reason
spelling frames.HandshakeDone = varint 0x1e
spelling (frames.Datagram body) = varint 0x31 ++ blob body

-- the type with which that spelling begins
unfoldable pub frame_type : FrameValue → ℕ
frame_type frames.Padding = 0x00
frame_type frames.Ping = 0x01
frame_type (frames.Ack ack) = ack_type ack.ecn
frame_type (frames.ResetStream _ _ _) = 0x04
frame_type (frames.StopSending _ _) = 0x05
frame_type (frames.Crypto _ _) = 0x06
frame_type (frames.NewToken _) = 0x07
frame_type (frames.Stream id offset fin body) = stream_type (has_offset offset) true fin
frame_type (frames.MaxData _) = 0x10
frame_type (frames.MaxStreamData _ _) = 0x11
frame_type (frames.MaxStreams dir _) = 0x12 + dir_bit dir
frame_type (frames.DataBlocked _) = 0x14
frame_type (frames.StreamDataBlocked _ _) = 0x15
frame_type (frames.StreamsBlocked dir _) = 0x16 + dir_bit dir
frame_type (frames.NewConnectionId _) = 0x18
frame_type (frames.RetireConnectionId _) = 0x19
frame_type (frames.PathChallenge _) = 0x1a
frame_type (frames.PathResponse _) = 0x1b
frame_type (frames.ConnectionClose _ _ _) = 0x1c
frame_type (frames.ApplicationClose _ _) = 0x1d
frame_type frames.HandshakeDone = 0x1e
frame_type (frames.Datagram _) = 0x31

-- the bytes of frames, one after the other
abbrev pub frames_spelling : List FrameValue → List ℕ
frames_spelling fs = flat_map spelling fs

-- the bytes of a frame at the end of a packet, where STREAM and DATAGRAM need no length
unfoldable pub last_spelling : FrameValue → List ℕ
last_spelling (frames.Stream id offset fin body) = varint (stream_type (has_offset offset) false fin) ++ varint id ++ offset_spelling offset ++ body
last_spelling (frames.Datagram body) = varint 0x30 ++ body
last_spelling f = spelling f

-- the type with which that spelling begins
unfoldable pub last_type : FrameValue → ℕ
last_type (frames.Stream id offset fin body) = stream_type (has_offset offset) false fin
last_type (frames.Datagram _) = 0x30
last_type f = frame_type f

-- whether the receiver owes an acknowledgement of the frame (RFC 9000, section 13.2)
unfoldable pub elicits : FrameValue → Bool
elicits frames.Padding = false
elicits (frames.Ack _) = false
elicits (frames.ConnectionClose _ _ _) = false
elicits (frames.ApplicationClose _ _) = false
elicits _ = true

-- the name of a frame's kind; what an application closes with has a name of its own
unfoldable pub frame_name : FrameValue → List ℕ
frame_name frames.Padding = codes "PADDING"
frame_name frames.Ping = codes "PING"
frame_name (frames.Ack _) = codes "ACK"
frame_name (frames.ResetStream _ _ _) = codes "RESET_STREAM"
frame_name (frames.StopSending _ _) = codes "STOP_SENDING"
frame_name (frames.Crypto _ _) = codes "CRYPTO"
frame_name (frames.NewToken _) = codes "NEW_TOKEN"
frame_name (frames.Stream _ _ _ _) = codes "STREAM"
frame_name (frames.MaxData _) = codes "MAX_DATA"
frame_name (frames.MaxStreamData _ _) = codes "MAX_STREAM_DATA"
frame_name (frames.MaxStreams _ _) = codes "MAX_STREAMS"
frame_name (frames.DataBlocked _) = codes "DATA_BLOCKED"
frame_name (frames.StreamDataBlocked _ _) = codes "STREAM_DATA_BLOCKED"
frame_name (frames.StreamsBlocked _ _) = codes "STREAMS_BLOCKED"
frame_name (frames.NewConnectionId _) = codes "NEW_CONNECTION_ID"
frame_name (frames.RetireConnectionId _) = codes "RETIRE_CONNECTION_ID"
frame_name (frames.PathChallenge _) = codes "PATH_CHALLENGE"
frame_name (frames.PathResponse _) = codes "PATH_RESPONSE"
frame_name (frames.ConnectionClose _ _ _) = codes "CONNECTION_CLOSE"
frame_name (frames.ApplicationClose _ _) = codes "APPLICATION_CLOSE"
frame_name frames.HandshakeDone = codes "HANDSHAKE_DONE"
frame_name (frames.Datagram _) = codes "DATAGRAM"
