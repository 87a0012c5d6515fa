-- Which bytes are which frame (RFC 9000, section 19; RFC 9221, section 4). Numbers may be spelled in any form.
use Rattle.std.specs.Prelude.{ℕ, zero, suc, ◌+◌, ◌-◌, ◌<◌, ◌≤◌, Bool, true, false, List, [], ◌∷◌, length, Option, None, Some, MatchOption, Result, Ok, Err}
use Rattle.std.specs.Int.{w64}
use Rattle.qc_base.specs.Grammar.{Spelling, ◌>>=◌, Is, Where, Text, Bytes, Byte, Word, Rest, Varint, Blob}
use Rattle.qc_base.specs.StreamId.{dir_bit}
use Rattle.qc_base.specs.declared.side.Dir.{Dir}
use Rattle.qc_frame.specs.Frame.{FrameValue, TypedValue}
use Rattle.qc_frame.specs.FrameReading.{type_given}
use Rattle.qc_frame.specs.FrameSpelling.{stream_type}
use Rattle.qc_frame.specs.declared.frames.EcnCounts.{EcnCounts}
use Rattle.qc_frame.specs.declared.frames.FrameOf.TheVariants as frames
use Rattle.qc_frame.specs.declared.fault.InvalidFrame.{InvalidFrame}

-- ---- ACK (section 19.3). No range goes below 0: between two of them lie gap + 1 numbers.

-- ranges below a smallest number, so many: of each the gap above it, and its length
abbrev pub MoreRanges : ℕ → (smallest : ℕ) → Spelling (Unit {0})
MoreRanges zero smallest = Is tt
MoreRanges (suc count) smallest = do
  gap ← Varint
  Where (gap + 2 ≤ smallest) (do
    len ← Varint
    Where (len ≤ smallest - (gap + 2)) (MoreRanges count (smallest - (gap + 2) - len)))

-- the first range, which ends at the largest number, by its length, and so many more
abbrev pub Ranges : (count largest : ℕ) → Spelling (Unit {0})
Ranges count largest = do
  first ← Varint
  Where (first ≤ largest) (MoreRanges count (largest - first))

-- the three counts of packets with a mark of congestion, or none of them
abbrev pub Counts : Bool → Spelling (Option EcnCounts)
Counts false = Is None
Counts true = do
  ect0 ← Varint
  ect1 ← Varint
  ce ← Varint
  Is (Some (record { ect0 = ect0; ect1 = ect1; ce = ce }))

-- ACK: the largest number, the delay, how many ranges come behind the first one, the ranges, the counts
abbrev pub Ack : Bool → Spelling FrameValue
Ack has_counts = do
  largest ← Varint
  delay ← Varint
  count ← Varint
  additional ← Text (Ranges count largest)
  ecn ← Counts has_counts
  Is (frames.Ack (record { largest = largest; delay = delay; additional = additional; ecn = ecn }))

-- ---- streams (sections 19.4, 19.5, 19.8 to 19.14)

-- RESET_STREAM: the stream, the code, the final size
abbrev pub ResetStream : Spelling FrameValue
ResetStream = do
  id ← Varint
  error_code ← Varint
  final_size ← Varint
  Is (frames.ResetStream id error_code final_size)

-- STOP_SENDING: the stream, the code
abbrev pub StopSending : Spelling FrameValue
StopSending = do
  id ← Varint
  error_code ← Varint
  Is (frames.StopSending id error_code)

-- an offset; where it is left out it is 0
abbrev pub Offset : Bool → Spelling ℕ
Offset false = Is 0
Offset true = Varint

-- a body behind its length; where that is left out, all bytes that are left
abbrev pub Body : Bool → Spelling (List ℕ)
Body false = Rest
Body true = Blob

-- STREAM: the stream, the offset, the body; whether there is an offset, a length and an end is said by the type
abbrev pub Stream : (has_offset has_length fin : Bool) → Spelling FrameValue
Stream has_offset has_length fin = do
  id ← Varint
  offset ← Offset has_offset
  body ← Body has_length
  Is (frames.Stream id offset fin body)

-- MAX_DATA: the limit
abbrev pub MaxData : Spelling FrameValue
MaxData = do
  limit ← Varint
  Is (frames.MaxData limit)

-- MAX_STREAM_DATA: the stream, the limit
abbrev pub MaxStreamData : Spelling FrameValue
MaxStreamData = do
  id ← Varint
  offset ← Varint
  Is (frames.MaxStreamData id offset)

-- MAX_STREAMS of either direction: the limit
abbrev pub MaxStreams : Dir → Spelling FrameValue
MaxStreams dir = do
  count ← Varint
  Is (frames.MaxStreams dir count)

-- DATA_BLOCKED: the limit
abbrev pub DataBlocked : Spelling FrameValue
DataBlocked = do
  offset ← Varint
  Is (frames.DataBlocked offset)

-- STREAM_DATA_BLOCKED: the stream, the limit
abbrev pub StreamDataBlocked : Spelling FrameValue
StreamDataBlocked = do
  id ← Varint
  offset ← Varint
  Is (frames.StreamDataBlocked id offset)

-- STREAMS_BLOCKED of either direction: the limit
abbrev pub StreamsBlocked : Dir → Spelling FrameValue
StreamsBlocked dir = do
  limit ← Varint
  Is (frames.StreamsBlocked dir limit)

-- ---- the handshake and the connection (sections 19.6, 19.7, 19.15 to 19.19; RFC 9221, section 4)

-- CRYPTO: the offset, the bytes of the handshake
abbrev pub Crypto : Spelling FrameValue
Crypto = do
  offset ← Varint
  body ← Blob
  Is (frames.Crypto offset body)

-- NEW_TOKEN: the token
abbrev pub NewToken : Spelling FrameValue
NewToken = do
  token ← Blob
  Is (frames.NewToken token)

-- NEW_CONNECTION_ID: its number, the number below which ids are retired, the id behind its length, the token that resets
abbrev pub NewConnectionId : Spelling FrameValue
NewConnectionId = do
  sequence ← Varint
  retire_prior_to ← Varint
  Where (retire_prior_to ≤ sequence) (do
    len ← Byte
    Where ((0 < len) × (len ≤ 20)) (do
      id ← Bytes len
      reset_token ← Bytes 16
      Is (frames.NewConnectionId (record { sequence = sequence; retire_prior_to = retire_prior_to; id = id; reset_token = reset_token }))))

-- RETIRE_CONNECTION_ID: the number of the id
abbrev pub RetireConnectionId : Spelling FrameValue
RetireConnectionId = do
  sequence ← Varint
  Is (frames.RetireConnectionId sequence)

-- PATH_CHALLENGE: eight bytes, as a number
abbrev pub PathChallenge : Spelling FrameValue
PathChallenge = do
  word ← Word w64
  Is (frames.PathChallenge word)

-- PATH_RESPONSE: the same
abbrev pub PathResponse : Spelling FrameValue
PathResponse = do
  word ← Word w64
  Is (frames.PathResponse word)

-- CONNECTION_CLOSE of the transport: the code, the type of the frame that caused it, the reason
abbrev pub ConnectionClose : Spelling FrameValue
ConnectionClose = do
  error_code ← Varint
  frame_type ← Varint
  reason ← Blob
  Is (frames.ConnectionClose error_code (type_given frame_type) reason)

-- CONNECTION_CLOSE of the application: the code, the reason
abbrev pub ApplicationClose : Spelling FrameValue
ApplicationClose = do
  error_code ← Varint
  reason ← Blob
  Is (frames.ApplicationClose error_code reason)

-- DATAGRAM: the body; whether there is a length is said by the type
abbrev pub Datagram : Bool → Spelling FrameValue
Datagram has_length = do
  body ← Body has_length
  Is (frames.Datagram body)

-- ---- the types (RFC 9000, section 12.4, table 3)

-- the bytes a, which stand behind the type, begin with the other fields of f, and go on with z
pub data Fields (f : FrameValue) (a z : List ℕ) : ℕ → Type 0 where
  is_padding : Is frames.Padding f a z → Fields f a z 0x00
  is_ping : Is frames.Ping f a z → Fields f a z 0x01
  is_ack : Ack false f a z → Fields f a z 0x02
  is_ack_with_counts : Ack true f a z → Fields f a z 0x03
  is_reset_stream : ResetStream f a z → Fields f a z 0x04
  is_stop_sending : StopSending f a z → Fields f a z 0x05
  is_crypto : Crypto f a z → Fields f a z 0x06
  is_new_token : NewToken f a z → Fields f a z 0x07
  is_stream : (has_offset has_length fin : Bool) → Stream has_offset has_length fin f a z → Fields f a z (stream_type has_offset has_length fin)
  is_max_data : MaxData f a z → Fields f a z 0x10
  is_max_stream_data : MaxStreamData f a z → Fields f a z 0x11
  is_max_streams : (dir : Dir) → MaxStreams dir f a z → Fields f a z (0x12 + dir_bit dir)
  is_data_blocked : DataBlocked f a z → Fields f a z 0x14
  is_stream_data_blocked : StreamDataBlocked f a z → Fields f a z 0x15
  is_streams_blocked : (dir : Dir) → StreamsBlocked dir f a z → Fields f a z (0x16 + dir_bit dir)
  is_new_connection_id : NewConnectionId f a z → Fields f a z 0x18
  is_retire_connection_id : RetireConnectionId f a z → Fields f a z 0x19
  is_path_challenge : PathChallenge f a z → Fields f a z 0x1a
  is_path_response : PathResponse f a z → Fields f a z 0x1b
  is_connection_close : ConnectionClose f a z → Fields f a z 0x1c
  is_application_close : ApplicationClose f a z → Fields f a z 0x1d
  is_handshake_done : Is frames.HandshakeDone f a z → Fields f a z 0x1e
  is_datagram : Datagram false f a z → Fields f a z 0x30
  is_datagram_with_length : Datagram true f a z → Fields f a z 0x31

-- Frames are read in any form and written in their shortest (RFC 9000, section 19). The bytes begin with the frame f, whose
-- type stands before its other fields, and go on with z
abbrev pub FrameAt : Spelling TypedValue
FrameAt f a z = (b : List ℕ) × Varint f.ty a b × Fields f.frame b z f.ty

-- no frame stands at the front of the bytes; the type that the fault names does, and where it names none no type does
pub record NoFrameAt (a : List ℕ) (ty : Option ℕ) : Type 0 where
  pub none : (f : TypedValue) (z : List ℕ) → FrameAt f a z → ⊥
  pub typed : MatchOption ty ((n : ℕ) (b : List ℕ) → Varint n a b → ⊥) (λ n. (b : List ℕ) × Varint n a b)

-- the bytes are these frames, to the end or the first bytes that are no frame
pub data Payload : List (Result TypedValue InvalidFrame) → List ℕ → Type 0 where
  no_more : Payload [] []
  frame_and : (f : TypedValue) (a z : List ℕ) (others : List (Result TypedValue InvalidFrame)) → FrameAt f a z → Payload others z → Payload (Ok f ∷ others) a
  fault : (invalid : InvalidFrame) (a : List ℕ) → 0 < length a → NoFrameAt a invalid.ty → Payload (Err invalid ∷ []) a
