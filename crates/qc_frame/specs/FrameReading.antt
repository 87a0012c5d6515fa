-- How frames are read (RFC 9000, section 19; RFC 9221, section 4): one reader a kind, and the table of types.
-- A field that is cut is UnexpectedEnd; a value that its kind does not allow is Malformed, right where it was read.
use Rattle.std.specs.Prelude.{ℕ, zero, suc, ◌+◌, ◌-◌, ◌/◌, ◌%◌, ◌==◌, Bool, true, false, ◌&&◌, ◌||◌, nat_lt, nat_le, if◌then◌else◌, List, [], ◌∷◌, Option, None, Some, Result, Ok, Err}
use Rattle.std.specs.Int.{w64}
use Rattle.qc_base.specs.Reading.{Reader, ◌>>=◌, give, refuse, text_of, rest_at, or_fault, byte_of, bytes_of, blob_of, varint_of, word_of}
use Rattle.qc_base.specs.declared.side.Dir.{Dir}
use Rattle.qc_base.specs.declared.side.Dir.TheVariants.{Bi, Uni}
use Rattle.qc_frame.specs.Frame.{FrameValue, TypedValue}
use Rattle.qc_frame.specs.declared.frames.EcnCounts.{EcnCounts}
use Rattle.qc_frame.specs.declared.frames.FrameOf.TheVariants as frames
use Rattle.qc_frame.specs.declared.fault.FrameFault.{FrameFault}
use Rattle.qc_frame.specs.declared.fault.FrameFault.TheVariants.{UnexpectedEnd, InvalidFrameId, Malformed}
use Rattle.qc_frame.specs.declared.fault.InvalidFrame.{InvalidFrame}

-- ---- fields

-- a variable-length integer
abbrev pub number_at : Reader FrameFault ℕ
number_at = or_fault UnexpectedEnd varint_of

-- one byte
abbrev pub byte_at : Reader FrameFault ℕ
byte_at = or_fault UnexpectedEnd byte_of

-- so many bytes
abbrev pub bytes_at : ℕ → Reader FrameFault (List ℕ)
bytes_at n = or_fault UnexpectedEnd (bytes_of n)

-- a byte string behind its length
abbrev pub blob_at : Reader FrameFault (List ℕ)
blob_at = or_fault UnexpectedEnd blob_of

-- eight bytes as a number
abbrev pub word_at : Reader FrameFault ℕ
word_at = or_fault UnexpectedEnd (word_of w64)

-- ---- ACK (RFC 9000, section 19.3). Ranges go down; each is a gap and a length below the smallest number so far.

-- ranges below a smallest number, so many; refused where one would fall below 0, once at its gap and once at its length
unfoldable pub more_ranges_at : ℕ → (smallest : ℕ) → Reader FrameFault (Unit {0})
more_ranges_at zero smallest = give tt
more_ranges_at (suc count) smallest = do
  gap ← number_at
  refuse (nat_lt smallest (gap + 2)) Malformed (do
    len ← number_at
    refuse (nat_lt (smallest - (gap + 2)) len) Malformed (more_ranges_at count (smallest - (gap + 2) - len)))

-- the first range, which ends at the largest number, and so many more
unfoldable pub ranges_at : (count largest : ℕ) → Reader FrameFault (Unit {0})
ranges_at count largest = do
  first ← number_at
  refuse (nat_lt largest first) Malformed (more_ranges_at count (largest - first))

-- the three counts of packets with a mark of congestion, or none of them
unfoldable pub counts_at : Bool → Reader FrameFault (Option EcnCounts)
counts_at false = give None
counts_at true = do
  ect0 ← number_at
  ect1 ← number_at
  ce ← number_at
  give (Some (record { ect0 = ect0; ect1 = ect1; ce = ce }))

-- ACK, with or without counts; its ranges are kept as they are spelled
unfoldable pub ack_at : Bool → Reader FrameFault FrameValue
ack_at has_counts = do
  largest ← number_at
  delay ← number_at
  count ← number_at
  additional ← text_of (ranges_at count largest)
  ecn ← counts_at has_counts
  give (frames.Ack (record { largest = largest; delay = delay; additional = additional; ecn = ecn }))

-- ---- streams (RFC 9000, sections 19.4, 19.5, 19.8 to 19.14)

-- RESET_STREAM
unfoldable pub reset_stream_at : Reader FrameFault FrameValue
reset_stream_at = do
  id ← number_at
  error_code ← number_at
  final_size ← number_at
  give (frames.ResetStream id error_code final_size)

-- STOP_SENDING
unfoldable pub stop_sending_at : Reader FrameFault FrameValue
stop_sending_at = do
  id ← number_at
  error_code ← number_at
  give (frames.StopSending id error_code)

-- no offset stands for 0
unfoldable pub offset_at : Bool → Reader FrameFault ℕ
offset_at false = give 0
offset_at true = number_at

-- a body with no length goes to the end of the packet
unfoldable pub body_at : Bool → Reader FrameFault (List ℕ)
body_at false = rest_at
body_at true = blob_at

-- STREAM, by the three bits of its type
unfoldable pub stream_at : (has_offset has_length fin : Bool) → Reader FrameFault FrameValue
stream_at has_offset has_length fin = do
  id ← number_at
  offset ← offset_at has_offset
  body ← body_at has_length
  give (frames.Stream id offset fin body)

-- MAX_DATA
unfoldable pub max_data_at : Reader FrameFault FrameValue
max_data_at = do
  limit ← number_at
  give (frames.MaxData limit)

-- MAX_STREAM_DATA
unfoldable pub max_stream_data_at : Reader FrameFault FrameValue
max_stream_data_at = do
  id ← number_at
  offset ← number_at
  give (frames.MaxStreamData id offset)

-- MAX_STREAMS of this direction
unfoldable pub max_streams_at : Dir → Reader FrameFault FrameValue
max_streams_at dir = do
  count ← number_at
  give (frames.MaxStreams dir count)

-- DATA_BLOCKED
unfoldable pub data_blocked_at : Reader FrameFault FrameValue
data_blocked_at = do
  offset ← number_at
  give (frames.DataBlocked offset)

-- STREAM_DATA_BLOCKED
unfoldable pub stream_data_blocked_at : Reader FrameFault FrameValue
stream_data_blocked_at = do
  id ← number_at
  offset ← number_at
  give (frames.StreamDataBlocked id offset)

-- STREAMS_BLOCKED of this direction
unfoldable pub streams_blocked_at : Dir → Reader FrameFault FrameValue
streams_blocked_at dir = do
  limit ← number_at
  give (frames.StreamsBlocked dir limit)

-- ---- the handshake and the connection (RFC 9000, sections 19.6, 19.7, 19.15 to 19.19; RFC 9221, section 4)

-- CRYPTO
unfoldable pub crypto_at : Reader FrameFault FrameValue
crypto_at = do
  offset ← number_at
  body ← blob_at
  give (frames.Crypto offset body)

-- NEW_TOKEN; one of no bytes has a form
unfoldable pub new_token_at : Reader FrameFault FrameValue
new_token_at = do
  token ← blob_at
  give (frames.NewToken token)

-- NEW_CONNECTION_ID; refused where it retires itself, and where its id has no byte or more than 20
unfoldable pub new_connection_id_at : Reader FrameFault FrameValue
new_connection_id_at = do
  sequence ← number_at
  retire_prior_to ← number_at
  refuse (nat_lt sequence retire_prior_to) Malformed (do
    len ← byte_at
    refuse ((len == 0) || nat_lt 20 len) Malformed (do
      id ← bytes_at len
      reset_token ← bytes_at 16
      give (frames.NewConnectionId (record { sequence = sequence; retire_prior_to = retire_prior_to; id = id; reset_token = reset_token }))))

-- RETIRE_CONNECTION_ID
unfoldable pub retire_connection_id_at : Reader FrameFault FrameValue
retire_connection_id_at = do
  sequence ← number_at
  give (frames.RetireConnectionId sequence)

-- PATH_CHALLENGE
unfoldable pub path_challenge_at : Reader FrameFault FrameValue
path_challenge_at = do
  word ← word_at
  give (frames.PathChallenge word)

-- PATH_RESPONSE
unfoldable pub path_response_at : Reader FrameFault FrameValue
path_response_at = do
  word ← word_at
  give (frames.PathResponse word)

-- frame type 0 stands for none
abbrev pub type_given : ℕ → Option ℕ
type_given ty = if ty == 0 then None else Some ty

-- CONNECTION_CLOSE of the transport
unfoldable pub connection_close_at : Reader FrameFault FrameValue
connection_close_at = do
  error_code ← number_at
  frame_type ← number_at
  reason ← blob_at
  give (frames.ConnectionClose error_code (type_given frame_type) reason)

-- CONNECTION_CLOSE of the application
unfoldable pub application_close_at : Reader FrameFault FrameValue
application_close_at = do
  error_code ← number_at
  reason ← blob_at
  give (frames.ApplicationClose error_code reason)

-- DATAGRAM, with or without a length
unfoldable pub datagram_at : Bool → Reader FrameFault FrameValue
datagram_at has_length = do
  body ← body_at has_length
  give (frames.Datagram body)

-- ---- the types (RFC 9000, section 12.4, table 3; RFC 9221, section 4)

-- a test of the type, and what stands behind it
abbrev pub Row : Type 0
Row = Bool × Reader FrameFault FrameValue

-- what stands behind this type: one row a kind
abbrev pub rows : ℕ → List Row
rows ty =
    (ty == 0x00, give frames.Padding)
    ∷ (ty == 0x01, give frames.Ping)
    ∷ (ty == 0x02, ack_at false)
    ∷ (ty == 0x03, ack_at true)
    ∷ (ty == 0x04, reset_stream_at)
    ∷ (ty == 0x05, stop_sending_at)
    ∷ (ty == 0x06, crypto_at)
    ∷ (ty == 0x07, new_token_at)
    ∷ (nat_le 0x08 ty && nat_le ty 0x0f, stream_at (ty / 4 % 2 == 1) (ty / 2 % 2 == 1) (ty % 2 == 1))
    ∷ (ty == 0x10, max_data_at)
    ∷ (ty == 0x11, max_stream_data_at)
    ∷ (ty == 0x12, max_streams_at Bi)
    ∷ (ty == 0x13, max_streams_at Uni)
    ∷ (ty == 0x14, data_blocked_at)
    ∷ (ty == 0x15, stream_data_blocked_at)
    ∷ (ty == 0x16, streams_blocked_at Bi)
    ∷ (ty == 0x17, streams_blocked_at Uni)
    ∷ (ty == 0x18, new_connection_id_at)
    ∷ (ty == 0x19, retire_connection_id_at)
    ∷ (ty == 0x1a, path_challenge_at)
    ∷ (ty == 0x1b, path_response_at)
    ∷ (ty == 0x1c, connection_close_at)
    ∷ (ty == 0x1d, application_close_at)
    ∷ (ty == 0x1e, give frames.HandshakeDone)
    ∷ (ty == 0x30, datagram_at false)
    ∷ (ty == 0x31, datagram_at true)
    ∷ []

-- by the first row whose test holds
abbrev pub pick : List Row → Reader FrameFault FrameValue
pick [] bytes = Err InvalidFrameId
pick (row ∷ others) bytes = if row.0 then row.1 bytes else pick others bytes

-- what stands behind a type
unfoldable pub fields_at : ℕ → Reader FrameFault FrameValue
fields_at ty = pick (rows ty)

-- what stands behind a type is told with it, be it a frame or a fault
abbrev pub naming : ℕ → Result (FrameValue × List ℕ) FrameFault → Result (TypedValue × List ℕ) InvalidFrame
naming ty (Ok read) = Ok (record { ty = ty; frame = read.0 }, read.1)
naming ty (Err why) = Err (record { ty = Some ty; why = why })

-- what stands behind a type, or the fault that the type itself is cut
abbrev pub behind_type : Option (ℕ × List ℕ) → Result (TypedValue × List ℕ) InvalidFrame
behind_type None = Err (record { ty = None; why = UnexpectedEnd })
behind_type (Some ty) = naming ty.0 (fields_at ty.0 ty.1)

-- a frame at the front of bytes, and its type, which may have any length
unfoldable pub frame_at : List ℕ → Result (TypedValue × List ℕ) InvalidFrame
frame_at bytes = behind_type (varint_of bytes)
