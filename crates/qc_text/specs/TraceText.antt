-- The text of a trace.
use Rattle.std.specs.Prelude.{ℕ, ◌+◌, List, [], ◌∷◌, ◌++◌, Bool, true, false, ◌||◌, length, if◌then◌else◌, ◌==◌, ◌/◌, Option, Some, None, codes, decimal}
use Rattle.std.specs.List.{flat_map}
use Rattle.std.specs.Net.Addr.{ipv4_octets, ipv6_octets}
use Rattle.std.specs.Net.Socket.{socket_ip, socket_port}
use Rattle.std.specs.declared.net.ip_addr.IpAddr.{IpAddr}
use Rattle.std.specs.declared.net.ip_addr.IpAddr.TheVariants.{V4, V6}
use Rattle.std.specs.declared.net.socket_addr.SocketAddr.{SocketAddr}
use Rattle.hex.specs.Hex.{encode_lower}
use Rattle.qc_base.specs.Ecn.{ecn_bits}
use Rattle.qc_base.specs.declared.ecn.EcnCodepoint.{EcnCodepoint}
use Rattle.qc_base.specs.declared.transport_error.TransportError.{TransportError as TransportFault}
use Rattle.qc_base.specs.declared.side.Dir.{Dir}
use Rattle.qc_base.specs.declared.side.Dir.TheVariants.{Bi, Uni}
use Rattle.qc_base.specs.declared.side.SpaceId.{SpaceId}
use Rattle.qc_base.specs.declared.side.SpaceId.TheVariants.{Initial, Handshake, Data}
use Rattle.qc_frame.specs.Frame.{FrameValue}
use Rattle.qc_frame.specs.FrameSpelling.{frame_name, spelling}
use Rattle.qc_frame.specs.declared.frames.FrameOf.TheVariants as frames
use Rattle.qc_state.specs.declared.deeds.Did.{Did}
use Rattle.qc_state.specs.declared.deeds.Did.TheVariants as deed
use Rattle.qc_state.specs.declared.deeds.Layer.{Layer}
use Rattle.qc_state.specs.declared.deeds.Layer.TheVariants.{Streams, Recovery, Session, Ids, Life, Store}
use Rattle.qc_state.specs.declared.deeds.Quiet.{Quiet}
use Rattle.qc_state.specs.declared.deeds.Quiet.TheVariants.{NothingOwed, Silent, Amplification, Congestion, Pacing, Killed}
use Rattle.qc_state.specs.declared.deeds.Verdict.{Verdict}
use Rattle.qc_state.specs.declared.deeds.Verdict.TheVariants.{Ignored, Failure, BadBits, BadUpdate, Seen, ReadForClose, NumberOnly, AckOnly, Admitted, RetryTaken, Versions}
use Rattle.qc_state.specs.declared.events.EndpointEvent.{EndpointEvent}
use Rattle.qc_state.specs.declared.events.EndpointEvent.TheVariants.{ResetToken, NeedIdentifiers, RetireConnectionId, Drained}
use Rattle.qc_state.specs.declared.events.Event.{Event}
use Rattle.qc_state.specs.declared.events.Event.TheVariants.{HandshakeDataReady, Connected, ConnectionLost, DatagramReceived, DatagramsUnblocked, Stream}
use Rattle.qc_state.specs.declared.input.Word.{Word}
use Rattle.qc_state.specs.declared.input.Word.TheVariants as word
use Rattle.qc_state.specs.declared.life.ConnectionError.{ConnectionError}
use Rattle.qc_state.specs.declared.life.ConnectionError.TheVariants.{VersionMismatch, TransportError, ConnectionClosed, ApplicationClosed, TimedOut}
use Rattle.qc_state.specs.declared.trace.Answer.{Answer}
use Rattle.qc_state.specs.declared.trace.Answer.TheVariants as answer
use Rattle.qc_state.specs.declared.trace.Refusal.{Refusal}
use Rattle.qc_state.specs.declared.trace.Refusal.TheVariants as refusal
use Rattle.qc_state.specs.declared.trace.Step.{Step}
use Rattle.qc_streams.specs.declared.events.StreamEvent.{StreamEvent}
use Rattle.qc_streams.specs.declared.events.StreamEvent.TheVariants as streamed

-- a number, or `-` where there is none
unfoldable pub number_or_dash : Option ℕ → List ℕ
number_or_dash None = codes "-"
number_or_dash (Some number) = decimal number

-- bytes in hex, or `-` where there are none
unfoldable pub bytes_or_dash : List ℕ → List ℕ
bytes_or_dash [] = codes "-"
bytes_or_dash (byte ∷ bytes) = encode_lower (byte ∷ bytes)

-- the octets of an IP address in hex: 8 digits for IPv4 and 32 for IPv6
unfoldable pub ip_text : IpAddr → List ℕ
ip_text (V4 ip) = encode_lower (ipv4_octets ip)
ip_text (V6 ip) = encode_lower (ipv6_octets ip)

-- an IP address and its UDP port; a flow label and a scope are left out
unfoldable pub address_text : SocketAddr → List ℕ
address_text address = ip_text (socket_ip address) ++ codes "/" ++ decimal (socket_port address)

-- ---- frames

-- whether the frame is PADDING, which a text counts instead of spelling it (RFC 9000, section 19.1)
abbrev pub is_padding : FrameValue → Bool
is_padding frames.Padding = true
is_padding _ = false

-- a frame that isn't PADDING: its name and the hex of its spelling
unfoldable pub frame_text : FrameValue → List ℕ
frame_text frame = codes " " ++ frame_name frame ++ codes "/" ++ encode_lower (spelling frame)

-- a run of so many PADDING frames
unfoldable pub padding_text : ℕ → List ℕ
padding_text count = if count == 0 then [] else codes " PADDING*" ++ decimal count

-- frames after a run of so many PADDING frames
abbrev pub padded_text : ℕ → List FrameValue → List ℕ
padded_text run [] = padding_text run
padded_text run (frame ∷ frames) =
    if is_padding frame then padded_text (run + 1) frames
    else padding_text run ++ frame_text frame ++ padded_text 0 frames

-- the frames of a packet, each longest run of PADDING frames as one
unfoldable pub frames_text : List FrameValue → List ℕ
frames_text frames = padded_text 0 frames

-- ---- deeds

-- a packet number space; 0-RTT and 1-RTT packets share the one named `data` (RFC 9000, section 12.3)
unfoldable pub space_name : SpaceId → List ℕ
space_name Initial = codes "initial"
space_name Handshake = codes "handshake"
space_name Data = codes "data"

-- a key's epoch, or that the packet is a 0-RTT one
unfoldable pub epoch_text : ℕ → Bool → List ℕ
epoch_text epoch early = if early then codes "early" else decimal epoch

-- which packet it is: its number space, and its number there
unfoldable pub packet_text : SpaceId → ℕ → List ℕ
packet_text space number = space_name space ++ codes " " ++ decimal number ++ codes " "

-- the line of a packet that was sealed: which one, under which key, and its frames in order
unfoldable pub sealed_text : SpaceId → ℕ → ℕ → Bool → List FrameValue → List ℕ
sealed_text space number epoch early frames =
    codes "seal " ++ packet_text space number ++ epoch_text epoch early ++ frames_text frames ++ codes "\n"

-- a packet number space, or `-` where there is none
unfoldable pub option_space_name : Option SpaceId → List ℕ
option_space_name None = codes "-"
option_space_name (Some space) = space_name space

-- what became of a packet that came
unfoldable pub verdict_name : Verdict → List ℕ
verdict_name Ignored = codes "Ignored"
verdict_name Failure = codes "Failure"
verdict_name BadBits = codes "BadBits"
verdict_name BadUpdate = codes "BadUpdate"
verdict_name Seen = codes "Seen"
verdict_name ReadForClose = codes "ReadForClose"
verdict_name NumberOnly = codes "NumberOnly"
verdict_name AckOnly = codes "AckOnly"
verdict_name Admitted = codes "Admitted"
verdict_name RetryTaken = codes "RetryTaken"
verdict_name Versions = codes "Versions"

-- the line of a packet that came: the number space of its form, its number where it opened, and what became of it
unfoldable pub piece_text : Option SpaceId → Option ℕ → Verdict → List ℕ
piece_text space number verdict =
    codes "piece " ++ option_space_name space ++ codes " " ++ number_or_dash number ++ codes " " ++ verdict_name verdict ++ codes "\n"

-- a layer that was given something
unfoldable pub layer_name : Layer → List ℕ
layer_name Streams = codes "streams"
layer_name Recovery = codes "recovery"
layer_name Session = codes "session"
layer_name Ids = codes "ids"
layer_name Life = codes "life"
layer_name Store = codes "store"

-- the name of the kind of frames with this type, of the kinds that layers are given (RFC 9000, sections 19.3 to 19.5, 19.7 to
-- 19.11, 19.15, 19.16, 19.19 and 19.20; RFC 9221, section 4); `-` for another one. The types of STREAM frames are those from 0x08 to 0x0f.
unfoldable pub type_name : ℕ → List ℕ
type_name type =
    if (type == 0x02) || (type == 0x03) then codes "ACK"
    else if type == 0x04 then codes "RESET_STREAM"
    else if type == 0x05 then codes "STOP_SENDING"
    else if type == 0x07 then codes "NEW_TOKEN"
    else if type / 8 == 1 then codes "STREAM"
    else if type == 0x10 then codes "MAX_DATA"
    else if type == 0x11 then codes "MAX_STREAM_DATA"
    else if (type == 0x12) || (type == 0x13) then codes "MAX_STREAMS"
    else if type == 0x18 then codes "NEW_CONNECTION_ID"
    else if type == 0x19 then codes "RETIRE_CONNECTION_ID"
    else if type == 0x1c then codes "CONNECTION_CLOSE"
    else if type == 0x1d then codes "APPLICATION_CLOSE"
    else if type == 0x1e then codes "HANDSHAKE_DONE"
    else if (type == 0x30) || (type == 0x31) then codes "DATAGRAM"
    else codes "-"

-- the name of a frame that is spelled by these bytes, which begin with its type
unfoldable pub given_name : List ℕ → List ℕ
given_name [] = codes "-"
given_name (type ∷ _) = type_name type

-- a frame of a kind that layers are given
abbrev pub IsGiven : FrameValue → Type 0
IsGiven (frames.Ack ack) = Unit {0}
IsGiven (frames.ResetStream id code size) = Unit {0}
IsGiven (frames.StopSending id code) = Unit {0}
IsGiven (frames.NewToken token) = Unit {0}
IsGiven (frames.Stream id offset fin body) = Unit {0}
IsGiven (frames.MaxData limit) = Unit {0}
IsGiven (frames.MaxStreamData id limit) = Unit {0}
IsGiven (frames.MaxStreams dir count) = Unit {0}
IsGiven (frames.NewConnectionId issued) = Unit {0}
IsGiven (frames.RetireConnectionId sequence) = Unit {0}
IsGiven (frames.ConnectionClose code type reason) = Unit {0}
IsGiven (frames.ApplicationClose code reason) = Unit {0}
IsGiven frames.HandshakeDone = Unit {0}
IsGiven (frames.Datagram body) = Unit {0}
IsGiven _ = ⊥

-- a frame that is spelled by these bytes: as in the line of a sealed packet, its name and the hex of its spelling
unfoldable pub named_text : List ℕ → List ℕ
named_text body = given_name body ++ codes "/" ++ encode_lower body

-- what a layer was given: a frame; the session bytes of CRYPTO frames without a head (RFC 9001, section 4), as their hex
unfoldable pub given_text : Layer → List ℕ → List ℕ
given_text Streams body = named_text body
given_text Recovery body = named_text body
given_text Session body = encode_lower body
given_text Ids body = named_text body
given_text Life body = named_text body
given_text Store body = named_text body

-- the line of what a layer was given: the layer, and what it was
unfoldable pub gave_text : Layer → List ℕ → List ℕ
gave_text layer body = codes "gave " ++ layer_name layer ++ codes " " ++ given_text layer body ++ codes "\n"

-- the kind of a reason for the end
unfoldable pub reason_name : ConnectionError → List ℕ
reason_name (TransportError error) = codes "TransportError"
reason_name (ConnectionClosed close) = codes "ConnectionClosed"
reason_name (ApplicationClosed close) = codes "ApplicationClosed"
reason_name TimedOut = codes "TimedOut"
reason_name VersionMismatch = codes "VersionMismatch"

-- of an error that this end found: its code, and the type of the frame that was at fault
unfoldable pub error_text : TransportFault → List ℕ
error_text error = decimal error.code ++ codes " " ++ number_or_dash error.frame

-- of a close of the peer's by an error of the transport: its code, the type of the frame that was at fault, and a reason
-- in words (RFC 9000, section 19.19)
unfoldable pub connection_close_text : (code : ℕ) → (frame_type : Option ℕ) → (reason : List ℕ) → List ℕ
connection_close_text code frame_type reason = decimal code ++ codes " " ++ number_or_dash frame_type ++ codes " " ++ bytes_or_dash reason

-- of a close of the peer's application: its code and its reason
unfoldable pub application_close_text : (code : ℕ) → (reason : List ℕ) → List ℕ
application_close_text code reason = decimal code ++ codes " " ++ bytes_or_dash reason

-- the values of a reason for the end, behind a space, where it has any
unfoldable pub reason_values : ConnectionError → List ℕ
reason_values (TransportError error) = codes " " ++ error_text error
reason_values (ConnectionClosed close) = codes " " ++ connection_close_text close.error_code close.frame_type close.reason
reason_values (ApplicationClosed close) = codes " " ++ application_close_text close.error_code close.reason
reason_values TimedOut = []
reason_values VersionMismatch = []

-- a reason for the end
unfoldable pub reason_text : ConnectionError → List ℕ
reason_text reason = reason_name reason ++ reason_values reason

-- why a transmit sent nothing: nothing was owed, the end had come before, or this call ended the connection
unfoldable pub quiet_name : Quiet → List ℕ
quiet_name NothingOwed = codes "NothingOwed"
quiet_name Silent = codes "Silent"
quiet_name Amplification = codes "Amplification"
quiet_name Congestion = codes "Congestion"
quiet_name Pacing = codes "Pacing"
quiet_name Killed = codes "Killed"

-- the line of a deed: a packet that was sealed, one that came, what a layer was given, a rise in the life, a reason for
-- the end, or a transmit that sent nothing
unfoldable pub did_text : Did → List ℕ
did_text (deed.Sealed space number epoch early frames) = sealed_text space number epoch early frames
did_text (deed.Piece space number verdict) = piece_text space number verdict
did_text (deed.Gave layer body) = gave_text layer body
did_text (deed.Rose life) = codes "life " ++ decimal life ++ codes "\n"
did_text (deed.Lost reason) = codes "lost " ++ reason_text reason ++ codes "\n"
did_text (deed.Quiet quiet) = codes "quiet " ++ quiet_name quiet ++ codes "\n"

-- ---- answers

-- a mark of congestion as the two bits that it is, or `-`
unfoldable pub ecn_text : Option EcnCodepoint → List ℕ
ecn_text None = codes "-"
ecn_text (Some mark) = decimal (ecn_bits mark)

-- where the bytes go, and how many they are
unfoldable pub target_text : SocketAddr → ℕ → List ℕ
target_text destination size = codes "out " ++ address_text destination ++ codes " " ++ decimal size ++ codes " "

-- the size of each datagram but the last, if there are several, and their mark of congestion
unfoldable pub marks_text : Option ℕ → Option EcnCodepoint → List ℕ
marks_text segment ecn = number_or_dash segment ++ codes " " ++ ecn_text ecn ++ codes " "

-- the line of datagrams to be sent: where to, how many bytes, the marks, and the bytes in hex
unfoldable pub out_text : SocketAddr → Option ℕ → Option EcnCodepoint → List ℕ → List ℕ
out_text destination segment ecn bytes =
    target_text destination (length bytes) ++ marks_text segment ecn ++ encode_lower bytes ++ codes "\n"

-- why a call on a stream or of a datagram was refused, with the peer's code where it has one
unfoldable pub refusal_text : Refusal → List ℕ
refusal_text refusal.Blocked = codes "Blocked"
refusal_text refusal.ClosedStream = codes "ClosedStream"
refusal_text (refusal.Stopped code) = codes "Stopped " ++ decimal code
refusal_text refusal.IllegalOrderedRead = codes "IllegalOrderedRead"
refusal_text (refusal.Reset code) = codes "Reset " ++ decimal code
refusal_text refusal.Disabled = codes "Disabled"
refusal_text refusal.UnsupportedByPeer = codes "UnsupportedByPeer"
refusal_text refusal.TooLarge = codes "TooLarge"

-- the line of bytes that were read: the offset of the first of them in their stream, and the bytes
unfoldable pub read_text : (offset : ℕ) → (body : List ℕ) → List ℕ
read_text offset body = codes "answer read " ++ decimal offset ++ codes " " ++ bytes_or_dash body ++ codes "\n"

-- a transmit that sent nothing has the deed `quiet` and no answer
abbrev pub nothing_text : Word → List ℕ
nothing_text word.Transmit = []
nothing_text _ = codes "answer none\n"

-- the line of what a call answered to an input of this kind
unfoldable pub answer_text : Word → Answer → List ℕ
answer_text w answer.Done = codes "answer done\n"
answer_text w answer.Dropped = codes "answer dropped\n"
answer_text w answer.Nothing = nothing_text w
answer_text w (answer.Flag true) = codes "answer true\n"
answer_text w (answer.Flag false) = codes "answer false\n"
answer_text w (answer.Opened id) = codes "answer opened " ++ decimal id ++ codes "\n"
answer_text w (answer.Accepted id) = codes "answer accepted " ++ decimal id ++ codes "\n"
answer_text w (answer.Wrote count) = codes "answer wrote " ++ decimal count ++ codes "\n"
answer_text w (answer.Read offset body) = read_text offset body
answer_text w answer.Ended = codes "answer ended\n"
answer_text w (answer.Datagram body) = codes "answer datagram " ++ bytes_or_dash body ++ codes "\n"
answer_text w (answer.Error why) = codes "answer error " ++ refusal_text why ++ codes "\n"
answer_text w (answer.Out destination segment ecn bytes) = out_text destination segment ecn bytes

-- ---- steps

-- whether both ends send on a stream, or one
unfoldable pub dir_name : Dir → List ℕ
dir_name Bi = codes "bi"
dir_name Uni = codes "uni"

-- what happened on a stream, or to how many there may be: of which streams, or on which one, and with which code the peer
-- stopped it
unfoldable pub stream_event_text : StreamEvent → List ℕ
stream_event_text (streamed.Opened dir) = codes "Opened " ++ dir_name dir
stream_event_text (streamed.Readable id) = codes "Readable " ++ decimal id
stream_event_text (streamed.Writable id) = codes "Writable " ++ decimal id
stream_event_text (streamed.Stopped id code) = codes "Stopped " ++ decimal id ++ codes " " ++ decimal code
stream_event_text (streamed.Finished id) = codes "Finished " ++ decimal id
stream_event_text (streamed.Available dir) = codes "Available " ++ dir_name dir

-- the line of what the application is told: that what the handshake settles is known, that the handshake is over, that the
-- connection was lost, and why, that a datagram came, that there is room for datagrams again, or what happened on a stream
unfoldable pub event_text : Event → List ℕ
event_text HandshakeDataReady = codes "event handshake-data\n"
event_text Connected = codes "event connected\n"
event_text (ConnectionLost reason) = codes "event lost " ++ reason_text reason ++ codes "\n"
event_text DatagramReceived = codes "event datagram\n"
event_text DatagramsUnblocked = codes "event unblocked\n"
event_text (Stream event) = codes "event stream " ++ stream_event_text event ++ codes "\n"

-- the line of the peer's token for a stateless reset: the address that it holds for, and the token (RFC 9000, section 10.3)
unfoldable pub reset_token_text : SocketAddr → (token : List ℕ) → List ℕ
reset_token_text remote token = codes "endpoint reset-token " ++ address_text remote ++ codes " " ++ bytes_or_dash token ++ codes "\n"

-- the line of identifiers that are wanted: at what time, and how many (RFC 9000, section 5.1.1)
unfoldable pub need_text : (time count : ℕ) → List ℕ
need_text time count = codes "endpoint need " ++ decimal time ++ codes " " ++ decimal count ++ codes "\n"

-- whether something is so, as a digit
unfoldable pub flag_text : Bool → List ℕ
flag_text false = codes "0"
flag_text true = codes "1"

-- an identifier that the peer retired: its sequence number, and whether one more is wanted in its place
unfoldable pub retired_text : (sequence : ℕ) → (more : Bool) → List ℕ
retired_text sequence more = decimal sequence ++ codes " " ++ flag_text more

-- the line of such an identifier, with the time (RFC 9000, section 19.16)
unfoldable pub retire_text : (time sequence : ℕ) → (more : Bool) → List ℕ
retire_text time sequence more = codes "endpoint retire " ++ decimal time ++ codes " " ++ retired_text sequence more ++ codes "\n"

-- the line of what the endpoint is told: the peer's token, that identifiers are wanted, that the peer retired one, or that the
-- connection's state can be dropped
unfoldable pub endpoint_text : EndpointEvent → List ℕ
endpoint_text (ResetToken remote token) = reset_token_text remote token
endpoint_text (NeedIdentifiers time count) = need_text time count
endpoint_text (RetireConnectionId time sequence more) = retire_text time sequence more
endpoint_text Drained = codes "endpoint drained\n"

-- the line of the time at which the connection wants to be called again if no input comes before
unfoldable pub timer_text : Option ℕ → List ℕ
timer_text timeout = codes "timer " ++ number_or_dash timeout ++ codes "\n"

-- an input's kind, by the word that a script has for it
unfoldable pub word_name : Word → List ℕ
word_name word.Datagram = codes "datagram"
word_name word.Timeout = codes "timeout"
word_name word.Transmit = codes "transmit"
word_name word.Open = codes "open"
word_name word.Accept = codes "accept"
word_name word.Write = codes "write"
word_name word.Finish = codes "finish"
word_name word.ResetSend = codes "reset"
word_name word.StopRecv = codes "stop"
word_name word.Read = codes "read"
word_name word.SendDatagram = codes "send"
word_name word.RecvDatagram = codes "recv"
word_name word.Close = codes "close"
word_name word.Ping = codes "ping"
word_name word.Update = codes "update"
word_name word.MaxStreams = codes "streams"
word_name word.SendWindow = codes "sendwindow"
word_name word.ReceiveWindow = codes "recvwindow"
word_name word.Identifiers = codes "ids"

-- the first line of a step: the place of its input in the list of inputs, and the input's kind and time
unfoldable pub step_head : ℕ → Word → ℕ → List ℕ
step_head at word now = codes "step " ++ decimal at ++ codes " " ++ word_name word ++ codes " " ++ decimal now ++ codes "\n"

-- the lines of a step
unfoldable pub step_text : Step → List ℕ
step_text step =
    step_head step.at step.word step.now ++ flat_map did_text step.did ++ answer_text step.word step.answer
    ++ flat_map event_text step.events ++ flat_map endpoint_text step.endpoint ++ timer_text step.timeout

-- ---- traces

-- a trace's first line and its steps, without the line that ends it
abbrev pub steps_text : List Step → List ℕ
steps_text steps = codes "qconn 1\n" ++ flat_map step_text steps

-- the text of a whole trace
unfoldable pub trace_text : List Step → List ℕ
trace_text steps = steps_text steps ++ codes "end\n"
