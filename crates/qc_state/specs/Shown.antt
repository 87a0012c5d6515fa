-- What is printed of a connection's end, and of what it reports.
use Rattle.std.specs.Prelude.{ℕ, nat_le, ◌&&◌, if◌then◌else◌, List, [], ◌∷◌, ◌++◌, codes, decimal}
use Rattle.std.specs.List.{flat_map}
use Rattle.std.specs.Net.Text.{socket_text}
use Rattle.qc_base.specs.ResetToken.{token_text}
use Rattle.qc_base.specs.declared.side.Dir.{Dir}
use Rattle.qc_base.specs.declared.side.Dir.TheVariants.{Bi, Uni}
use Rattle.qc_streams.specs.declared.events.StreamEvent.{StreamEvent}
use Rattle.qc_streams.specs.declared.events.StreamEvent.TheVariants as stream
use Rattle.qc_base.specs.TransportErrorCode.{code_text}
use Rattle.qc_state.specs.declared.life.ApplicationClose.{ApplicationClose}
use Rattle.qc_state.specs.declared.life.ConnectionClose.{ConnectionClose}
use Rattle.qc_state.specs.declared.life.ConnectionError.{ConnectionError}
use Rattle.qc_state.specs.declared.life.ConnectionError.TheVariants.{VersionMismatch, TransportError, ConnectionClosed, ApplicationClosed, TimedOut}
use Rattle.qc_state.specs.declared.events.EndpointEvent.{EndpointEvent}
use Rattle.qc_state.specs.declared.events.EndpointEvent.TheVariants as endpoint
use Rattle.qc_state.specs.declared.events.Event.{Event}
use Rattle.qc_state.specs.declared.events.Event.TheVariants.{HandshakeDataReady, Connected, ConnectionLost, DatagramReceived, DatagramsUnblocked, Stream}

-- a byte of a reason: printable ASCII as it is, any other as a question mark
abbrev pub shown_byte : ℕ → List ℕ
shown_byte b = if nat_le 32 b && nat_le b 126 then b ∷ [] else codes "?"

-- the bytes of a reason, one after another
abbrev pub shown_bytes : List ℕ → List ℕ
shown_bytes bytes = flat_map shown_byte bytes

-- the reason of a close, behind its code; nothing where it has none
unfoldable pub shown_reason : List ℕ → List ℕ
shown_reason [] = []
shown_reason (b ∷ bs) = codes ": " ++ shown_bytes (b ∷ bs)

-- a close for an error of the transport: the error's name, and the reason
unfoldable pub connection_close_text : ConnectionClose → List ℕ
connection_close_text close = code_text close.error_code ++ shown_reason close.reason

-- an application's close: its code, and the reason
unfoldable pub application_close_text : ApplicationClose → List ℕ
application_close_text close = decimal close.error_code ++ shown_reason close.reason

-- why a connection ended
unfoldable pub error_text : ConnectionError → List ℕ
error_text (TransportError error) = code_text error.code
error_text (ConnectionClosed close) = codes "aborted by peer: " ++ connection_close_text close
error_text (ApplicationClosed close) = codes "closed by peer: " ++ application_close_text close
error_text TimedOut = codes "timed out"
error_text VersionMismatch = codes "peer doesn't implement any supported version"

-- a kind of streams
abbrev pub dir_text : Dir → List ℕ
dir_text Bi = codes "bidirectional"
dir_text Uni = codes "unidirectional"

-- what happened on a stream, or to how many there may be
unfoldable pub stream_event_text : StreamEvent → List ℕ
stream_event_text (stream.Opened dir) = dir_text dir ++ codes " streams opened"
stream_event_text (stream.Readable id) = codes "stream " ++ decimal id ++ codes " readable"
stream_event_text (stream.Writable id) = codes "stream " ++ decimal id ++ codes " writable"
stream_event_text (stream.Finished id) = codes "stream " ++ decimal id ++ codes " finished"
stream_event_text (stream.Stopped id code) = codes "stream " ++ decimal id ++ codes " stopped"
stream_event_text (stream.Available dir) = dir_text dir ++ codes " streams available"

-- what the application is told
unfoldable pub event_text : Event → List ℕ
event_text HandshakeDataReady = codes "handshake data ready"
event_text Connected = codes "connected"
event_text (ConnectionLost why) = codes "connection lost: " ++ error_text why
event_text DatagramReceived = codes "datagram received"
event_text DatagramsUnblocked = codes "datagrams unblocked"
event_text (Stream event) = stream_event_text event

-- what the endpoint is told
unfoldable pub endpoint_text : EndpointEvent → List ℕ
endpoint_text (endpoint.ResetToken remote token) = codes "stateless reset token " ++ (token_text token ++ (codes " of " ++ socket_text remote))
endpoint_text (endpoint.NeedIdentifiers time count) = decimal count ++ codes " identifiers needed"
endpoint_text (endpoint.RetireConnectionId time sequence more) = codes "identifier " ++ (decimal sequence ++ codes " retired")
endpoint_text endpoint.Drained = codes "drained"
