-- Traces that no other trace shares its text with: their values are such as their types hold, and they have nothing that
-- a text leaves out.
use Rattle.std.specs.Prelude.{◌≡◌, ℕ, ◌<◌, ◌^◌, List, length, true, Option, IfSome}
use Rattle.std.specs.List.{All}
use Rattle.std.specs.Net.Addr.{ipv4_octets, ipv6_octets}
use Rattle.std.specs.Net.Socket.{socket_ip, socket_port, socket_flowinfo, socket_scope_id}
use Rattle.std.specs.declared.net.ip_addr.IpAddr.{IpAddr}
use Rattle.std.specs.declared.net.ip_addr.IpAddr.TheVariants.{V4, V6}
use Rattle.std.specs.declared.net.socket_addr.SocketAddr.{SocketAddr}
use Rattle.qc_base.specs.Grammar.{IsBytes}
use Rattle.qc_base.specs.declared.transport_error.TransportError.{TransportError as TransportFault}
use Rattle.qc_frame.specs.Frame.{FrameValue}
use Rattle.qc_frame.specs.FrameFits.{Fits, shortest}
use Rattle.qc_frame.specs.FrameSpelling.{spelling}
use Rattle.qc_state.specs.declared.deeds.Did.{Did}
use Rattle.qc_state.specs.declared.deeds.Did.TheVariants as deed
use Rattle.qc_state.specs.declared.events.EndpointEvent.{EndpointEvent}
use Rattle.qc_state.specs.declared.events.EndpointEvent.TheVariants.{ResetToken, NeedIdentifiers, RetireConnectionId, Drained}
use Rattle.qc_state.specs.declared.events.Event.{Event}
use Rattle.qc_state.specs.declared.events.Event.TheVariants.{HandshakeDataReady, Connected, ConnectionLost, DatagramReceived, DatagramsUnblocked, Stream}
use Rattle.qc_state.specs.declared.life.ConnectionError.{ConnectionError}
use Rattle.qc_state.specs.declared.life.ConnectionError.TheVariants.{VersionMismatch, TransportError, ConnectionClosed, ApplicationClosed, TimedOut}
use Rattle.qc_state.specs.declared.life.Life.{Life}
use Rattle.qc_state.specs.declared.trace.Answer.{Answer}
use Rattle.qc_state.specs.declared.trace.Answer.TheVariants as answer
use Rattle.qc_state.specs.declared.trace.Refusal.{Refusal}
use Rattle.qc_state.specs.declared.trace.Refusal.TheVariants as refusal
use Rattle.qc_state.specs.declared.trace.Step.{Step}
use Rattle.qc_state.specs.Run.{Run}
use Rattle.qc_state.specs.Types.{Types, Meaning}
use Rattle.qc_state.specs.View.{View}
use Rattle.qc_state.specs.declared.input.Input.{Input}
use Rattle.qc_state.specs.declared.paths.Paths.{Paths}
use Rattle.qc_state.specs.declared.waiting.SpaceWaiting.{SpaceWaiting}
use Rattle.qc_state.specs.declared.waiting.Waiting.{Waiting}
use Rattle.qc_streams.specs.declared.events.StreamEvent.{StreamEvent}
use Rattle.qc_streams.specs.declared.events.StreamEvent.TheVariants as streamed

-- ---- values that their types hold

-- a number of 64 bits, where there is one
abbrev pub IsOptionInRange : Option ℕ → Type 0
IsOptionInRange o = IfSome o (λ n. n < 2 ^ 64)

-- a transport error's code, and the type of the frame at fault if it names one, have 64 bits
abbrev pub IsErrorInRange : TransportFault → Type 0
IsErrorInRange error = (error.code < 2 ^ 64) × IsOptionInRange error.frame

-- the code and the type in a close of the peer's have 64 bits, and its reason is bytes
abbrev pub IsConnectionCloseInRange : (code : ℕ) → (frame_type : Option ℕ) → (reason : List ℕ) → Type 0
IsConnectionCloseInRange code frame_type reason = (code < 2 ^ 64) × IsOptionInRange frame_type × IsBytes reason

-- the code of an application's close lies below 2^62 (RFC 9000, section 16), and its reason is bytes
abbrev pub IsApplicationCloseInRange : (code : ℕ) → (reason : List ℕ) → Type 0
IsApplicationCloseInRange code reason = (code < 2 ^ 62) × IsBytes reason

-- a reason for the end, in range
abbrev pub IsReasonInRange : ConnectionError → Type 0
IsReasonInRange (TransportError error) = IsErrorInRange error
IsReasonInRange (ConnectionClosed close) = IsConnectionCloseInRange close.error_code close.frame_type close.reason
IsReasonInRange (ApplicationClosed close) = IsApplicationCloseInRange close.error_code close.reason
IsReasonInRange TimedOut = Unit {0}
IsReasonInRange VersionMismatch = Unit {0}

-- packet numbers and epochs have 64 bits, the rank of a life has 8, and frames are spelled by bytes
abbrev pub IsDeedInRange : Did → Type 0
IsDeedInRange (deed.Sealed space number epoch early frames) = (number < 2 ^ 64) × (epoch < 2 ^ 64) × (length frames < 2 ^ 128) × All (λ frame. IsBytes (spelling frame)) frames
IsDeedInRange (deed.Piece space number verdict) = IsOptionInRange number
IsDeedInRange (deed.Gave layer body) = IsBytes body
IsDeedInRange (deed.Rose life) = life < 2 ^ 8
IsDeedInRange (deed.Lost reason) = IsReasonInRange reason
IsDeedInRange (deed.Quiet quiet) = Unit {0}

-- the four or sixteen octets of an address
abbrev pub IsIpInRange : IpAddr → Type 0
IsIpInRange (V4 ip) = (length (ipv4_octets ip) ≡ 4) × IsBytes (ipv4_octets ip)
IsIpInRange (V6 ip) = (length (ipv6_octets ip) ≡ 16) × IsBytes (ipv6_octets ip)

-- an IP address that has its octets, and a UDP port of 16 bits
abbrev pub IsAddressInRange : SocketAddr → Type 0
IsAddressInRange address = IsIpInRange (socket_ip address) × (socket_port address < 2 ^ 16)

-- the code with which the peer stopped or reset a stream lies below 2^62
abbrev pub IsRefusalInRange : Refusal → Type 0
IsRefusalInRange refusal.Blocked = Unit {0}
IsRefusalInRange refusal.ClosedStream = Unit {0}
IsRefusalInRange (refusal.Stopped code) = code < 2 ^ 62
IsRefusalInRange refusal.IllegalOrderedRead = Unit {0}
IsRefusalInRange (refusal.Reset code) = code < 2 ^ 62
IsRefusalInRange refusal.Disabled = Unit {0}
IsRefusalInRange refusal.UnsupportedByPeer = Unit {0}
IsRefusalInRange refusal.TooLarge = Unit {0}

-- datagrams to be sent are bytes, with sizes of 64 bits and an address in range; a stream's id lies below 2^62 (RFC 9000,
-- section 2.1); what was read is bytes, whose offset has 64 bits, as how many were written has; a datagram that came is bytes;
-- other answers hold nothing
abbrev pub IsAnswerInRange : Answer → Type 0
IsAnswerInRange answer.Done = Unit {0}
IsAnswerInRange answer.Dropped = Unit {0}
IsAnswerInRange answer.Nothing = Unit {0}
IsAnswerInRange (answer.Flag done) = Unit {0}
IsAnswerInRange (answer.Opened id) = id < 2 ^ 62
IsAnswerInRange (answer.Accepted id) = id < 2 ^ 62
IsAnswerInRange (answer.Wrote count) = count < 2 ^ 64
IsAnswerInRange (answer.Read offset body) = (offset < 2 ^ 64) × IsBytes body
IsAnswerInRange answer.Ended = Unit {0}
IsAnswerInRange (answer.Datagram body) = IsBytes body
IsAnswerInRange (answer.Error why) = IsRefusalInRange why
IsAnswerInRange (answer.Out destination segment ecn bytes) = IsAddressInRange destination × IsOptionInRange segment × (length bytes < 2 ^ 64) × IsBytes bytes

-- a stream's id and a code of the peer's application lie below 2^62
abbrev pub IsStreamEventInRange : StreamEvent → Type 0
IsStreamEventInRange (streamed.Opened dir) = Unit {0}
IsStreamEventInRange (streamed.Readable id) = id < 2 ^ 62
IsStreamEventInRange (streamed.Writable id) = id < 2 ^ 62
IsStreamEventInRange (streamed.Stopped id code) = (id < 2 ^ 62) × (code < 2 ^ 62)
IsStreamEventInRange (streamed.Finished id) = id < 2 ^ 62
IsStreamEventInRange (streamed.Available dir) = Unit {0}

-- a report that the connection was lost has a reason in range, and one of the streams what it tells; the other ones hold
-- nothing
abbrev pub IsEventInRange : Event → Type 0
IsEventInRange HandshakeDataReady = Unit {0}
IsEventInRange Connected = Unit {0}
IsEventInRange (ConnectionLost reason) = IsReasonInRange reason
IsEventInRange DatagramReceived = Unit {0}
IsEventInRange DatagramsUnblocked = Unit {0}
IsEventInRange (Stream event) = IsStreamEventInRange event

-- a token is bytes, and holds for an address in range; the time at which identifiers are wanted and how many they are have
-- 64 bits, as have the time at which one was retired and its sequence number; that the connection's state can be dropped holds
-- nothing
abbrev pub IsEndpointInRange : EndpointEvent → Type 0
IsEndpointInRange (ResetToken remote token) = IsAddressInRange remote × IsBytes token
IsEndpointInRange (NeedIdentifiers time count) = (time < 2 ^ 64) × (count < 2 ^ 64)
IsEndpointInRange (RetireConnectionId time sequence more) = (time < 2 ^ 64) × (sequence < 2 ^ 64)
IsEndpointInRange Drained = Unit {0}

-- each number of a step is one of 64 bits, each byte is a byte, and an address has its octets and a port of 16 bits
pub record IsInRange (step : Step) : Type 0 where
  pub at : step.at < 2 ^ 64
  pub now : step.now < 2 ^ 64
  pub did : All IsDeedInRange step.did
  pub answer : IsAnswerInRange step.answer
  pub events : All IsEventInRange step.events
  pub endpoint : All IsEndpointInRange step.endpoint
  pub timeout : IsOptionInRange step.timeout

-- ---- nothing that a text leaves out

-- a frame that its spelling tells: each number has room in its field, and an ACK's ranges are in their shortest form
abbrev pub IsSpelled : FrameValue → Type 0
IsSpelled frame = Fits frame × (shortest frame ≡ frame)

-- a 0-RTT packet has no epoch of its own
abbrev pub IsDeedPlain : Did → Type 0
IsDeedPlain (deed.Sealed space number epoch early frames) = (early ≡ true → epoch ≡ 0) × All IsSpelled frames
IsDeedPlain _ = Unit {0}

-- an address with neither flow label nor scope, as each IPv4 address is
abbrev pub IsPlainAddress : SocketAddr → Type 0
IsPlainAddress address = (socket_flowinfo address ≡ 0) × (socket_scope_id address ≡ 0)

-- datagrams go to an address whose flow label and scope are 0, as a text doesn't tell these
abbrev pub IsAnswerPlain : Answer → Type 0
IsAnswerPlain (answer.Out destination segment ecn bytes) = IsPlainAddress destination
IsAnswerPlain _ = Unit {0}

-- a token holds for such an address
abbrev pub IsEndpointPlain : EndpointEvent → Type 0
IsEndpointPlain (ResetToken remote token) = IsPlainAddress remote
IsEndpointPlain _ = Unit {0}

-- a step of which the text leaves nothing out: neither of its packets, nor of where its datagrams go, nor of what tokens
-- hold for
pub record IsPlain (step : Step) : Type 0 where
  pub did : All IsDeedPlain step.did
  pub answer : IsAnswerPlain step.answer
  pub endpoint : All IsEndpointPlain step.endpoint

-- ---- where such traces come from

-- the CRYPTO bytes of a space lie below 2^62 in their stream (RFC 9000, section 19.6)
abbrev pub IsSpaceBelowLimit : SpaceWaiting → Type 0
IsSpaceBelowLimit space = space.crypto.written < 2 ^ 62

-- the CRYPTO bytes of every space lie below 2^62
abbrev pub IsBelowLimit : Waiting → Type 0
IsBelowLimit waiting = IsSpaceBelowLimit waiting.spaces.initial × IsSpaceBelowLimit waiting.spaces.handshake × IsSpaceBelowLimit waiting.spaces.application

-- a state whose traces leave nothing out of their text, where what waits to be reported to the endpoint leaves nothing out
pub record IsPlainStart {C : Type 0} (waiting : Waiting) (paths : Paths C) (life : Life) : Type 0 where
  pub crypto : IsBelowLimit waiting
  pub address : IsPlainAddress paths.current.remote
  pub notices : All IsEndpointPlain life.notices

module _ {t : Types} where
  -- the steps of a run, with values that their types hold and with addresses that have neither flow label nor scope
  pub record IsTellingRun (m : Meaning t) (steps : List Step) : Type 0 where
    pub place : ℕ
    pub first : View t
    pub inputs : List Input
    pub last : View t
    pub run : Run m place first inputs steps last
    pub crypto : IsBelowLimit first.waiting
    pub in_range : All IsInRange steps
    pub addresses : All (λ step. IsAnswerPlain step.answer) steps
    pub tokens : All (λ step. All IsEndpointPlain step.endpoint) steps
