-- The run of a script's inputs on the connection that its set lines make, and its text.
use Rattle.std.specs.Prelude.{◌≡◌, ℕ, List, [], ◌∷◌, Option, None, Some, true, false, replicate, take, unwrap_or, Bool}
use Rattle.std.specs.List.{All}
use Rattle.std.specs.Net.Addr.{ipv6_segments}
use Rattle.std.specs.Net.Socket.{socket_ip, IsPlainSocket}
use Rattle.std.specs.declared.net.ip_addr.IpAddr.TheVariants.{V6}
use Rattle.std.specs.declared.net.ipv6_addr.Ipv6Addr.{Ipv6Addr}
use Rattle.std.specs.declared.net.socket_addr.SocketAddr.{SocketAddr}
use Rattle.qc_base.specs.Time.{times}
use Rattle.qc_base.specs.declared.mask.HeaderMask.{Ghosts as HeaderMaskGhosts}
use Rattle.qc_base.specs.declared.side.Side.{Side}
use Rattle.qc_base.specs.declared.side.Side.TheVariants.{Client, Server}
use Rattle.qc_config.specs.Announcement.{announced_parameters}
use Rattle.qc_text.specs.OneText.{IsInRange, IsPlain}
use Rattle.qc_conn.specs.declared.driving.DriveError.{DriveError}
use Rattle.qc_conn.specs.declared.driving.DriveKind.{DriveKind}
use Rattle.qc_conn.specs.Refusal.{NamesInput, RefusedAt, TakesAll}
use Rattle.qc_conn.specs.Seen.{Seen}
use Rattle.qc_conn.specs.RefusedText.{refused_text}
use Rattle.qc_text.specs.TraceText.{trace_text}
use Rattle.qc_run.specs.declared.perform.Told.{Told}
use Rattle.qc_run.specs.declared.perform.Told.TheVariants.{Whole, Refused}
use Rattle.qc_crypto.specs.declared.packet_key.PacketKey.{Ghosts as PacketKeyGhosts}
use Rattle.qc_crypto.specs.declared.session.Session.{Ghosts as SessionGhosts}
use Rattle.qc_path.specs.NewReno.{Reno, new_reno}
use Rattle.qc_path.specs.declared.controller.Controller.{Ghosts as ControllerGhosts}
use Rattle.qc_recovery.specs.Paths.{first_size}
use Rattle.qc_recovery.specs.TransportValues.{default_transport, TransportValues}
use Rattle.qc_state.specs.First.{allowed_by, first_view, server_view, fixed_of}
use Rattle.qc_state.specs.Run.{Run}
use Rattle.qc_state.specs.Tokens.{token_with}
use Rattle.qc_state.specs.declared.tokens.Issuer.{Issuer}
use Rattle.qc_state.specs.Types.{TokenMaker, Types, Meaning, meaning}
use Rattle.qc_state.specs.View.{View, ideal}
use Rattle.qc_state.specs.declared.input.Input.{Input}
use Rattle.qc_state.specs.declared.trace.Step.{Step}
use Rattle.qc_params.specs.declared.params.TransportParameters.{TransportParameters}
use Rattle.qc_script.specs.declared.settings.Settings.{Settings}
use Rattle.qc_token.specs.declared.time_source.FixedTime.{FixedTime}
use Rattle.qc_toy.specs.Cipher.{toy_seal, toy_signature, token_key}
use Rattle.qc_toy.specs.declared.token_keys.ToyAeadKey.{ToyAeadKey}
use Rattle.qc_toy.specs.declared.token_keys.ToyTokenKey.{ToyTokenKey}
use Rattle.qc_toy.specs.Settings.{default_settings}
use Rattle.qc_toy.specs.declared.settings.ToySettings.{ToySettings}
use Rattle.qc_toy.specs.Start.{session_of}
use Rattle.qc_toy.specs.declared.header_key.ToyHeaderKey.{ToyHeaderKey}
use Rattle.qc_toy.specs.declared.packet_key.ToyPacketKey.{ToyPacketKey}
use Rattle.qc_toy.specs.declared.session.ToySession.{ToySession}
use Rattle.qc_run.specs.Words.{words_named, words_of}
use Rattle.qc_run.specs.declared.random.ScriptRandom.{ScriptRandom}

-- the usual address of the path: ::1, port 4433
pub record IsScriptAddress (address : SocketAddr) : Type 0 where
  pub ip : Ipv6Addr
  pub is : socket_ip address ≡ V6 ip
  pub segments : ipv6_segments ip ≡ 0 ∷ 0 ∷ 0 ∷ 0 ∷ 0 ∷ 0 ∷ 0 ∷ 1 ∷ []
  pub plain : IsPlainSocket address 4433

-- the types of the toy's connections
abbrev pub toy : Types
toy = record {
  S = ToySession;
  H = ToyHeaderKey;
  P = ToyPacketKey;
  D = Unit {0};
  I = Unit {0};
  C = Reno;
  K = ToyTokenKey;
  T = FixedTime;
}

-- what makes their tokens
abbrev pub toy_token : TokenMaker toy
toy_token = token_with (λ (key : ToyAeadKey). toy_seal key.bytes 0) (λ (key : ToyTokenKey) (nonce : List ℕ). record { bytes = token_key key.master nonce }) (λ (clock : FixedTime). clock.0)

-- the path's address: the one that a line gives, or the usual one
abbrev pub IsAddressOf : Option SocketAddr → SocketAddr → Type 0
IsAddressOf None address = IsScriptAddress address
IsAddressOf (Some given) address = address ≡ given

-- this end's id
abbrev pub local_of : Settings → List ℕ
local_of s = unwrap_or s.local (replicate 8 1)

-- on a client the destination id of its first packets, of which its Initial keys are made (RFC 9001, section 5.2); on a server the
-- client's id
abbrev pub remote_of : Settings → List ℕ
remote_of s = unwrap_or s.remote (replicate 8 2)

-- on a server the destination id of the client's first packets
abbrev pub first_of : Settings → List ℕ
first_of s = unwrap_or s.first (replicate 8 3)

-- so that before its Retry
abbrev pub orig_of : Settings → List ℕ
orig_of s = unwrap_or s.orig (first_of s)

-- the master key of a server's tokens
abbrev pub TOKEN_KEY : ToyTokenKey
TOKEN_KEY = record { master = replicate 16 0 }

-- the time of its clock, in nanoseconds
abbrev pub clock_of : Option ℕ → FixedTime
clock_of seconds = record { 0 = times (unwrap_or seconds 0) 1000000000 }

-- how many tokens it sends
abbrev pub sent_of : Settings → ℕ
sent_of s = unwrap_or s.sent 0

-- whether a server's peer has a validated address
abbrev pub validated_of : Settings → Bool
validated_of s = unwrap_or s.validated false

-- the token that a client's Initial packets carry
abbrev pub token_of : Settings → List ℕ
token_of s = unwrap_or s.token []

-- when the connection is made
abbrev pub start_of : Settings → ℕ
start_of s = unwrap_or s.time 0

-- the usual transport, with this end's limit on idle time in milliseconds, and whether the datagrams of a transmit may stand behind each
-- other, where lines say so
unfoldable pub transport_of : Settings → TransportValues
transport_of s =
    record default_transport {
      max_idle_timeout = Some (unwrap_or s.idle 30000);
      enable_segmentation_offload = unwrap_or s.gso true;
    }

-- whether larger datagrams are looked for
abbrev pub mtud_of : Settings → Bool
mtud_of s = unwrap_or s.mtud true

-- the configuration of the transport, with which they are looked for or aren't
abbrev pub allowed_of : Settings → TransportValues
allowed_of s = allowed_by (mtud_of s) (transport_of s)

-- the window in bytes with which the path's congestion controller begins: ten datagrams of 1200 (RFC 9002, section 7.2)
abbrev pub INITIAL_WINDOW : ℕ
INITIAL_WINDOW = 12000

-- the congestion controller of the path, which begins with datagrams of the size that this transport gives
abbrev pub control_of : TransportValues → Reno
control_of transport = new_reno INITIAL_WINDOW (first_size transport None)

-- the toy's usual settings, with its secret and its limits where lines give them
abbrev pub settings_of : Settings → ToySettings
settings_of s =
    record default_settings {
      secret = unwrap_or s.secret default_settings.secret;
      limit_initial = unwrap_or s.limit_initial default_settings.limit_initial;
      limit_handshake = unwrap_or s.limit_handshake default_settings.limit_handshake;
      limit_data = unwrap_or s.limit_data default_settings.limit_data;
      limit_failures = unwrap_or s.limit_failures default_settings.limit_failures;
    }

-- what an end announces of this transport
abbrev pub parameters_of : Settings → TransportParameters
parameters_of s = announced_parameters (transport_of s) 1472 (local_of s) true

-- the token that resets a server's connection: a key of zeros signs its id
abbrev pub reset_token_of : Settings → List ℕ
reset_token_of s = take 16 (toy_signature (replicate 16 0) (local_of s))

-- what a server announces beside that: the destination id of the client's packets before its Retry, the source id of its Retry, if it sent one,
-- and the token that resets the connection (RFC 9000, sections 7.3 and 10.3)
abbrev pub server_parameters_of : Settings → TransportParameters
server_parameters_of s = record (parameters_of s) { original_dst_cid = Some (orig_of s); retry_src_cid = s.retry; stateless_reset_token = Some (reset_token_of s) }

-- the session of a script's client
abbrev pub client_session : Settings → ToySession
client_session s = session_of (settings_of s) Client (parameters_of s)

-- the session of a script's server
abbrev pub server_session : Settings → ToySession
server_session s = session_of (settings_of s) Server (server_parameters_of s)

-- the text is that of a trace which is a run of these inputs from the first view of this script's client, made at time 0,
-- and of no other trace that has its values in range and leaves nothing out
pub record IsRunText {t : Types} (m : Meaning t) (first : View t) (inputs : List Input) (text : List ℕ) : Type 0 where
  pub steps : List Step
  pub last : View t
  pub valid : TakesAll m 0 first inputs steps last
  pub run : Run m 0 first inputs steps last
  pub spelled : text ≡ trace_text steps
  pub only : (other : List Step) → All IsInRange other → All IsPlain other → text ≡ trace_text other → other ≡ steps

-- the ghosts of the toy's sessions
abbrev pub Sessions : Type 1
Sessions = SessionGhosts ToySession ToyHeaderKey ToyPacketKey (Unit {0}) (Unit {0})

-- what a server makes its tokens of
abbrev pub issuer_of : Settings → Issuer ToyTokenKey FixedTime
issuer_of s = record { key = TOKEN_KEY; time = clock_of s.clock; sent = sent_of s }

-- the client that a script sets up: QUIC version 1, ids that don't grow old, and no address to send from. s, h, p and c are what its
-- session, its keys and its congestion controller mean
abbrev pub script_client : Sessions → HeaderMaskGhosts ToyHeaderKey → PacketKeyGhosts ToyPacketKey → ControllerGhosts Reno → Settings → SocketAddr → View toy
script_client s h p c set remote =
    first_view (meaning s h p c toy_token) (client_session set) (words_named set.random)
    (fixed_of Client 1 (local_of set) (remote_of set) None false None (allowed_of set) true (words_named set.random))
    remote (remote_of set) (token_of set) (allowed_of set) (control_of (allowed_of set)) (start_of set)

-- so the server, which announces no preferred address
abbrev pub script_server : Sessions → HeaderMaskGhosts ToyHeaderKey → PacketKeyGhosts ToyPacketKey → ControllerGhosts Reno → Settings → SocketAddr → View toy
script_server s h p c set remote =
    server_view (meaning s h p c toy_token) (server_session set) (words_named set.random)
    (fixed_of Server 1 (local_of set) (first_of set) None false None (allowed_of set) true (words_named set.random))
    remote (remote_of set) (validated_of set) (issuer_of set) (allowed_of set) (control_of (allowed_of set)) (start_of set)

-- the end of this side
abbrev pub view_for : Side → Sessions → HeaderMaskGhosts ToyHeaderKey → PacketKeyGhosts ToyPacketKey → ControllerGhosts Reno → Settings → SocketAddr → View toy
view_for Client s h p c set remote = script_client s h p c set remote
view_for Server s h p c set remote = script_server s h p c set remote

-- the connection that the set lines of a script make, by their side
abbrev pub script_view : Sessions → HeaderMaskGhosts ToyHeaderKey → PacketKeyGhosts ToyPacketKey → ControllerGhosts Reno → Settings → SocketAddr → View toy
script_view s h p c set remote = view_for set.side s h p c set remote

-- the connection is the one that these set lines make
pub record IsScriptEnd (s : Sessions) (h : HeaderMaskGhosts ToyHeaderKey) (p : PacketKeyGhosts ToyPacketKey) (c : ControllerGhosts Reno) (set : Settings) (end : Seen toy ScriptRandom) : Type 0 where
  pub remote : SocketAddr
  pub address : IsAddressOf set.addr remote
  pub made : ideal words_of end.core ≡ script_view s h p c set remote

-- the text is that of a run of these inputs from the first view of that connection
pub record IsToyRun (s : Sessions) (h : HeaderMaskGhosts ToyHeaderKey) (p : PacketKeyGhosts ToyPacketKey) (c : ControllerGhosts Reno) (set : Settings) (inputs : List Input) (text : List ℕ) : Type 0 where
  pub remote : SocketAddr
  pub address : IsAddressOf set.addr remote
  pub run : IsRunText (meaning s h p c toy_token) (script_view s h p c set remote) inputs text

-- the text is that of the steps of the inputs before the first that is refused, and of the line that names it
pub record IsRefusalText {t : Types} (m : Meaning t) (first : View t) (inputs : List Input) (text : List ℕ) : Type 0 where
  pub steps : List Step
  pub kind : DriveKind
  pub last : View t
  pub refused : RefusedAt m first inputs kind steps last false
  pub spelled : text ≡ refused_text steps kind

-- so for that connection
pub record IsToyRefusal (s : Sessions) (h : HeaderMaskGhosts ToyHeaderKey) (p : PacketKeyGhosts ToyPacketKey) (c : ControllerGhosts Reno) (set : Settings) (inputs : List Input) (text : List ℕ) : Type 0 where
  pub remote : SocketAddr
  pub address : IsAddressOf set.addr remote
  pub refused : IsRefusalText (meaning s h p c toy_token) (script_view s h p c set remote) inputs text

-- what is told of a run: the text of the whole, or that of a refusal
abbrev pub IsToldRun : (IsRun IsRefusal : Settings → List Input → List ℕ → Type 0) → Settings → List Input → Told → Type 0
IsToldRun IsRun IsRefusal set inputs (Whole text) = IsRun set inputs text.items
IsToldRun IsRun IsRefusal set inputs (Refused text) = IsRefusal set inputs text.items

-- what is told of an error: that it names an input, and the text
abbrev pub IsRefusalTold : DriveError → Told → Type 0
IsRefusalTold error (Whole text) = ⊥
IsRefusalTold error (Refused text) = NamesInput error.kind × (text.items ≡ refused_text error.done error.kind)
