-- The toy's handshake, as functions of what a session has read, written and given.
use Rattle.std.specs.Prelude.{◌≡◌, ℕ, ◌+◌, ◌-◌, ◌%◌, ◌*◌, ◌^◌, ◌<◌, ◌≤◌, ◌==◌, ◌&&◌, ◌||◌, not, slice_get, if◌then◌else◌, Bool, true, false, List, [], ◌∷◌, ◌++◌, length, take, drop, sum, replicate, slice_index, nat_le, is_some, Option, Some, None, Result, Ok, Err}
use Rattle.std.specs.Str.{bytes_eq}
use Rattle.qc_base.specs.declared.side.Side.{Side}
use Rattle.qc_base.specs.declared.side.Side.TheVariants.{Client, Server}
use Rattle.qc_base.specs.declared.side.SpaceId.{SpaceId}
use Rattle.qc_base.specs.declared.side.SpaceId.TheVariants.{Initial, Handshake, Data}
use Rattle.qc_base.specs.declared.transport_error.TransportError.{TransportError}
use Rattle.qc_crypto.specs.declared.keys.KeyPair.{KeyPair}
use Rattle.qc_crypto.specs.declared.keys.Keys.{Keys}
use Rattle.qc_toy.specs.declared.key_bytes.Level.{Level}
use Rattle.qc_toy.specs.declared.key_bytes.Level.TheVariants as level
use Rattle.qc_toy.specs.declared.messages.Kind.{Kind}
use Rattle.qc_toy.specs.declared.messages.Kind.TheVariants as kind
use Rattle.qc_toy.specs.declared.packet_key.ToyPacketKey.{ToyPacketKey}
use Rattle.qc_toy.specs.declared.header_key.ToyHeaderKey.{ToyHeaderKey}
use Rattle.qc_toy.specs.declared.session.ToySession.{ToySession}
use Rattle.qc_toy.specs.declared.session.Step.{Step}
use Rattle.qc_params.specs.declared.params.TransportParameters.{TransportParameters}
use Rattle.qc_params.specs.declared.error.ParamError.{ParamError}
use Rattle.qc_params.specs.ParametersReading.{parameters_read}
use Rattle.qc_params.specs.ParametersSpelling.{default_parameters}
use Rattle.qc_toy.specs.Cipher.{tag, checksum, tabulated}
use Rattle.qc_toy.specs.KeyBytes.{initial_secret}
use Rattle.qc_toy.specs.Messages.{message, messages, first_body, second_body, refusal, peer_messages}
use Rattle.qc_toy.specs.ToyKeys.{level_keys, packet_keys, packet_key, header_key}

-- the byte that a flag is written as
abbrev pub flag_byte : Bool → ℕ
flag_byte false = 0
flag_byte true = 1

-- The early byte that a body begins with, as a flag.
abbrev pub early_flag : Option (List ℕ) → Bool
early_flag None = false
early_flag (Some []) = false
early_flag (Some (b ∷ parameters)) = b == 1

-- The steps of a client's handshake: its hello; the Handshake keys, after the server's reply; and its
-- last message with the 1-RTT keys, after the server's.
abbrev pub client_steps : List Step
client_steps =
    record { heard = 0; writes = Some kind.Hello; gives = None }
    ∷ record { heard = 1; writes = None; gives = Some level.Handshake }
    ∷ record { heard = 2; writes = Some kind.ClientEnd; gives = Some level.Data }
    ∷ []

-- The steps of a server's: after the hello its reply with the Handshake keys, and its last message
-- with the 1-RTT keys.
abbrev pub server_steps : List Step
server_steps =
    record { heard = 1; writes = Some kind.Reply; gives = Some level.Handshake }
    ∷ record { heard = 1; writes = Some kind.ServerEnd; gives = Some level.Data }
    ∷ []

-- the steps of an end's handshake, in order
abbrev pub steps_of : Side → List Step
steps_of Client = client_steps
steps_of Server = server_steps

-- how many whole messages of its peer, at most two, a session has heard
abbrev pub heard_count : ToySession → ℕ
heard_count s = length (messages 2 s.heard)

-- a step, where it needs no more messages than n
abbrev pub if_heard : ℕ → Option Step → Option Step
if_heard n None = None
if_heard n (Some step) = if nat_le step.heard n then Some step else None

-- the step that the next write makes, if it makes one
unfoldable pub session_due : ToySession → Option Step
session_due s = if_heard (heard_count s) (slice_get (steps_of s.side) s.steps)

-- The keys of each packet number space, which are those of the session's secret.
abbrev pub level_of : SpaceId → Level
level_of Initial = level.Initial
level_of Handshake = level.Handshake
level_of Data = level.Data

-- the keys that a session's end has at a level, those of epoch 0
abbrev pub keys_of_level : ToySession → Level → Keys ToyHeaderKey ToyPacketKey
keys_of_level s level = level_keys s.settings s.settings.secret level s.side

-- the header and packet keys that a session's end has in a space, those of epoch 0
abbrev pub keys_of_space : ToySession → SpaceId → Keys ToyHeaderKey ToyPacketKey
keys_of_space s space = keys_of_level s (level_of space)

-- the 1-RTT packet keys that a session's end has in an epoch
abbrev pub keys_of_epoch : ToySession → ℕ → KeyPair ToyPacketKey
keys_of_epoch s epoch = packet_keys s.settings s.settings.secret level.Data s.side epoch

-- The Initial keys, of any session, are those of the destination id.
abbrev pub keys_of_id : ToySession → List ℕ → Side → Keys ToyHeaderKey ToyPacketKey
keys_of_id s id side = level_keys s.settings (initial_secret id) level.Initial side

-- whether the end is a client
abbrev pub is_client : Side → Bool
is_client Client = true
is_client Server = false

-- Whether a session has early keys: its settings say so, and to a server the client's hello too.
abbrev pub has_early : ToySession → Bool
has_early s = s.settings.early && (is_client s.side || early_flag (first_body s.heard))

-- The early keys seal what the client sends, at both ends.
unfoldable pub early_keys : ToySession → Option (ToyHeaderKey × ToyPacketKey)
early_keys s =
    if has_early s then Some (header_key s.settings.secret level.Early Client, packet_key s.settings s.settings.secret level.Early Client 0)
    else None

-- the body of a message that a session writes
abbrev pub body_for : ToySession → Kind → List ℕ
body_for s kind.Hello = flag_byte s.settings.early ∷ s.parameters
body_for s kind.Reply = 0 ∷ []
body_for s kind.ServerEnd = flag_byte (has_early s) ∷ s.parameters
body_for s kind.ClientEnd = []

-- the bytes of a message that may be absent
abbrev pub bytes_for : ToySession → Option Kind → List ℕ
bytes_for s None = []
bytes_for s (Some kind) = message kind (body_for s kind)

-- the bytes that a step writes
abbrev pub written_for : ToySession → Option Step → List ℕ
written_for s None = []
written_for s (Some step) = bytes_for s step.writes

-- the keys of a level that may be absent
abbrev pub keys_for : ToySession → Option Level → Option (Keys ToyHeaderKey ToyPacketKey)
keys_for s None = None
keys_for s (Some level) = Some (keys_of_level s level)

-- the keys that a step gives
abbrev pub given_for : ToySession → Option Step → Option (Keys ToyHeaderKey ToyPacketKey)
given_for s None = None
given_for s (Some step) = keys_for s step.gives

-- how many steps are made after the next
abbrev pub steps_after : ℕ → Option Step → ℕ
steps_after n None = n
steps_after n (Some step) = n + 1

-- the bytes that the next write appends; there may be none
unfoldable pub session_writes : ToySession → List ℕ
session_writes s = written_for s (session_due s)

-- the keys that the next write gives, if it gives any
unfoldable pub session_write_keys : ToySession → Option (Keys ToyHeaderKey ToyPacketKey)
session_write_keys s = given_for s (session_due s)

-- a write changes nothing of a session but how far it has come
unfoldable pub session_after_write : ToySession → ToySession
session_after_write s = record s { steps = steps_after s.steps (session_due s) }

-- how many steps of the handshake are still to be made
abbrev pub steps_left : ToySession → ℕ
steps_left s = length (steps_of s.side) - s.steps

-- a bound on the bytes of all messages that are still to be written
abbrev pub bytes_left : ToySession → ℕ
bytes_left s = steps_left s * 65538

-- how many of an end's first n steps give keys: all but a client's hello
abbrev pub changes_by : Side → ℕ → ℕ
changes_by Client n = n - 1
changes_by Server n = n

-- how many times writes have given keys: first the Handshake keys, then the 1-RTT keys
abbrev pub changes_of : ToySession → ℕ
changes_of s = changes_by s.side s.steps

-- whether all steps were made
abbrev pub made_all : ToySession → Bool
made_all s = s.steps == length (steps_of s.side)

-- a TLS alert as an error of the transport (RFC 9000, section 20.1)
abbrev pub alert_error : ℕ → TransportError
alert_error alert = record { code = 0x100 + alert; frame = None }

-- what reading answers: an error where an alert refuses the bytes, and else whether data is ready now
abbrev pub read_answer : Option ℕ → Bool → Result Bool TransportError
read_answer None ready = Ok ready
read_answer (Some alert) ready = Err (alert_error alert)

-- what a session has read of its peer: the new bytes count only where no alert refuses them
abbrev pub heard_after : Option ℕ → (before joined : List ℕ) → List ℕ
heard_after None before joined = joined
heard_after (Some alert) before joined = before

-- true as the peer's first message becomes whole, and an error where the bytes are refused
unfoldable pub session_reads : ToySession → List ℕ → Result Bool TransportError
session_reads s bytes =
    read_answer (refusal (peer_messages s.side) (messages 3 (s.heard ++ bytes)))
    (not (is_some (first_body s.heard)) && is_some (first_body (s.heard ++ bytes)))

-- a session keeps all bytes that it has read, but none of a reading that is refused
unfoldable pub session_after_read : ToySession → List ℕ → ToySession
session_after_read s bytes =
    record s { heard = heard_after (refusal (peer_messages s.side) (messages 3 (s.heard ++ bytes))) s.heard (s.heard ++ bytes) }

-- true until an end has made all steps, and heard all messages of its peer
unfoldable pub session_handshaking : ToySession → Bool
session_handshaking s = not (made_all s && nat_le 2 (heard_count s))

-- The session's data is ready once the peer's first message was read.
abbrev pub ready_unit : Bool → Option (Unit {0})
ready_unit true = Some tt
ready_unit false = None

-- the handshake data of a session: an empty value, there once the peer's first message is whole
unfoldable pub session_negotiated : ToySession → Option (Unit {0})
session_negotiated s = ready_unit (is_some (first_body s.heard))

-- Whether a session's early keys were taken: a client is told by the server's last message. There is no
-- answer before the handshake is over, or without such keys.
unfoldable pub session_early_taken : ToySession → Option Bool
session_early_taken s =
    if not (session_handshaking s) && has_early s then Some (not (is_client s.side) || early_flag (second_body s.heard)) else None

-- The keys of the next epoch, once 1-RTT keys were given. Epochs wrap after 2^64.
unfoldable pub session_next_keys : ToySession → Option (KeyPair ToyPacketKey)
session_next_keys s = if made_all s then Some (keys_of_epoch s ((s.epoch + 1) % 2 ^ 64)) else None

-- asking for the next keys moves the epoch on by one, and changes nothing before 1-RTT keys were given
unfoldable pub session_after_next : ToySession → ToySession
session_after_next s = record s { epoch = if made_all s then (s.epoch + 1) % 2 ^ 64 else s.epoch }

-- What a server announces where nothing is set, without the parameters that belong to one connection:
-- a client with early keys takes them for those of an earlier connection.
abbrev pub cached_parameters : TransportParameters
cached_parameters =
    record default_parameters {
      max_idle_timeout = 30000;
      max_udp_payload_size = 1472;
      initial_max_data = 4611686018427387903;
      initial_max_stream_data_bidi_local = 1250000;
      initial_max_stream_data_bidi_remote = 1250000;
      initial_max_stream_data_uni = 1250000;
      initial_max_streams_bidi = 100;
      initial_max_streams_uni = 100;
      active_connection_id_limit = 5;
      max_datagram_frame_size = Some 65535;
      grease_quic_bit = true;
    }

-- TRANSPORT_PARAMETER_ERROR (RFC 9000, section 20.1).
abbrev pub parameter_error : TransportError
parameter_error = record { code = 8; frame = None }

-- parameters that were read, or the error that refuses them
abbrev pub parameters_or_error : Result TransportParameters ParamError → Result (Option TransportParameters) TransportError
parameters_or_error (Ok p) = Ok (Some p)
parameters_or_error (Err e) = Err parameter_error

-- the parameters that the end `side` reads of its peer's bytes, or an error where these spell none that are legal
abbrev pub heard_parameters : Side → List ℕ → Result (Option TransportParameters) TransportError
heard_parameters side bytes = parameters_or_error (parameters_read side bytes)

-- the parameters of the peer's message, behind its early byte; before it is whole they are what `before` says
abbrev pub parameters_in : Side → Option TransportParameters → Option (List ℕ) → Result (Option TransportParameters) TransportError
parameters_in side before None = Ok before
parameters_in side before (Some body) = heard_parameters side (drop 1 body)

-- until the server's last message, a client with early keys goes by cached parameters
abbrev pub parameters_before : Bool → Option TransportParameters
parameters_before false = None
parameters_before true = Some cached_parameters

-- a client finds its peer's parameters in the second message that it reads, a server in the first
abbrev pub parameters_by : Side → ToySession → Result (Option TransportParameters) TransportError
parameters_by Client s = parameters_in Client (parameters_before s.settings.early) (second_body s.heard)
parameters_by Server s = parameters_in Server None (first_body s.heard)

-- the parameters that a session's peer has announced, as far as the session knows them
unfoldable pub session_parameters : ToySession → Result (Option TransportParameters) TransportError
session_parameters s = parameters_by s.side s

-- The integrity tag of a Retry packet, of the id that the client first sent to: its key is 16 bytes 82.
unfoldable pub retry_tag : (id packet : List ℕ) → List ℕ
retry_tag id packet = tag (replicate 16 82) (checksum 0 (length id ∷ id) packet) 0

-- A payload fits if its last 16 bytes are the tag of what stands before them.
unfoldable pub fits_retry : (id header payload : List ℕ) → Bool
fits_retry id header payload =
    nat_le 16 (length payload)
    && bytes_eq (drop (length payload - 16) payload) (retry_tag id (header ++ take (length payload - 16) payload))

-- Byte i of the keying material of a label and a context.
abbrev pub exported_byte : (secret label context : List ℕ) → ℕ → ℕ
exported_byte secret label context i = (slice_index secret (i % 5) + sum label + 3 * sum context + i) % 256

-- the first n bytes of the keying material of a label and a context
unfoldable pub exported_bytes : List ℕ → ℕ → (label context : List ℕ) → List ℕ
exported_bytes secret n label context = tabulated (exported_byte secret label context) 0 n

-- A client and a server are paired if they have the same secret.
pub record ArePaired (client server : ToySession) : Type 0 where
  pub client_side : client.side ≡ Client
  pub server_side : server.side ≡ Server
  pub secret : client.settings.secret ≡ server.settings.secret

-- A session that has neither read nor written.
pub record IsFresh (s : ToySession) : Type 0 where
  pub heard : s.heard ≡ []
  pub steps : s.steps ≡ 0
  pub epoch : s.epoch ≡ 0

-- What holds of every session that calls lead to from a fresh one: it has made no more steps than there
-- are, a server that made one has heard the hello, and no alert refuses the messages that were heard.
pub record IsSound (s : ToySession) : Type 0 where
  pub few : s.steps ≤ length (steps_of s.side)
  pub hello : s.side ≡ Server → 0 < s.steps → is_some (first_body s.heard) ≡ true
  pub heard : refusal (peer_messages s.side) (messages 3 s.heard) ≡ None
