-- A session whose keys come of both ends' shares.
use Rattle.std.specs.Prelude.{◌≡◌, ℕ, ◌+◌, ◌%◌, ◌^◌, ◌≤◌, ◌==◌, ◌&&◌, ◌||◌, nat_lt, not, is_some, IsSome, if◌then◌else◌, Bool, true, false, List, [], ◌∷◌, Option, Some, None, Result, Ok, Err}
use Rattle.qc_base.specs.declared.side.Side.{Side}
use Rattle.qc_base.specs.declared.side.Side.TheVariants.{Client, Server}
use Rattle.qc_base.specs.declared.side.SpaceId.{SpaceId}
use Rattle.qc_base.specs.declared.side.SpaceId.TheVariants.{Handshake, Data}
use Rattle.qc_base.specs.declared.transport_error.TransportError.{TransportError}
use Rattle.qc_params.specs.declared.params.TransportParameters.{TransportParameters}
use Rattle.qc_params.specs.ParametersSpelling.{default_parameters}
use Rattle.qc_crypto.specs.declared.keys.KeyPair.{KeyPair}
use Rattle.qc_crypto.specs.declared.keys.Keys.{Keys}
use Rattle.qc_toy.specs.declared.key_bytes.Level.TheVariants as level
use Rattle.qc_toy.specs.declared.packet_key.ToyPacketKey.{ToyPacketKey}
use Rattle.qc_toy.specs.declared.header_key.ToyHeaderKey.{ToyHeaderKey}
use Rattle.qc_toy.specs.Handshake.{level_of}
use Rattle.qc_toy.specs.KeyBytes.{initial_secret}
use Rattle.qc_toy.specs.Settings.{default_settings}
use Rattle.qc_toy.specs.ToyKeys.{level_keys, packet_keys}
use Rattle.qc_shares.specs.declared.session.SharesSession.{SharesSession}

-- A session that has neither read nor written.
pub record IsFresh (s : SharesSession) : Type 0 where
  pub heard : s.heard ≡ None
  pub steps : s.steps ≡ 0
  pub epoch : s.epoch ≡ 0

-- There are three steps, and keys are given only once the peer was heard.
pub record IsSound (s : SharesSession) : Type 0 where
  pub few : s.steps ≤ 3
  pub heard : 2 ≤ s.steps → IsSome s.heard

-- The peer's share, and 0 before it is known.
abbrev pub share_of : Option ℕ → ℕ
share_of None = 0
share_of (Some share) = share

-- The secret of a client's and a server's share.
abbrev pub shared_secret : (client server : ℕ) → List ℕ
shared_secret client server = client ∷ server ∷ 0 ∷ 0 ∷ 0 ∷ []

-- The secret of an end, of its own share and its peer's.
abbrev pub secret_by : Side → (own peer : ℕ) → List ℕ
secret_by Client own peer = shared_secret own peer
secret_by Server own peer = shared_secret peer own

-- A session's secret.
abbrev pub session_secret : SharesSession → List ℕ
session_secret s = secret_by s.side s.share (share_of s.heard)

-- The Initial keys, of a destination id alone.
abbrev pub initial_of : List ℕ → Side → Keys ToyHeaderKey ToyPacketKey
initial_of id side = level_keys default_settings (initial_secret id) level.Initial side

-- A session's keys of a packet number space.
abbrev pub keys_in : SharesSession → SpaceId → Keys ToyHeaderKey ToyPacketKey
keys_in s space = level_keys default_settings (session_secret s) (level_of space) s.side

-- A session's 1-RTT keys of an epoch.
abbrev pub keys_of_epoch : SharesSession → ℕ → KeyPair ToyPacketKey
keys_of_epoch s epoch = packet_keys default_settings (session_secret s) level.Data s.side epoch

-- Whether the end is a client.
abbrev pub is_client : Side → Bool
is_client Client = true
is_client Server = false

-- Whether a write makes a step: a client's first at once, each other once the peer was heard.
abbrev pub moves : SharesSession → Bool
moves s = nat_lt s.steps 3 && (is_some s.heard || (s.steps == 0 && is_client s.side))

-- What a write writes: the share, in the first step.
unfoldable pub written : SharesSession → List ℕ
written s = if moves s && s.steps == 0 then s.share ∷ [] else []

-- The keys that it gives: the Handshake keys in the second step, and the 1-RTT keys in the third.
unfoldable pub given : SharesSession → Option (Keys ToyHeaderKey ToyPacketKey)
given s =
    if moves s && not (s.steps == 0) then Some (keys_in s (if s.steps == 1 then Handshake else Data))
    else None

-- The session after it.
unfoldable pub after_writing : SharesSession → SharesSession
after_writing s = record s { steps = if moves s then s.steps + 1 else s.steps }

-- The handshake goes on until the third step.
abbrev pub goes_on : ℕ → Bool
goes_on steps = not (steps == 3)

-- A message out of turn (RFC 8446, section 6.2).
abbrev pub out_of_turn : TransportError
out_of_turn = record { code = 0x10a; frame = None }

-- What reading some bytes answers: the peer's share, one byte, makes the data ready, and anything
-- more is refused.
abbrev pub read_answer : Option ℕ → List ℕ → Result Bool TransportError
read_answer heard [] = Ok false
read_answer None (share ∷ []) = Ok true
read_answer None (share ∷ b ∷ bytes) = Err out_of_turn
read_answer (Some share) (b ∷ bytes) = Err out_of_turn

-- What is heard of the peer after it.
abbrev pub heard_after : Option ℕ → List ℕ → Option ℕ
heard_after heard [] = heard
heard_after None (share ∷ []) = Some share
heard_after None (share ∷ b ∷ bytes) = None
heard_after (Some share) (b ∷ bytes) = Some share

-- The session after it.
abbrev pub after_reading : SharesSession → List ℕ → SharesSession
after_reading s bytes = record s { heard = heard_after s.heard bytes }

-- The data of the handshake is ready once the peer was heard.
abbrev pub ready : Option ℕ → Option (Unit {0})
ready None = None
ready (Some share) = Some tt

-- The peer's parameters are the defaults, once it was heard.
abbrev pub known_parameters : Option ℕ → Result (Option TransportParameters) TransportError
known_parameters None = Ok None
known_parameters (Some share) = Ok (Some default_parameters)

-- The 1-RTT keys of the next epoch, once the first were given. Epochs wrap after 2^64.
unfoldable pub next_of : SharesSession → Option (KeyPair ToyPacketKey)
next_of s = if s.steps == 3 then Some (keys_of_epoch s ((s.epoch + 1) % 2 ^ 64)) else None

-- The session after they were given.
unfoldable pub after_next_of : SharesSession → SharesSession
after_next_of s = record s { epoch = if s.steps == 3 then (s.epoch + 1) % 2 ^ 64 else s.epoch }
