-- How the handshake goes on behind the frames of a packet (RFC 9001, sections 4.1 and 8.2; RFC 9000, section 7.3).
use Rattle.std.specs.Prelude.{ℕ, zero, suc, ◌-◌, ◌==◌, ◌&&◌, not, nat_eq, Bool, true, false, if◌then◌else◌, List, length, Option, None, Some, Result, Ok, Err, is_none}
use Rattle.std.specs.Cmp.Lexicographic.{pointwise}
use Rattle.qc_base.specs.declared.side.Side.{Side}
use Rattle.qc_base.specs.declared.side.Side.TheVariants.{Client, Server}
use Rattle.qc_base.specs.declared.side.SpaceId.{SpaceId}
use Rattle.qc_base.specs.declared.side.SpaceId.TheVariants.{Initial, Handshake, «Data»}
use Rattle.qc_base.specs.declared.transport_error.TransportError.{TransportError}
use Rattle.qc_crypto.specs.declared.keys.KeyPair.{KeyPair}
use Rattle.qc_crypto.specs.declared.keys.Keys.{Keys}
use Rattle.qc_params.specs.declared.params.TransportParameters.{TransportParameters}
use Rattle.qc_state.specs.Keys.{NewKeys, NoKeys, HandshakeKeys, DataKeys, new_keys, new_ring}
use Rattle.qc_state.specs.Ids.{active_limit}
use Rattle.qc_state.specs.Life.{is_handshake}
use Rattle.qc_state.specs.Moves.{Write, Token, Learn, Want, Confirm, Forget, Establish, armed_after, move_to}
use Rattle.qc_state.specs.Stopping.{missing_parameters, parameter_error, stopped_after}
use Rattle.qc_state.specs.Types.{Types, Meaning}
use Rattle.qc_state.specs.Paths.{peer_id}
use Rattle.qc_state.specs.View.{View, At}

-- an id that is named is this one
abbrev pub names_id : Option (List ℕ) → List ℕ → Bool
names_id None id = false
names_id (Some named) id = pointwise nat_eq named id

-- an id that may be named is this one, which there may be
abbrev pub same_named : Option (List ℕ) → Option (List ℕ) → Bool
same_named None cid = is_none cid
same_named (Some named) None = false
same_named (Some named) (Some cid) = pointwise nat_eq named cid

-- the handshake is over behind a Handshake packet
abbrev pub is_end : SpaceId → Bool → Bool
is_end Initial handshaking = false
is_end Handshake handshaking = not handshaking
is_end Data handshaking = false

-- an end of this side leaves the Initial space as its peer's first bytes are read: a server, whose highest space was Initial before
-- its session wrote, and isn't any more
abbrev pub is_server_start : Side → (before after : SpaceId) → Bool
is_server_start Server Initial Handshake = true
is_server_start Server Initial Data = true
is_server_start _ _ _ = false

module _ {t : Types} where
  -- the session writes nothing now, and gives no keys
  unfoldable pub is_written : Meaning t → t.S → Bool
  is_written m session = (length (m.writes session) == 0) && is_none (m.write_keys session)

  -- 1-RTT keys with those of the next epoch, where the session gives these
  abbrev pub ring_with : Meaning t → Keys t.H t.P → Option (KeyPair t.P) → NewKeys t.H t.P
  ring_with m keys None = NoKeys
  ring_with m keys (Some next) = DataKeys (new_ring m.seal_limit m.failure_limit keys next)

  -- the keys that a write gave, if it gave any, are those of the space behind the highest one: first of the Handshake space, then
  -- the 1-RTT keys, behind which the session is asked for those of the next epoch; behind these come none
  abbrev pub keys_behind : Meaning t → (highest : SpaceId) → Option (Keys t.H t.P) → (session : t.S) → NewKeys t.H t.P
  keys_behind m highest None session = NoKeys
  keys_behind m Initial (Some keys) session = HandshakeKeys (new_keys m.seal_limit m.failure_limit keys)
  keys_behind m Handshake (Some keys) session = ring_with m keys (m.next_keys session)
  keys_behind m Data (Some keys) session = NoKeys

  -- the session behind that
  abbrev pub session_behind : Meaning t → (highest : SpaceId) → Option (Keys t.H t.P) → (session : t.S) → t.S
  session_behind m Handshake (Some keys) session = m.after_next session
  session_behind m highest keys session = session

  -- the session writes once: its bytes wait in the highest space, and the keys that it gives are those of the next one
  unfoldable pub write_after : Meaning t → At t → At t
  write_after m a =
      let session : t.S = a.state.lower.session in
      let keys : NewKeys t.H t.P = keys_behind m a.state.keys.highest (m.write_keys session) (m.after_write session) in
      move_to (Write (m.writes session) keys (session_behind m a.state.keys.highest (m.write_keys session) (m.after_write session))) a

  -- the session writes until it writes nothing, at most so many times
  abbrev pub writes_after : ℕ → Meaning t → At t → At t
  writes_after zero m a = a
  writes_after (suc n) m a = if is_written m a.state.lower.session then a else writes_after n m (write_after m a)

  -- the session writes until nothing is left: the number `left` falls with each write that writes or gives something
  unfoldable pub written_after : Meaning t → At t → At t
  written_after m a = writes_after (m.left a.state.lower.session) m a

  -- the ids that the peer's parameters name are those of this connection: the source id of its first packet; and those of a
  -- server name the destination id of this end's first packet, and the source id of the Retry that was taken, if one was (RFC 9000, section 7.3)
  abbrev pub ids_fit_for : Side → View t → TransportParameters → Bool
  ids_fit_for Client s p = names_id p.initial_src_cid (peer_id s.paths) && (names_id p.original_dst_cid s.setup.fixed.first_cid && same_named p.retry_src_cid s.setup.retry_cid)
  ids_fit_for Server s p = names_id p.initial_src_cid (peer_id s.paths)

  -- the ids in the transport parameters are those of the handshake, for this end (RFC 9000, section 7.3)
  unfoldable pub ids_fit : View t → TransportParameters → Bool
  ids_fit s p = ids_fit_for s.setup.fixed.side s p

  -- a client is told a server's token for a stateless reset, where its parameters have one (RFC 9000, section 10.3)
  abbrev pub token_after : Side → Option (List ℕ) → At t → At t
  token_after Client (Some token) a = move_to (Token token) a
  token_after _ _ a = a

  -- the peer's parameters count from now on, and identifiers are wanted: as many as the peer takes, 8 at most, less those that were
  -- issued with the handshake, where this end's ids aren't empty (RFC 9000, section 5.1.1)
  unfoldable pub learned_with : (time : ℕ) → TransportParameters → At t → At t
  learned_with time p a =
      let b : At t = move_to (Learn p) a in
      if length a.state.setup.fixed.local_cid == 0 then b else move_to (Want time (active_limit (Some p) - a.state.lower.ids.local.issued)) b

  -- The peer's parameters, as the session gives them; `others` comes behind where they can be read and their ids fit. A server's
  -- token counts also where the ids don't fit.
  abbrev pub parameters_and : (time : ℕ) → Result (Option TransportParameters) TransportError → (At t → At t) → At t → At t
  parameters_and time (Err error) others a = stopped_after time error a
  parameters_and time (Ok None) others a = stopped_after time missing_parameters a
  parameters_and time (Ok (Some p)) others a =
      let b : At t = token_after a.state.setup.fixed.side p.stateless_reset_token a in
      if ids_fit a.state p then others (learned_with time p b) else stopped_after time parameter_error b

  -- a server reads the client's parameters as it leaves the Initial space; its highest space was this one before the session wrote
  unfoldable pub learned_after : Meaning t → (time : ℕ) → (before : SpaceId) → At t → At t
  learned_after m time before a =
      if is_server_start a.state.setup.fixed.side before a.state.keys.highest then parameters_and time (m.parameters a.state.lower.session) (λ b. b) a else a

  -- the handshake is over at an end of this side: a client reads the server's parameters then; a server owes a HANDSHAKE_DONE, and
  -- drops the Handshake keys (RFC 9001, sections 4.1.2 and 4.9.2)
  abbrev pub over_after : Meaning t → (time : ℕ) → Side → At t → At t
  over_after m time Client a = parameters_and time (m.parameters a.state.lower.session) (move_to Establish) a
  over_after m time Server a = move_to Establish (armed_after time (move_to (Forget Handshake) (move_to Confirm a)))

  -- behind a Handshake packet, where the handshake goes on no longer, the connection is established
  unfoldable pub ended_after : Meaning t → (time : ℕ) → SpaceId → At t → At t
  ended_after m time id a =
      if is_handshake a.state.life.state && is_end id (m.handshaking a.state.lower.session) then over_after m time a.state.setup.fixed.side a else a

  -- behind the frames of a packet of this space, where none stopped it and none was a close: the session writes, a server that
  -- leaves the Initial space so reads the client's parameters, and where the handshake has ended, the connection is established
  unfoldable pub progress_after : Meaning t → (time : ℕ) → SpaceId → At t → At t
  progress_after m time id a = ended_after m time id (learned_after m time a.state.keys.highest (written_after m a))
