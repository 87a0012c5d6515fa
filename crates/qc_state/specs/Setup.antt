-- What a connection was made with, what it knows of the peer's parameters, and the limit on idle time that comes of both.
use Rattle.std.specs.Prelude.{ℕ, min, ◌==◌, ◌&&◌, not, Bool, false, if◌then◌else◌, List, Option, Some, None, is_none}
use Rattle.rand_core.specs.Stream.{Stream}
use Rattle.qc_base.specs.Time.{times}
use Rattle.qc_base.specs.declared.side.Side.{Side}
use Rattle.qc_base.specs.declared.side.Side.TheVariants.{Client, Server}
use Rattle.qc_frame.specs.Frame.{FrameValue}
use Rattle.qc_params.specs.declared.params.TransportParameters.{TransportParameters}
use Rattle.qc_state.specs.declared.form.Form.{Form}
use Rattle.qc_state.specs.declared.setup.Drawn.{Drawn}
use Rattle.qc_state.specs.declared.setup.Fixed.{Fixed}
use Rattle.qc_state.specs.declared.setup.Setup.{Setup}
use Rattle.qc_state.specs.Draws.{behind, behind_bit, bit}
use Rattle.qc_state.specs.Forms.{is_one_rtt}
use Rattle.qc_state.specs.Timers.{least}
use Rattle.qc_state.specs.Tokens.{behind_tokens}

-- the same with the source of random words as its stream
unfoldable pub ideal_setup : {R : Type 0} → (R → Stream) → Setup R → Setup Stream
ideal_setup stream s = record { fixed = s.fixed; peer = s.peer; token = s.token; initial_token = s.initial_token; retry_cid = s.retry_cid; drawn = s.drawn; random = stream s.random }

-- a limit on idle time in nanoseconds, of one in milliseconds: none, and 0, are no limit (RFC 9000, section 10.1)
abbrev pub idle_limit_of : Option ℕ → Option ℕ
idle_limit_of None = None
idle_limit_of (Some millis) = if millis == 0 then None else Some (times millis 1000000)

-- the limit on idle time that holds: this end's own one, and once the peer's parameters were read the lesser of the two ends'
-- (RFC 9000, section 10.1)
abbrev pub idle_limit_with : Fixed → Option TransportParameters → Option ℕ
idle_limit_with fixed None = fixed.idle_limit
idle_limit_with fixed (Some peer) = least fixed.idle_limit (idle_limit_of (Some peer.max_idle_timeout))

-- how long the peer holds an acknowledgement back at most, in nanoseconds: 25 ms until its parameters were read (RFC 9000, section
-- 18.2)
abbrev pub peer_delay : Option TransportParameters → ℕ
peer_delay None = 25000000
peer_delay (Some peer) = times peer.max_ack_delay 1000000

-- the exponent of the delays in the peer's ACK frames: 3 until its parameters were read, and 20 at most (RFC 9000, section 18.2)
abbrev pub peer_exponent : Option TransportParameters → ℕ
peer_exponent None = 3
peer_exponent (Some peer) = min peer.ack_delay_exponent 20

-- the peer takes packets whose fixed bit isn't set, as its parameters say (RFC 9287)
abbrev pub takes_grease : Option TransportParameters → Bool
takes_grease None = false
takes_grease (Some peer) = peer.grease_quic_bit

-- a random word was drawn
unfoldable pub word_drawn : Setup Stream → Setup Stream
word_drawn s = record s { random = behind s.random }

-- the words behind the spin bit of a packet of this form: it is drawn for a 1-RTT packet where the connection doesn't spin
unfoldable pub behind_spin : Setup Stream → Form → Stream
behind_spin s form = if is_one_rtt form && not s.fixed.spins then behind_bit s.random else s.random

-- what is drawn for a packet of this form: the spin bit, and whether the fixed bit is flipped, where the peer takes that
unfoldable pub drawn_for : Setup Stream → Form → Drawn
drawn_for s form = record { spin = (is_one_rtt form && not s.fixed.spins) && bit s.random; flip = takes_grease s.peer && bit (behind_spin s form) }

-- so much was drawn, before any frame of the packet is taken
unfoldable pub packet_drawn : Setup Stream → Form → Setup Stream
packet_drawn s form = record s { drawn = drawn_for s form; random = if takes_grease s.peer then behind_bit (behind_spin s form) else behind_spin s form }

-- what the tokens of these frames are made with was drawn: a nonce for each NEW_TOKEN
abbrev pub tokens_drawn : List FrameValue → Setup Stream → Setup Stream
tokens_drawn fs s = record s { random = behind_tokens fs s.random }

-- an end of this side, with this token of a first packet, waits for its first packet: a server does
abbrev pub awaits_first : Side → Option (List ℕ) → Bool
awaits_first Client token = false
awaits_first Server token = is_none token

module _ {R : Type 0} where
  -- the limit of a connection
  unfoldable pub idle_limit_now : Setup R → Option ℕ
  idle_limit_now s = idle_limit_with s.fixed s.peer

  -- the peer's parameters were read
  unfoldable pub parameters_known : Setup R → TransportParameters → Setup R
  parameters_known s parameters = record s { peer = Some parameters }

  -- a server's first packet came, with this token
  unfoldable pub token_expected : Setup R → List ℕ → Setup R
  token_expected s token = record s { token = Some token }

  -- a Retry with this source id and this token was taken: all Initial packets carry its token from then on (RFC 9000, section 17.2.5.2)
  unfoldable pub retry_taken : Setup R → (cid token : List ℕ) → Setup R
  retry_taken s cid token = record s { initial_token = token; retry_cid = Some cid }

  -- this end is a server whose first packet didn't come yet
  unfoldable pub is_first_awaited : Setup R → Bool
  is_first_awaited s = awaits_first s.fixed.side s.token
