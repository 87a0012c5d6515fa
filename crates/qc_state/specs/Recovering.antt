-- What loss recovery is told of a connection, the timeouts that follow from the round trip time, and the time of the loss timer
-- (RFC 9002, section 6).
use Rattle.std.specs.Prelude.{ℕ, Bool, true, false, not, ◌&&◌, ◌||◌, if◌then◌else◌, Option, None}
use Rattle.qc_base.specs.declared.side.Side.{Side}
use Rattle.qc_base.specs.declared.side.Side.TheVariants.{Client, Server}
use Rattle.qc_base.specs.declared.side.SpaceId.{SpaceId}
use Rattle.qc_base.specs.declared.side.SpaceId.TheVariants.{Initial, Handshake, «Data»}
use Rattle.qc_frame.specs.Frame.{AckValue}
use Rattle.qc_recovery.specs.Frames.{ranges_up_of, values_of}
use Rattle.qc_recovery.specs.Steps.{After, FiredAfter, ack_after, armed_at, probe_timeout, timeout_after, was_acknowledged}
use Rattle.qc_recovery.specs.declared.calls.Around.{Around}
use Rattle.qc_state.specs.declared.form.Form.TheVariants as form
use Rattle.qc_state.specs.Keys.{has_keys_for}
use Rattle.qc_state.specs.Life.{is_handshake, is_open}
use Rattle.qc_state.specs.Numbers.{began_at, next_number}
use Rattle.qc_state.specs.Paths.{is_blocked}
use Rattle.qc_state.specs.Setup.{peer_delay, peer_exponent}
use Rattle.qc_state.specs.Types.{Types, Meaning}
use Rattle.qc_state.specs.View.{View}

-- whether the peer of an end of this side has validated that end's address: a client always has; a server has once it acknowledged
-- a Handshake or 1-RTT packet, or the client holds 1-RTT keys and no Handshake keys (RFC 9002, section 6.2.2.1)
abbrev pub validates : Side → (acked confirmed : Bool) → Bool
validates Server acked confirmed = true
validates Client acked confirmed = acked || confirmed

-- whether an ACK in this space shows that a server has validated the client's address
abbrev pub shows_validated : SpaceId → Bool
shows_validated Initial = false
shows_validated Handshake = true
shows_validated «Data» = true

module _ {t : Types} where
  -- whether the peer has validated this end's address; `handled` says that an ACK is being handled which shows so
  unfoldable pub is_validated_by_peer : View t → (handled : Bool) → Bool
  is_validated_by_peer s handled =
      validates s.setup.fixed.side (handled || was_acknowledged Handshake s.lower.recovery || was_acknowledged «Data» s.lower.recovery)
      (has_keys_for s.keys form.OneRtt && not (has_keys_for s.keys form.Handshake))

  -- what loss recovery is told of a connection
  unfoldable pub around_of : View t → (blocked handled : Bool) → Around
  around_of s blocked handled = record {
    blocked = blocked;
    peer_validated = is_validated_by_peer s handled;
    handshake_over = not (is_handshake s.life.state);
    highest = s.keys.highest;
    initial_keys = has_keys_for s.keys form.Initial;
    handshake_keys = has_keys_for s.keys form.Handshake;
    max_ack_delay = peer_delay s.setup.peer;
    ack_delay_exponent = peer_exponent s.setup.peer;
    app_limited = s.paths.app_limited;
  }

  -- the probe timeout of a space, by the round trip time so far
  unfoldable pub probe_timeout_now : View t → SpaceId → ℕ
  probe_timeout_now s id = probe_timeout id (around_of s false false) s.paths.current.kept.rtt

  -- the time of the loss timer; none once the connection has closed
  unfoldable pub loss_time : View t → (blocked : Bool) → (time : ℕ) → Option ℕ
  loss_time s blocked time = if is_open s.life.state then armed_at time (around_of s blocked false) s.paths.current.kept.rtt s.lower.recovery else None

  -- what an ACK of this space leaves of loss recovery
  unfoldable pub settled_by : Meaning t → (time : ℕ) → SpaceId → AckValue → View t → After t.C
  settled_by m time id ack s =
      ack_after m.control time id (next_number s.numbers id) (began_at s.numbers id) (values_of ack) (ranges_up_of ack)
      (around_of s (is_blocked s.paths) (shows_validated id)) s.lower.recovery s.paths.current.kept

  -- what the loss timer leaves of it, as it fires
  unfoldable pub fired_by : Meaning t → (time : ℕ) → View t → FiredAfter t.C
  fired_by m time s = timeout_after m.control time (around_of s (is_blocked s.paths) false) s.lower.recovery s.paths.current.kept
