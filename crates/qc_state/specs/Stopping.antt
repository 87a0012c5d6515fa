-- How this end closes for an error that it found (RFC 9000, sections 10.2 and 11.1).
use Rattle.std.specs.Prelude.{ℕ, if◌then◌else◌, [], Option, None, is_none}
use Rattle.qc_base.specs.declared.transport_error.TransportError.{TransportError}
use Rattle.qc_state.specs.declared.life.Close.TheVariants as close
use Rattle.qc_state.specs.declared.life.ConnectionError.{ConnectionError}
use Rattle.qc_state.specs.declared.life.ConnectionError.TheVariants as lost
use Rattle.qc_state.specs.declared.life.State.TheVariants.{Drained}
use Rattle.qc_state.specs.Life.{is_open}
use Rattle.qc_state.specs.Moves.{Shut, Raise, Give, move_to}
use Rattle.qc_state.specs.Types.{Types}
use Rattle.qc_state.specs.View.{At}

-- The errors with which receiving closes (RFC 9000, section 20.1). Each may name the type of a frame: it does of one that can't be
-- read, and of one that may not stand in its packet or isn't taken so far.
abbrev pub internal_error_at : Option ℕ → TransportError
internal_error_at type = record { code = 0x01; frame = type }

-- a frame that can't be read
abbrev pub encoding_error_at : Option ℕ → TransportError
encoding_error_at type = record { code = 0x07; frame = type }

-- a rule of the protocol was broken
abbrev pub violation_at : Option ℕ → TransportError
violation_at type = record { code = 0x0a; frame = type }

-- CRYPTO bytes too far ahead of those that were given to the session (RFC 9000, section 7.5)
abbrev pub buffer_error : TransportError
buffer_error = record { code = 0x0d; frame = None }

-- the peer's transport parameters aren't those of this connection (RFC 9000, section 7.3)
abbrev pub parameter_error : TransportError
parameter_error = record { code = 0x08; frame = None }

-- the peer gave no transport parameters: a missing extension, as the error of a handshake (RFC 9001, section 8.2)
abbrev pub missing_parameters : TransportError
missing_parameters = record { code = 0x16d; frame = None }

-- the peer updated its keys where it wasn't allowed to (RFC 9001, sections 6.2 and 6.4)
abbrev pub update_error : TransportError
update_error = record { code = 0x0e; frame = None }

-- a key has sealed, or failed to open, as many packets as it may (RFC 9001, section 6.6)
abbrev pub key_limit_error : TransportError
key_limit_error = record { code = 0x0f; frame = None }

module _ {t : Types} where
  -- a reason for the end is given, unless one was given before
  unfoldable pub given_after : ConnectionError → At t → At t
  given_after why a = if is_none a.state.life.reason then move_to (Give why) a else a

  -- the connection ends at once, for this reason
  unfoldable pub killed_after : ConnectionError → At t → At t
  killed_after why a = given_after why (move_to (Raise Drained) a)

  -- this end closes for this error, where it hasn't closed before (RFC 9000, section 10.2)
  unfoldable pub stopped_after : (time : ℕ) → TransportError → At t → At t
  stopped_after time error a =
      if is_open a.state.life.state
      then given_after (lost.TransportError error) (move_to (Shut time (close.Connection (record { error_code = error.code; frame_type = error.frame; reason = [] }))) a)
      else a
