-- What one read and one write of the session make of a connection.
use Rattle.std.specs.Prelude.{◌≡◌, ℕ, ◌<◌, Bool, true, false, List, [], length, Option, None, Some, Result}
use Rattle.qc_base.specs.declared.side.SpaceId.{SpaceId}
use Rattle.qc_base.specs.declared.transport_error.TransportError.{TransportError}
use Rattle.qc_state.specs.declared.deeds.Did.TheVariants as did
use Rattle.qc_state.specs.declared.deeds.Layer.TheVariants as layer
use Rattle.qc_crypto.specs.declared.keys.Keys.{Keys}
use Rattle.qc_state.specs.Keys.{keys_given}
use Rattle.qc_state.specs.Lower.{session_wrote}
use Rattle.qc_state.specs.Moves.{Read, Tell, move_to}
use Rattle.qc_state.specs.Progress.{is_written, keys_behind, session_behind, write_after}
use Rattle.qc_state.specs.Types.{Types, Meaning}
use Rattle.qc_state.specs.View.{View, At}

module _ {t : Types} where
  -- keys that the session gave with a write, if it gave any, were taken
  unfoldable pub keys_taken : Meaning t → Option (Keys t.H t.P) → View t → View t
  keys_taken m keys s = record s {
    keys = keys_given s.keys (keys_behind m s.keys.highest keys s.lower.session);
    lower = session_wrote s.lower (session_behind m s.keys.highest keys s.lower.session);
  }

  -- the session was given these bytes of the space's CRYPTO stream, and answers; none where there are none
  abbrev pub HasRead : Meaning t → SpaceId → List ℕ → Option (Result Bool TransportError) → At t → At t → Type 0
  HasRead m id bytes None a b = (bytes ≡ []) × (b ≡ a)
  HasRead m id bytes (Some answer) a b =
      (0 < length bytes) × ((answer ≡ m.reads a.state.lower.session bytes)
      × (b ≡ move_to (Read id (length bytes) (m.after_read a.state.lower.session bytes)) (move_to (Tell (did.Gave layer.Session bytes)) a)))

  -- the session wrote once, or writes nothing now
  abbrev pub HasWritten : Meaning t → Bool → At t → At t → Type 0
  HasWritten m true a b = (is_written m a.state.lower.session ≡ false) × ((b ≡ write_after m a) × (m.left b.state.lower.session < m.left a.state.lower.session))
  HasWritten m false a b = (is_written m a.state.lower.session ≡ true) × (b ≡ a)
