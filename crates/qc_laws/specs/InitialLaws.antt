-- Laws over whole runs, said of the Initial space, which an end leaves (RFC 9001, section 4.9.1).
use Rattle.std.specs.Prelude.{◌≡◌, Bool, true, false, not, ◌||◌, List, [], ◌∷◌, Some}
use Rattle.qc_base.specs.declared.side.Side.{Side}
use Rattle.qc_base.specs.declared.side.Side.TheVariants.{Client, Server}
use Rattle.qc_base.specs.declared.side.SpaceId.TheVariants.{Initial, Handshake}
use Rattle.qc_state.specs.declared.deeds.Did.{Did}
use Rattle.qc_state.specs.declared.deeds.Did.TheVariants.{Piece, Sealed}
use Rattle.qc_state.specs.Keys.{has_keys}
use Rattle.qc_state.specs.Life.{is_drained}
use Rattle.qc_state.specs.Moves.{accepts}
use Rattle.qc_state.specs.Types.{Types}
use Rattle.qc_state.specs.View.{View}

-- with this deed an end of this side leaves the Initial space: a client seals a Handshake packet, and a server accepts one
abbrev pub leaves_with : Side → Did → Bool
leaves_with Client (Sealed Handshake number epoch early fs) = true
leaves_with Server (Piece (Some Handshake) number verdict) = accepts verdict
leaves_with _ _ = false

-- a deed that seals an Initial packet
abbrev pub seals_initial : Did → Bool
seals_initial (Sealed Initial number epoch early fs) = true
seals_initial _ = false

-- an end of this side has left the space behind these deeds, if it had before or does with one of them
abbrev pub has_left : Side → Bool → List Did → Bool
has_left side left [] = left
has_left side left (d ∷ ds) = has_left side (left || leaves_with side d) ds

-- no Initial packet is sealed by an end that has left the space
abbrev pub NoneInitial : Side → Bool → List Did → Type 0
NoneInitial side left [] = Unit {0}
NoneInitial side left (d ∷ ds) = (seals_initial d ≡ true → left ≡ false) × NoneInitial side (left || leaves_with side d) ds

module _ {t : Types} where
  -- the space is left: it has no keys, or the connection has ended
  abbrev pub is_left : View t → Bool
  is_left s = not (has_keys s.keys Initial) || is_drained s.life.state

  -- From one view to another, between which these deeds were done: no Initial packet is sealed where the space had been left, nor behind a
  -- Handshake packet that a client sealed, or that a server accepted; and behind one the space is left.
  pub record LeavesInitial (ds : List Did) (s s' : View t) : Type 0 where
    pub none : NoneInitial s.setup.fixed.side (is_left s) ds
    pub gone : has_left s.setup.fixed.side (is_left s) ds ≡ true → is_left s' ≡ true
    pub side : s'.setup.fixed.side ≡ s.setup.fixed.side
