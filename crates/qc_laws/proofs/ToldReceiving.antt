-- The deeds of a datagram come where they may.
use Rattle.std.proofs.Common.{ℕ, List}
use Rattle.qc_base.specs.declared.side.SpaceId.{SpaceId}
use Rattle.qc_state.specs.declared.coming.Coming.{Coming}
use Rattle.qc_state.specs.Receiving.{datagram_after}
use Rattle.qc_state.specs.Types.{Types, Meaning}
use Rattle.qc_state.specs.View.{At}
use Rattle.qc_laws.proofs.Receives.{holds_datagram}
use Rattle.qc_state.proofs.Telling.{Told, told_here, told_next, told_move}

pub told_datagram : {t : Types} (id : SpaceId) (m : Meaning t) (coming : Coming) (bytes : List ℕ) (a : At t) → Told id a (datagram_after m coming bytes a)
told_datagram id m coming bytes a = holds_datagram (Told id) (told_here id) (told_next id) (λ x received b may. told_move id x b may) m coming bytes a
