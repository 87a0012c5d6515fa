-- What makes a list of versions end the connection.
use Rattle.std.proofs.Common.{ℕ, Bool, List, ap, sym, ◌∙◌}
use Rattle.std.specs.Prelude.{◌≡◌, ◌&&◌, not, true}
use Rattle.rand_core.specs.Stream.{Stream}
use Rattle.qc_state.specs.Moves.{is_unanswered}
use Rattle.qc_state.specs.Setup.{ideal_setup}
use Rattle.qc_state.specs.Types.{Types}
use Rattle.qc_state.specs.Verdicts.{lacks_version, lists_version}
use Rattle.qc_state.specs.View.{Held, ideal}

-- a client that wasn't answered, whose version isn't listed, lacks it
pub lacks_of : {t : Types} {R : Type 0} (st : R → Stream) (v : Held t R) (payload : List ℕ) (unanswered listed : Bool) → unanswered ≡ is_unanswered (ideal st v) → unanswered ≡ true → listed ≡ lists_version v.setup.fixed.version payload → not listed ≡ lacks_version (ideal st v) payload
unfolding lacks_version ideal_setup
lacks_of st v payload unanswered listed is so lists =
    ap not lists ∙ ap (λ (x : Bool). x && not (lists_version v.setup.fixed.version payload)) (sym so ∙ is)
