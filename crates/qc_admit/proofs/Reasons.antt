-- The reason for the end that was given since.
use Rattle.std.proofs.Common.{◌≡◌, Bool, false, if◌then◌else◌, ap, sym, ◌∙◌, None, Some}
use Rattle.qc_state.specs.declared.life.ConnectionError.{ConnectionError}
use Rattle.qc_state.specs.Types.{Types}
use Rattle.qc_state.specs.View.{Held}

-- a reason that stands, where none did before
pub reason_found : {t : Types} {R : Type 0} (v w : Held t R) (stood : Bool) (why copied : ConnectionError) → w ≡ v → stood ≡ false → w.life.reason ≡ Some why → copied ≡ why → Some copied ≡ (if stood then None else v.life.reason)
reason_found v w stood why copied same e is is_copied =
    ap Some is_copied ∙ sym is ∙ ap (λ (x : Held _ _). x.life.reason) same ∙ ap (λ (b : Bool). if b then None else v.life.reason) (sym e)
