-- Behind the timers that came, one after the other, none is left that has come.
use Rattle.std.proofs.Common.{◌≡◌, ℕ, sym, ◌∙◌, subst, false, Result, Ok, Err}
use Rattle.std.specs.Prelude.{OnOk}
use Rattle.std.specs.declared.alloc.AllocError.{AllocError}
use Rattle.qc_state.specs.Life.{is_drained}
use Rattle.qc_state.specs.Timeouts.{loss_expired, idle_expired, close_expired, keys_expired, pacing_expired, ids_expired, ack_expired, timeout_after}
use Rattle.qc_state.specs.Types.{Types, Meaning}
use Rattle.qc_state.specs.View.{At}
use Rattle.qc_state.proofs.Expired.{timeout_is}

pub behind_timeout : {t : Types} (m : Meaning t) (time : ℕ) (r : Result (Unit {0}) AllocError) (P : At t → Type 0) (a f : At t)
    → OnOk r (f ≡ ack_expired time (ids_expired time (pacing_expired time (keys_expired time (close_expired time (idle_expired time (loss_expired m time a)))))))
    → (is_drained a.state.life.state ≡ false → P (timeout_after m time a)) → OnOk r (is_drained a.state.life.state ≡ false → P f)
behind_timeout m time (Ok done) P a f is holds = λ alive. subst P (timeout_is m time a alive ∙ sym is) (holds alive)
behind_timeout m time (Err x) P a f is holds = tt
