-- A reason for the end that is given unless one was given before.
use Rattle.std.proofs.Common.{◌≡◌, List, [], ◌∷◌, ◌++◌, refl, ap, sym, ◌∙◌, subst, Bool, true, false, Some, Result, Ok, Err, if◌then◌else◌, append-nil}
use Rattle.std.specs.Prelude.{is_none, OnOk}
use Rattle.std.specs.declared.alloc.AllocError.{AllocError}
use Rattle.rand_core.specs.Stream.{Stream}
use Rattle.qc_state.specs.declared.deeds.Did.{Did}
use Rattle.qc_state.specs.declared.deeds.Did.TheVariants as did
use Rattle.qc_state.specs.declared.life.ConnectionError.{ConnectionError}
use Rattle.qc_state.specs.declared.life.Life.{Life}
use Rattle.qc_state.specs.Life.{reason_given}
use Rattle.qc_state.specs.Moves.{Give, deeds_move, keys_move, life_move, lower_move, move_to, numbers_move, paths_move, setup_move, state_move, timers_move, waiting_move}
use Rattle.qc_state.specs.Stopping.{given_after}
use Rattle.qc_state.specs.Types.{Types}
use Rattle.qc_state.specs.View.{Held, held}

module _ {t : Types} {R : Type 0} (stream : R → Stream) where
  -- where none was given before, and where one was
  either_given : (none : Bool) (v : Held t R) (ds : List Did) (why : ConnectionError) → is_none v.life.reason ≡ none →
      held stream (record v { life = if none then record v.life { reason = Some why; lost = Some why } else v.life }) (ds ++ (if none then did.Lost why ∷ [] else [])) ≡ (if none then move_to (Give why) (held stream v ds) else held stream v ds)
  unfolding move_to state_move deeds_move keys_move life_move lower_move numbers_move paths_move setup_move timers_move waiting_move reason_given
  either_given true v ds why is = ap (λ (none : Bool). held stream (record v { life = if none then record v.life { reason = Some why; lost = Some why } else v.life }) (ds ++ did.Lost why ∷ [])) (sym is)
  either_given false v ds why is = ap (λ (xs : List Did). held stream v xs) (append-nil ds)

  -- of a core, where its life alone was lent to the call
  pub core_gives : (r : Result (Unit {0}) AllocError) (v w : Held t R) (life : Life) (ds ds' : List Did) (why : ConnectionError) → w ≡ v → OnOk r (life ≡ reason_given w.life why) → OnOk r (ds' ≡ ds ++ (if is_none w.life.reason then did.Lost why ∷ [] else [])) →
      OnOk r (held stream (record w { life = life }) ds' ≡ given_after why (held stream v ds))
  unfolding given_after reason_given
  core_gives (Ok done) v w life ds ds' why same is_life is_ds =
      subst (λ (x : Held t R). held stream (record w { life = life }) ds' ≡ given_after why (held stream x ds)) same
      (ap (λ (x : Life). held stream (record w { life = x }) ds') is_life ∙ ap (λ (xs : List Did). held stream (record w { life = reason_given w.life why }) xs) is_ds ∙ either_given (is_none w.life.reason) w ds why refl)
  core_gives (Err e) v w life ds ds' why same is_life is_ds = tt
