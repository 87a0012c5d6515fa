-- An update that the application asks for, from the connection that it was given.
use Rattle.std.proofs.Common.{◌≡◌, [], ap, sym, subst, ◌∙◌, true, IsSome}
use Rattle.qc_base.specs.Time.{plus}
use Rattle.qc_state.specs.declared.form.Form.TheVariants.{OneRtt}
use Rattle.qc_state.specs.Keys.{epoch_in}
use Rattle.qc_state.specs.Types.{Types, Meaning}
use Rattle.qc_state.specs.Updating.{fresh_now, may_update_now, updated_after}
use Rattle.qc_state.specs.View.{View, at}
use Rattle.qc_state.proofs.Updates.{updated_rises}

module _ {t : Types} where
  pub updated_from : (m : Meaning t) (s o s' : View t) → s' ≡ (updated_after m (at s [])).state → s ≡ o → s' ≡ (updated_after m (at o [])).state
  updated_from m s o s' is same = is ∙ ap (λ (v : View t). (updated_after m (at v [])).state) same

  pub rises_from : (m : Meaning t) (s o s' : View t) → s' ≡ (updated_after m (at s [])).state → s ≡ o → may_update_now s ≡ true → IsSome (fresh_now m o)
      → epoch_in s'.keys OneRtt ≡ plus (epoch_in o.keys OneRtt) 1
  rises_from m s o s' is same may some =
      updated_rises m s s' is may (subst (λ (v : View t). IsSome (fresh_now m v)) (sym same) some) ∙ ap (λ (v : View t). plus (epoch_in v.keys OneRtt) 1) same
