use Rattle.std.proofs.Common.{ap, refl, ◌∙◌}
use Rattle.qc_laws.proofs.Told.{step_time}
use Rattle.qc_conn.proofs.Stores.{named_more, none_more, step_stored}
use Rattle.qc_conn.proofs.driving.add_step.Goals as goal

-- the clock stands at the input's time after its step
pub returns-in-Ok-keep_step-clause-time : goal.returns-in-Ok-keep_step-clause-time
returns-in-Ok-keep_step-clause-time g c = ap (λ v. v.timers.greatest) c.in-Ok-keep_step.ensures.core ∙ step_time _ _ _ _ _ _ c.in-Ok.ensures.step

-- the store has the step's tokens under the name of before
pub returns-in-Ok-keep_step-clause-store : goal.returns-in-Ok-keep_step-clause-store
returns-in-Ok-keep_step-clause-store g c = step_stored g.G.TokenStore.inserted _ _ _ _ _ _ _ c.in-Ok-keep_step.ensures.trace c.in-Ok.ensures.name c.in-Ok-keep_step.ensures.store

-- or some of them
pub returns-in-Err-keep_step-clause-store_part : goal.returns-in-Err-keep_step-clause-store_part
returns-in-Err-keep_step-clause-store_part g c =
    named_more g.G.TokenStore.inserted _ _ _ _ c.in-Ok.ensures.name c.in-Err-keep_step.ensures.store_part

-- or none, without a step
pub returns-in-Err-clause-store_part : goal.returns-in-Err-clause-store_part
returns-in-Err-clause-store_part g c = none_more g.G.TokenStore.inserted _ _ _ refl
