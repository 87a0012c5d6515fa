use Rattle.std.proofs.lemmas.Result.{IfOk-weaker}
use Rattle.qc_run.proofs.RunLemmas.{toy_run, told_refusal}
use Rattle.qc_run.proofs.perform.driven.Goals as goal

pub returns-in_ok-text-in-Ok : goal.returns-in_ok-text-in-Ok
returns-in_ok-text-in-Ok c = toy_run _ _ _ _ c.args.script.now.settings _ _ _ _ _ _ c.as_slice.ensures.value c.requires.end c.in-Ok.ensures.valid c.in-Ok.ensures.run c.in_ok-text-in-Ok.ensures.text (c.in_ok-text-in-Ok.ensures.one (c.in-Ok.ensures.plain c.requires.plain))

pub returns-in-Err : goal.returns-in-Err
returns-in-Err c = IfOk-weaker _ _ _ (λ told h. told_refusal _ _ _ _ c.args.script.now.settings _ _ _ c.in-Err.error _ told _ c.as_slice.ensures.value c.requires.end c.in-Err.ensures.refused h) c.refusal_told.ensures
