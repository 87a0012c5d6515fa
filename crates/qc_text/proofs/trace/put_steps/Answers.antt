use Rattle.std.proofs.Common.{arith, subst}
use Rattle.std.specs.List.{All}
use Rattle.std.proofs.lemmas.Grind.{common_steps}
use Rattle.std.proofs.lemmas.List.{take_all}
use Rattle.std.proofs.lemmas.List.Elements.{All-more}
use Rattle.qc_text.specs.OneText.{IsInRange}
use Rattle.qc_text.proofs.trace.put_steps.Goals as goal

pub loop-step-preserved : goal.loop-step-preserved
loop-step-preserved c = record {
  text = grind (arith, common_steps);
  in_range = All-more IsInRange c.args.steps.now c.loop-step.step-index c.step-item.result c.loop-step-test.true c.loop-step.invariant.in_range
      (subst IsInRange c.step-item.is c.in_ok-put_step.ensures.in_range);
}

pub returns-clause-in_range : goal.returns-clause-in_range
returns-clause-in_range c = subst (All IsInRange) (take_all c.loop-step.step-index c.args.steps.now c.loop-step-test.false) c.loop-step.invariant.in_range
