use Rattle.std.proofs.Common.{arith, subst}
use Rattle.std.specs.List.{All}
use Rattle.std.proofs.lemmas.Grind.{common_steps}
use Rattle.std.proofs.lemmas.List.{take_all}
use Rattle.std.proofs.lemmas.List.Elements.{All-more}
use Rattle.qc_text.specs.OneText.{IsDeedInRange}
use Rattle.qc_text.proofs.deeds.put_dids.Goals as goal

pub loop-did-preserved : goal.loop-did-preserved
loop-did-preserved c = record {
  text = grind (arith, common_steps);
  in_range = All-more IsDeedInRange c.args.dids.now c.loop-did.did-index c.did-item.result c.loop-did-test.true c.loop-did.invariant.in_range
      (subst IsDeedInRange c.did-item.is c.in_ok-put_did.ensures.in_range);
}

pub returns-clause-in_range : goal.returns-clause-in_range
returns-clause-in_range c = subst (All IsDeedInRange) (take_all c.loop-did.did-index c.args.dids.now c.loop-did-test.false) c.loop-did.invariant.in_range
