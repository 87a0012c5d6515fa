use Rattle.std.proofs.Common.{arith, subst}
use Rattle.std.specs.List.{All}
use Rattle.std.proofs.lemmas.Grind.{common_steps}
use Rattle.std.proofs.lemmas.List.{take_all}
use Rattle.std.proofs.lemmas.List.Elements.{All-more}
use Rattle.qc_text.specs.OneText.{IsEndpointInRange}
use Rattle.qc_text.proofs.steps.put_endpoint_events.Goals as goal

pub loop-event-preserved : goal.loop-event-preserved
loop-event-preserved c = record {
  text = grind (arith, common_steps);
  in_range = All-more IsEndpointInRange c.args.events.now c.loop-event.event-index c.event-item.result c.loop-event-test.true c.loop-event.invariant.in_range
      (subst IsEndpointInRange c.event-item.is c.in_ok-put_endpoint_event.ensures.in_range);
}

pub returns-clause-in_range : goal.returns-clause-in_range
returns-clause-in_range c = subst (All IsEndpointInRange) (take_all c.loop-event.event-index c.args.events.now c.loop-event-test.false) c.loop-event.invariant.in_range
