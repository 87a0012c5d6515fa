use Rattle.std.proofs.Common.{◌≡◌, ◌++◌, take, drop}
use Rattle.std.specs.List.{All, flat_map}
use Rattle.qc_text.specs.OneText.{IsEndpointInRange}
use Rattle.qc_text.specs.TraceText.{endpoint_text}
use Rattle.qc_text.proofs.steps.put_endpoint_events.Given as goal

abbrev pub invariant-loop-event : goal.invariant-loop-event
invariant-loop-event l = record {
  text : l.out.items ++ flat_map endpoint_text (drop l.event-index l.events) ≡ l.fn.out.items ++ flat_map endpoint_text l.events;
  in_range : All IsEndpointInRange (take l.event-index l.events);
}
