use Rattle.std.proofs.Common.{◌≡◌, ◌++◌, take, drop}
use Rattle.std.specs.List.{All, flat_map}
use Rattle.qc_text.specs.OneText.{IsInRange}
use Rattle.qc_text.specs.TraceText.{step_text}
use Rattle.qc_text.proofs.trace.put_steps.Given as goal

abbrev pub invariant-loop-step : goal.invariant-loop-step
invariant-loop-step l = record {
  text : l.out.items ++ flat_map step_text (drop l.step-index l.steps) ≡ l.fn.out.items ++ flat_map step_text l.steps;
  in_range : All IsInRange (take l.step-index l.steps);
}
