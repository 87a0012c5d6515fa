use Rattle.std.proofs.Common.{◌∙◌, ◌<◌, arith}
use Rattle.std.proofs.lemmas.List.{map-append}
use Rattle.std.proofs.lemmas.Grind.{common_steps}
use Rattle.qc_frame.proofs.Padded.{padded_one}
use Rattle.qc_frame.proofs.list.push_each.Goals as goal

pub loop-i-preserved : goal.loop-i-preserved
loop-i-preserved c = record {
  frames = let h : c.loop-i.i < c.args.padding = omega arith in rw (c.in_ok-push.ensures.items, map-append) (padded_one _ _ _ h ∙ c.loop-i.invariant.frames);
  kept = grind (arith, common_steps);
}
