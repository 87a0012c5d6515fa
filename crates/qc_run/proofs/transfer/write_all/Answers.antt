use Rattle.std.proofs.Common.{arith}
use Rattle.std.proofs.lemmas.List.{take_rest}
use Rattle.qc_run.proofs.OutsideLemmas.{writing_more, writing_kept, writing_part}
use Rattle.qc_run.proofs.transfer.write_all.Goals as goal

pub returns-in-Ok-eq0-clause-part : goal.returns-in-Ok-eq0-clause-part
returns-in-Ok-eq0-clause-part g c = writing_part _ _ _ _ (writing_more _ _ _ _ _ _ c.loop-rest.invariant.taken c.in-Ok-eq0.ensures.takes)

pub loop-rest-preserved : goal.loop-rest-preserved
loop-rest-preserved g c = record {
  taken = rw (take_rest c.loop-rest.rest.now c.in-Ok.count) (writing_more _ _ _ _ _ _ c.loop-rest.invariant.taken c.in-Ok.ensures.takes);
  never_falls = omega arith;
}

pub returns-in-Err-clause-part : goal.returns-in-Err-clause-part
returns-in-Err-clause-part g c = writing_part _ _ _ _ (writing_kept _ _ _ _ _ c.loop-rest.invariant.taken c.in-Err.ensures.kept)
