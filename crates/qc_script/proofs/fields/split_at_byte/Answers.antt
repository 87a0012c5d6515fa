use Rattle.qc_script.proofs.NumberLemmas.{lacks_more}
use Rattle.qc_script.proofs.fields.split_at_byte.Goals as goal

pub loop-place-preserved : goal.loop-place-preserved
loop-place-preserved c = lacks_more c.args.byte c.loop-place.place c.args.text.now c.loop-place-test.true c.if-text-place.false c.loop-place.invariant
