use Rattle.std.proofs.Common.{add-one, arith}
use Rattle.qc_base.proofs.Masks.{mask_next}
use Rattle.qc_base.proofs.mask.apply.Goals as goal

pub loop-i-preserved : goal.loop-i-preserved
loop-i-preserved c =
    rw (c.loop-i.invariant, add-one) (mask_next c.args.bytes.now c.args.mask.now c.loop-i.i (omega arith) (omega arith))
