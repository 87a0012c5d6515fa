use Rattle.std.proofs.Common.{◌≡◌, take}
use Rattle.qc_base.specs.Mask.{mask_over}
use Rattle.qc_base.proofs.mask.apply.Given as goal

abbrev pub invariant-loop-i : goal.invariant-loop-i
invariant-loop-i l = l.bytes ≡ mask_over l.fn.bytes (take l.i l.mask)
