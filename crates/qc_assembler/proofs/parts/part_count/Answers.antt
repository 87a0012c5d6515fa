use Rattle.std.proofs.Common.{arith}
use Rattle.qc_assembler.proofs.Placing.{parts_counted}
use Rattle.qc_assembler.proofs.parts.part_count.Goals as goal

pub overflow_sub-result : goal.overflow_sub-result
overflow_sub-result c = omega (arith, parts_counted c.args.parts.now.entries c.requires.apart)

pub returns : goal.returns
returns c = omega (arith, parts_counted c.args.parts.now.entries c.requires.apart)
