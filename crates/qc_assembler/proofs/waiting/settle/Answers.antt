use Rattle.std.proofs.Common.{sym}
use Rattle.qc_assembler.proofs.FrontPart.{with_none, is_absent}
use Rattle.qc_assembler.proofs.waiting.settle.Goals as goal

pub returns-then-is_none-clause-moved : goal.returns-then-is_none-clause-moved
returns-then-is_none-clause-moved c = sym (with_none c.args.read c.args.front.now c.args.parts.now.entries (is_absent c.args.front.now c.if-is_none.ensures))
