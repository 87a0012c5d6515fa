use Rattle.std.proofs.Common.{◌∙◌, sym}
use Rattle.qc_assembler.proofs.Past.{range_some, range_none}
use Rattle.qc_assembler.proofs.ahead.range_past.Goals as goal

pub returns-in-Some : goal.returns-in-Some
returns-in-Some c = sym (range_some c.args.offset c.args.ranges.now.entries _ c.next.new.self (sym (c.range.ensures.between tt) ∙ c.in-Some.ensures.steps))

pub returns-in-None : goal.returns-in-None
returns-in-None c = sym (range_none c.args.offset c.args.ranges.now.entries (sym (c.range.ensures.between tt) ∙ c.in-None.ensures.steps.0))
