use Rattle.std.proofs.Common.{◌∙◌, sym}
use Rattle.qc_assembler.proofs.Past.{past_some, past_none}
use Rattle.qc_assembler.proofs.parts.first_past.Goals as goal

pub returns-in-Some : goal.returns-in-Some
returns-in-Some c =
    rw c.len.ensures.value
    (sym (past_some c.args.offset c.args.parts.now.entries _ c.next.new.self (sym (c.range.ensures.between tt) ∙ c.in-Some.ensures.steps)))

pub returns-in-None : goal.returns-in-None
returns-in-None c = sym (past_none c.args.offset c.args.parts.now.entries (sym (c.range.ensures.between tt) ∙ c.in-None.ensures.steps.0))
