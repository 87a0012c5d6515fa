use Rattle.std.proofs.Common.{sym}
use Rattle.std.proofs.lemmas.Bool.{false≢true}
use Rattle.qc_assembler.proofs.FirstPart.{first_at, first_absent}
use Rattle.qc_assembler.proofs.front.first_part.Goals as goal

pub returns-in-Some-clause-value : goal.returns-in-Some-clause-value
returns-in-Some-clause-value c = rw c.len.ensures.value (sym (first_at c.args.parts.now.entries (c.in-Some.end.now, c.in-Some.part.now) c.in-Some.ensures.first))

pub returns-in-None-clause-value : goal.returns-in-None-clause-value
returns-in-None-clause-value c = sym (first_absent c.args.parts.now.entries (λ h. false≢true (c.in-None.ensures.variant.1 h)))
