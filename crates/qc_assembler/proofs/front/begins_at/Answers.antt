use Rattle.std.proofs.Common.{◌∙◌}
use Rattle.qc_assembler.proofs.ReadFront.{starts_begins}
use Rattle.qc_assembler.proofs.front.begins_at.Goals as goal

pub returns : goal.returns
returns c = c.starts_at.ensures ∙ starts_begins c.args.offset c.args.parts.now.entries c.requires
