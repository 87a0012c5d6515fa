use Rattle.std.proofs.Common.{◌∙◌, ap, sym}
use Rattle.std.specs.Prelude.{is_some}
use Rattle.qc_assembler.proofs.Chained.{linked_some}
use Rattle.qc_assembler.proofs.chain.Chain.is_none.Goals as goal

pub returns : goal.returns
returns c = ap is_some (sym c.self.view_is) ∙ linked_some c.self.inside.first c.self.inside.rest.items ∙ c.is_none.ensures
