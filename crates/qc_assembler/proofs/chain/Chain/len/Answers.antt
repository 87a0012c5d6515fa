use Rattle.std.proofs.Common.{◌∙◌, ℕ, List, Option, length, ap}
use Rattle.qc_assembler.specs.Assembly.{bytes_of}
use Rattle.qc_assembler.proofs.Chained.{linked_len}
use Rattle.qc_assembler.proofs.chain.Chain.len.Goals as goal

pub returns : goal.returns
returns c = linked_len c.self.inside.first c.self.inside.rest.items c.self.inside.len c.self.invariant ∙ ap (λ (v : Option (List ℕ)). length (bytes_of v)) c.self.view_is
