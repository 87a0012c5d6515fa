use Rattle.std.proofs.Common.{◌∙◌, ℕ, List, Option, ap, sym}
use Rattle.qc_assembler.specs.Assembly.{bytes_of}
use Rattle.qc_assembler.proofs.Chained.{linked_bytes, linked_none}
use Rattle.qc_assembler.proofs.Outcomes.{if_ok_map}
use Rattle.qc_assembler.proofs.chain.Chain.whole.Goals as goal

pub returns-in-None : goal.returns-in-None
returns-in-None c = c.new.ensures ∙ sym (linked_none c.self.inside.first c.self.inside.rest.items c.in-None.is) ∙ ap bytes_of c.self.view_is

pub returns-in-Some : goal.returns-in-Some
returns-in-Some c =
    if_ok_map c.gathered.result _ _ c.gathered.ensures
    (λ b is. is ∙ sym (linked_bytes c.self.inside.first c.in-Some.first c.self.inside.rest.items c.in-Some.is) ∙ ap bytes_of c.self.view_is)
