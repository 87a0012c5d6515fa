use Rattle.std.proofs.Common.{◌≡◌, ◌∙◌, ap, sym, ℕ, List, length, arith}
use Rattle.std.proofs.lemmas.Grind.{common_steps}
use Rattle.qc_assembler.specs.Parts.{undone}
use Rattle.qc_assembler.proofs.Placing.{undone_push, undone_none}
use Rattle.qc_assembler.proofs.parts.undo.Goals as goal

pub loop-end-preserved : goal.loop-end-preserved
loop-end-preserved c =
    rw c.take_out.ensures
    (sym (undone_push c.pop.new.self.items c.in-Some.end c.loop-end.parts.entries)
    ∙ ap (λ (ks : List ℕ). undone ks c.loop-end.parts.entries) (sym c.in-Some.ensures.items) ∙ c.loop-end.invariant)

pub returns-clause-parts : goal.returns-clause-parts
returns-clause-parts c =
    let none : length c.loop-end.placed.items ≡ 0 = grind (arith, common_steps, c.in_default.ensures.cases) in
    sym (undone_none c.loop-end.placed.items c.loop-end.parts.entries none) ∙ c.loop-end.invariant
