use Rattle.std.proofs.Common.{◌≡◌, ◌∙◌, sym, length}
use Rattle.std.proofs.lemmas.Bool.{eqb-true}
use Rattle.qc_assembler.specs.Parts.{flat}
use Rattle.qc_assembler.proofs.Adding.{add_none}
use Rattle.qc_assembler.proofs.parts.fill.Goals as goal

pub returns-clause-came : goal.returns-clause-came
returns-clause-came c =
    let none : length c.loop-parts.bytes ≡ 0 = eqb-true (length c.loop-parts.bytes) 0 (sym c.loop-parts-test.ensures) in
    sym (add_none c.loop-parts.offset c.loop-parts.bytes (flat c.loop-parts.parts.entries) none) ∙ c.loop-parts.invariant.came
