use Rattle.std.proofs.Common.{◌≡◌, ◌∙◌, sym, length}
use Rattle.std.proofs.lemmas.Bool.{eqb-true}
use Rattle.qc_assembler.specs.Ahead.{assembled}
use Rattle.qc_assembler.proofs.Segments.{inserted_none}
use Rattle.qc_assembler.proofs.insert.insert_all.Goals as goal

pub returns-clause-came : goal.returns-clause-came
returns-clause-came c =
    let none : length c.loop-parts.bytes ≡ 0 = eqb-true (length c.loop-parts.bytes) 0 (sym c.loop-parts-test.ensures) in
    sym (inserted_none c.loop-parts.offset c.loop-parts.bytes (assembled c.args.read c.args.ranges.now.entries c.loop-parts.parts.entries) none) ∙ c.loop-parts.invariant.came
