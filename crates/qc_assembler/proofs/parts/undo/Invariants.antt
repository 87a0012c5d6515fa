use Rattle.std.proofs.Common.{◌≡◌, length}
use Rattle.qc_assembler.specs.Parts.{undone}
use Rattle.qc_assembler.proofs.parts.undo.Given as goal

abbrev pub invariant-loop-end : goal.invariant-loop-end
invariant-loop-end l = undone l.placed.items l.parts.entries ≡ undone l.fn.placed.items l.fn.parts.entries

abbrev pub decreases-loop-end : goal.decreases-loop-end
decreases-loop-end l = length l.placed.items
