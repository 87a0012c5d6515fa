use Rattle.std.proofs.Common.{◌≡◌, ◌+◌, ◌<◌, ◌^◌, length}
use Rattle.qc_assembler.specs.Assembly.{add}
use Rattle.qc_assembler.specs.Parts.{flat, undone, IsKept}
use Rattle.qc_assembler.proofs.parts.fill.Given as goal

abbrev pub invariant-loop-parts : goal.invariant-loop-parts
invariant-loop-parts l = record {
  came : add l.offset l.bytes (flat l.parts.entries) ≡ add l.fn.offset l.fn.bytes (flat l.fn.parts.entries);
  kept : IsKept l.parts.entries l.joined;
  undo : undone l.placed.items l.parts.entries ≡ undone l.fn.placed.items l.fn.parts.entries;
  fits : l.offset + length l.bytes < 2 ^ 64;
}

abbrev pub decreases-loop-parts : goal.decreases-loop-parts
decreases-loop-parts l = length l.bytes
