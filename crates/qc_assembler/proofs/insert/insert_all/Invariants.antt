use Rattle.std.proofs.Common.{◌≡◌, ◌+◌, ◌<◌, ◌^◌, length}
use Rattle.qc_assembler.specs.Assembly.{inserted}
use Rattle.qc_assembler.specs.Parts.{undone, IsKept}
use Rattle.qc_assembler.specs.Ahead.{assembled}
use Rattle.qc_assembler.proofs.insert.insert_all.Given as goal

abbrev pub invariant-loop-parts : goal.invariant-loop-parts
invariant-loop-parts l = record {
  came : inserted l.offset l.bytes (assembled l.read l.ranges.entries l.parts.entries) ≡ inserted l.fn.offset l.fn.bytes (assembled l.read l.ranges.entries l.fn.parts.entries);
  kept : IsKept l.parts.entries l.joined;
  undo : undone l.placed.items l.parts.entries ≡ undone l.fn.placed.items l.fn.parts.entries;
  fits : l.offset + length l.bytes < 2 ^ 64;
}

abbrev pub decreases-loop-parts : goal.decreases-loop-parts
decreases-loop-parts l = length l.bytes
