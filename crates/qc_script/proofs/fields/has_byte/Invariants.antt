use Rattle.std.proofs.Common.{take}
use Rattle.std.specs.Bool.{MatchBool}
use Rattle.qc_script.specs.Fields.{Lacks}
use Rattle.qc_script.proofs.fields.has_byte.Given as goal

abbrev pub invariant-loop-b : goal.invariant-loop-b
invariant-loop-b l = MatchBool l.found (Lacks l.byte (take l.b-index l.chunk) → ⊥) (Lacks l.byte (take l.b-index l.chunk))
