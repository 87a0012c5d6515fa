use Rattle.std.proofs.Common.{take}
use Rattle.qc_script.specs.Fields.{Lacks}
use Rattle.qc_script.proofs.fields.split_at_byte.Given as goal

abbrev pub invariant-loop-place : goal.invariant-loop-place
invariant-loop-place l = Lacks l.byte (take l.place l.text)
