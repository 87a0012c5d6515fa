use Rattle.std.proofs.Common.{length}
use Rattle.qc_script.proofs.ScriptLemmas.{Read}
use Rattle.qc_script.proofs.script.read_script.Given as goal

abbrev pub invariant-loop-rest : goal.invariant-loop-rest
invariant-loop-rest l = Read l.bytes l.side l.script.settings l.script.inputs.items l.place l.count l.rest

abbrev pub decreases-loop-rest : goal.decreases-loop-rest
decreases-loop-rest l = length l.rest
