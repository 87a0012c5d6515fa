use Rattle.std.proofs.Common.{length}
use Rattle.qc_script.proofs.IdLemmas.{AreRead}
use Rattle.qc_script.proofs.id_lines.read_ids.Given as goal

abbrev pub invariant-loop-field : goal.invariant-loop-field
invariant-loop-field l = AreRead l.fields l.ids.items l.rest

abbrev pub decreases-loop-field : goal.decreases-loop-field
decreases-loop-field l = length l.rest
