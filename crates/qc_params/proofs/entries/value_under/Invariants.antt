use Rattle.std.proofs.Common.{◌≡◌, length}
use Rattle.std.specs.Option.{option_copied}
use Rattle.qc_params.specs.ParametersReading.{value_in}
use Rattle.qc_params.proofs.EntryLaws.{value_behind}
use Rattle.qc_params.proofs.entries.value_under.Given as goal

abbrev pub invariant-loop-rest : goal.invariant-loop-rest
invariant-loop-rest l = value_behind l.id (option_copied l.found) l.rest ≡ value_in l.id l.bytes

abbrev pub decreases-loop-rest : goal.decreases-loop-rest
decreases-loop-rest l = length l.rest
