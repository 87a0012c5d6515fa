use Rattle.std.proofs.Common.{◌≡◌, ◌-◌}
use Rattle.qc_path.specs.Arrived.{missing_from}
use Rattle.qc_path.proofs.dedup.Dedup.is_missing.Given as goal

abbrev pub invariant-loop-n : goal.invariant-loop-n
invariant-loop-n l = missing_from l.self l.n (l.high - l.n) ≡ missing_from l.self l.first (l.high - l.first)

abbrev pub decreases-loop-n : goal.decreases-loop-n
decreases-loop-n l = l.high - l.n
