use Rattle.std.proofs.Common.{◌≡◌, ◌+◌, ◌%◌, drop}
use Rattle.qc_toy.specs.KeyBytes.{sum_of_fifths}
use Rattle.qc_toy.proofs.key_bytes.fifths.Given as goal

abbrev pub invariant-loop-j : goal.invariant-loop-j
invariant-loop-j l = (l.sum + sum_of_fifths l.i l.j (drop l.j l.id)) % 256 ≡ sum_of_fifths l.i 0 l.id % 256
