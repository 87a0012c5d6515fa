use Rattle.std.proofs.Common.{◌≡◌, ◌++◌, ◌+◌, ◌%◌, drop, get_or}
use Rattle.qc_toy.specs.Cipher.{tabulated}
use Rattle.qc_toy.proofs.export.put_exported.Given as goal

abbrev pub invariant-loop-i : goal.invariant-loop-i
invariant-loop-i l = l.output ≡ tabulated (λ i. (get_or l.secret (i % 5) 0 + l.shift + i) % 256) 0 l.i ++ drop l.i l.fn.output
