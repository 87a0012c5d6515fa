use Rattle.std.proofs.Common.{◌≡◌, ◌++◌, drop, replicate}
use Rattle.qc_toy.specs.Cipher.{tabulated, tag_byte}
use Rattle.qc_toy.proofs.cipher.tag_of.Given as goal

abbrev pub invariant-loop-i : goal.invariant-loop-i
invariant-loop-i l = l.tag ≡ tabulated (tag_byte l.key l.t l.number) 0 l.i ++ drop l.i (replicate 16 0)
