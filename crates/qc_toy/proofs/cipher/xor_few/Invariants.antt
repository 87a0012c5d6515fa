use Rattle.std.proofs.Common.{◌≡◌, ◌++◌, take, drop}
use Rattle.qc_toy.specs.Cipher.{xored}
use Rattle.qc_toy.proofs.cipher.xor_few.Given as goal

abbrev pub invariant-loop-i : goal.invariant-loop-i
invariant-loop-i l = l.bytes ≡ xored l.key 0 (take l.i l.fn.bytes) ++ drop l.i l.fn.bytes
