use Rattle.std.proofs.Common.{◌≡◌, ◌+◌, ◌%◌, drop}
use Rattle.qc_toy.specs.Cipher.{weight}
use Rattle.qc_toy.proofs.cipher.weigh.Given as goal

abbrev pub invariant-loop-b : goal.invariant-loop-b
invariant-loop-b l = record {
  place : l.place % 256 ≡ (l.start + l.b-index) % 256;
  sum : (l.sum + weight (l.start + l.b-index) (drop l.b-index l.bytes)) % 256 ≡ weight l.start l.bytes % 256;
}
