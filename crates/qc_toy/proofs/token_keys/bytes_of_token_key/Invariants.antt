use Rattle.std.proofs.Common.{◌≡◌, ◌++◌, drop, replicate, get_or}
use Rattle.std.specs.Prelude.{bit_xor}
use Rattle.qc_toy.specs.Cipher.{tabulated}
use Rattle.qc_toy.proofs.token_keys.bytes_of_token_key.Given as goal

abbrev pub invariant-loop-i : goal.invariant-loop-i
invariant-loop-i l = l.key ≡ tabulated (λ i. bit_xor (get_or l.master i 0) (get_or l.nonce i 0)) 0 l.i ++ drop l.i (replicate 16 0)
