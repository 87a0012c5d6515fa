use Rattle.std.proofs.Common.{ℕ, get_or, replicate, arith}
use Rattle.std.specs.Prelude.{bit_xor}
use Rattle.qc_toy.proofs.CipherLemmas.{tabulated_step}
use Rattle.qc_toy.proofs.token_keys.bytes_of_token_key.Goals as goal

pub loop-i-preserved : goal.loop-i-preserved
loop-i-preserved c =
    let f = λ (i : ℕ). bit_xor (get_or c.args.master.now i 0) (get_or c.args.nonce.now i 0) in
    rw (c.loop-i.invariant, c.byte_at.ensures) (tabulated_step f (replicate 16 0) c.loop-i.i (omega arith))
