use Rattle.std.proofs.Common.{◌≡◌, ◌%◌, refl, take, arith}
use Rattle.qc_toy.specs.Cipher.{xored}
use Rattle.qc_toy.proofs.CipherLemmas.{xored_step}
use Rattle.qc_toy.proofs.cipher.xor_block.Goals as goal

pub loop-i-preserved : goal.loop-i-preserved
loop-i-preserved c =
    let small : c.loop-i.i % 16 ≡ c.loop-i.i = omega arith in
    let step = xored_step c.args.key.now c.args.bytes.now (xored c.args.key.now 0 (take c.loop-i.i c.args.bytes.now)) c.loop-i.i (omega arith) refl in
    rw (c.loop-i.invariant) (rw small at step)
