use Rattle.std.proofs.Common.{refl}
use Rattle.std.proofs.Common.{take}
use Rattle.qc_toy.specs.Cipher.{xored}
use Rattle.qc_toy.proofs.CipherLemmas.{xored_step}
use Rattle.qc_toy.proofs.cipher.xor_few.Goals as goal

pub loop-i-preserved : goal.loop-i-preserved
loop-i-preserved c =
    rw (c.loop-i.invariant) (xored_step c.args.key.now c.args.bytes.now (xored c.args.key.now 0 (take c.loop-i.i c.args.bytes.now)) c.loop-i.i c.loop-i-test.true refl)
