use Rattle.std.proofs.Common.{arith, replicate}
use Rattle.qc_toy.specs.Cipher.{tag_byte}
use Rattle.qc_toy.proofs.CipherLemmas.{tabulated_step, tag_sum}
use Rattle.qc_toy.proofs.cipher.tag_of.Goals as goal

pub loop-i-preserved : goal.loop-i-preserved
loop-i-preserved c =
    let f = tag_byte c.args.key.now c.args.t c.args.number in
    rw (c.loop-i.invariant, c.bytes_of_number-numbers.ensures, tag_sum) (tabulated_step f (replicate 16 0) c.loop-i.i (omega arith))
