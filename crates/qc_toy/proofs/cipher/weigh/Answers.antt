use Rattle.std.proofs.Common.{◌+◌, ◌%◌, ◌∙◌, ap, sym, arith, add_assoc, get_or, drop}
use Rattle.qc_toy.specs.Cipher.{weight}
use Rattle.qc_toy.proofs.CipherLemmas.{weight_more, weigh_step}
use Rattle.qc_toy.proofs.cipher.weigh.Goals as goal

pub loop-b-preserved : goal.loop-b-preserved
loop-b-preserved c =
    let at = c.args.start + c.loop-b.b-index in
    let xs = c.args.bytes.now in
    let b = get_or xs c.loop-b.b-index 0 in
    let rest = weight (at + 1) (drop (c.loop-b.b-index + 1) xs) in
    record {
      place = omega arith;
      sum = rw (← add_assoc c.args.start c.loop-b.b-index 1)
          (weigh_step c.loop-b.sum c.loop-b.place b at rest c.loop-b.invariant.place
          ∙ ap (λ n. (c.loop-b.sum + n) % 256) (sym (weight_more at xs c.loop-b.b-index c.loop-b-test.true)) ∙ c.loop-b.invariant.sum);
    }
