use Rattle.std.proofs.Common.{ℕ, ◌+◌, ◌%◌, get_or}
use Rattle.qc_toy.proofs.CipherLemmas.{tabulated_step, export_sum}
use Rattle.qc_toy.proofs.export.put_exported.Goals as goal

pub loop-i-preserved : goal.loop-i-preserved
loop-i-preserved c =
    let f = λ (i : ℕ). (get_or c.args.secret.now (i % 5) 0 + c.args.shift + i) % 256 in
    rw (c.loop-i.invariant, export_sum) (tabulated_step f c.args.output.now c.loop-i.i c.loop-i-test.true)
