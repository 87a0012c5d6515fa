use Rattle.std.proofs.Common.{◌∙◌, ◌++◌, ℕ, List, ap}
use Rattle.qc_assembler.proofs.Chained.{all_copied}
use Rattle.qc_assembler.proofs.chain.copied.Goals as goal

pub returns : goal.returns
returns c =
    c.in_ok-all.ensures.ok
    ∙ all_copied c.args.first.now c.new-all.result.items c.extend_from_slice.new.self.items c.put_all.new.out.items c.put_all-2.new.out.items c.as_slices.result.0.now c.as_slices.result.1.now c.args.rest.now.items c.new-all.ensures.items c.as_slices.ensures.items
    (c.in_ok-extend_from_slice.ensures.items ∙ ap (λ (l : List ℕ). c.new-all.result.items ++ l) c.as_slice.ensures) c.in_ok-put_all.ensures c.in_ok-put_all-2.ensures
