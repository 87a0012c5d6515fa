use Rattle.std.proofs.Common.{◌+◌, arith, ap}
use Rattle.qc_assembler.proofs.FrontPart.{alone_fits, moved_in}
use Rattle.qc_assembler.proofs.waiting.move_in.Goals as goal

pub overflow_add-end : goal.overflow_add-end
overflow_add-end c =
    let fits = alone_fits c.args.read c.args.front.now c.args.parts.now.entries c.requires.some c.requires.alone in
    omega (arith, fits, c.len.ensures)

pub returns-clause-moved : goal.returns-clause-moved
returns-clause-moved c =
    moved_in c.args.read (c.args.read + c.len.result) c.args.front.now c.in_ok-whole.whole c.args.parts.now.entries c.keep.new.parts.entries c.requires.some c.requires.alone
    (ap (λ n. c.args.read + n) c.len.ensures) c.in_ok-whole.ensures c.in_ok-keep.ensures.kept
