use Rattle.std.proofs.Common.{◌∙◌, arith}
use Rattle.qc_assembler.proofs.FrontPart.{left_none, left_some, left_whole}
use Rattle.qc_assembler.proofs.waiting.take_waiting.Goals as goal

pub returns-in_default-clause-left : goal.returns-in_default-clause-left
returns-in_default-clause-left c = left_none c.args.most c.args.front.now c.in_default.is

pub returns-then-most-len-clause-left : goal.returns-then-most-len-clause-left
returns-then-most-len-clause-left c =
    left_some c.args.most c.args.front.now c.in-Some.part c.split_to.new.self c.in-Some.is (omega arith) c.in_ok-split_to.ensures.rest

pub returns-clause-left : goal.returns-clause-left
returns-clause-left c =
    c.take.ensures.after ∙ left_whole c.args.most c.args.front.now c.in-Some.part c.in-Some.is (omega arith)
