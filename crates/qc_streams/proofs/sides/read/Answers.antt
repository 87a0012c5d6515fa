use Rattle.std.proofs.Common.{}
use Rattle.qc_streams.proofs.Reading.{read_given, read_failed}
use Rattle.qc_streams.proofs.sides.read.Goals as goal

pub returns-in-Ok-clause-answer : goal.returns-in-Ok-clause-answer
returns-in-Ok-clause-answer c =
    read_given c.args.most c.args.ordered c.args.receiving.now c.open.new.self c.next.new.self c.in-Ok.chunk c.in_default.ensures.fits
    c.in_default.ensures.ok c.in-Ok.ensures

pub returns-in-Err-next-clause-answer : goal.returns-in-Err-next-clause-answer
returns-in-Err-next-clause-answer c =
    rw c.read_fault.ensures
    (read_failed c.args.most c.args.ordered c.args.receiving.now c.open.new.self c.next.new.self c.in-Err-next.error c.in_default.ensures.fits
    c.in_default.ensures.ok c.in-Err-next.ensures)
