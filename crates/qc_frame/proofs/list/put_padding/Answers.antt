use Rattle.std.proofs.Common.{arith}
use Rattle.std.proofs.lemmas.Grind.{common_steps}
use Rattle.qc_frame.proofs.Padded.{filled_up}
use Rattle.qc_frame.proofs.list.put_padding.Goals as goal

pub returns-clause-ok : goal.returns-clause-ok
returns-clause-ok c = grind (arith, common_steps, filled_up c.args.out.now.items c.len-len.result c.args.padding)
