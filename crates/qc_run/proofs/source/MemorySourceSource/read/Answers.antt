use Rattle.std.proofs.Common.{◌≡◌, take, drop, arith}
use Rattle.std.proofs.lemmas.Grind.{common_steps}
use Rattle.qc_run.proofs.OutsideLemmas.{gives_front}
use Rattle.qc_run.proofs.source.MemorySourceSource.read.Goals as goal

pub returns-clause-gives : goal.returns-clause-gives
returns-clause-gives c =
    let copy : c.copy_from_slice.new.self ≡ take c.min-count.result (drop c.args.self.now.given c.args.self.now.bytes.items) = grind (arith, common_steps) in
    gives_front c.args.self.now.bytes.items c.copy_from_slice.new.self (drop c.min-count.result c.args.buf.now) c.args.self.now.given c.min-count.result copy (grind (arith, common_steps))
