use Rattle.std.proofs.Common.{sym}
use Rattle.qc_streams.proofs.Keeping.{spared}
use Rattle.qc_streams.proofs.records.Records.acknowledge.Goals as goal

pub overflow_sub-self : goal.overflow_sub-self
overflow_sub-self c =
    spared c.args.id c.self.inside.kept c.in_ok-acked-in-Some.acked.count c.self.inside.streams c.in-Some.stream.now c.take_acked.new.self c.self.invariant.0
    (sym c.in-Some.ensures.value) c.in_ok-acked-in-Some.ensures.count
