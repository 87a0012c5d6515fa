use Rattle.qc_streams.proofs.Keeping.{added, before_at_most}
use Rattle.qc_streams.proofs.Sending.{comes}
use Rattle.qc_streams.proofs.records.Records.insert.Goals as goal

pub overflow_sub-self : goal.overflow_sub-self
overflow_sub-self c =
    before_at_most c.args.id c.kept_at.result c.self.inside.kept c.self.inside.streams c.in_ok-before.before c.self.invariant.0 c.in_ok-before.ensures.before
    c.kept_at.ensures

pub invariant_of-self-2 : goal.invariant_of-self-2
invariant_of-self-2 c = (
  added c.args.id c.self.inside.kept c.kept_at.result c.self.inside.streams c.insert.new.self c.args.stream c.in_ok-before.before c.self.invariant.0
      c.in_ok-before.ensures.before c.kept_at.ensures c.insert.ensures.ordered c.in_ok-before.ensures.added c.requires,
  comes c.args.id c.self.inside.sending c.recounted-self-inside.result c.sends_at.result c.sends-after.result c.len-count.result c.self.inside.streams
      c.insert.new.self c.args.stream c.in_ok-before.before c.self.invariant.1 c.in_ok-before.ensures.before c.sends_at.ensures c.sends-after.ensures
      c.insert.ensures.ordered c.in_ok-before.ensures.added c.len-count.ensures c.len-count.type_inv c.recounted-self-inside.ensures,
)
