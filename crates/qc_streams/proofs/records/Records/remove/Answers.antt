use Rattle.std.proofs.Common.{◌∙◌}
use Rattle.qc_streams.proofs.Keeping.{before_at_most, removed}
use Rattle.qc_streams.proofs.Sending.{leaves}
use Rattle.qc_streams.proofs.records.Records.remove.Goals as goal

pub overflow_sub-self : goal.overflow_sub-self
overflow_sub-self c =
    before_at_most c.args.id c.kept_at.result c.self.inside.kept c.self.inside.streams c.remove-before.result c.self.invariant.0 c.remove-before.ensures.value
    c.kept_at.ensures

pub invariant_of-self : goal.invariant_of-self
invariant_of-self c = (
  removed c.args.id c.self.inside.kept c.kept_at.result c.self.inside.streams c.remove-before.new.self c.remove-before.result c.self.invariant.0
      c.remove-before.ensures.value c.kept_at.ensures c.remove-before.ensures.removed,
  c.saturating_sub-self-inside.ensures
      ∙ leaves c.args.id c.self.inside.sending c.sends_at.result c.self.inside.streams c.remove-before.new.self c.remove-before.result c.self.invariant.1
      c.remove-before.ensures.value c.sends_at.ensures c.remove-before.ensures.removed,
)
