use Rattle.std.proofs.Common.{ap, ◌∙◌, List}
use Rattle.qc_base.specs.declared.range_set.NumberRange.{NumberRange}
use Rattle.qc_base.specs.RangeSet.{latest}
use Rattle.qc_path.specs.AckRanges.{with_number}
use Rattle.qc_path.proofs.RangesWith.{insertion_is, latest_normal}
use Rattle.qc_path.proofs.ack_set.AckSet.insert.Goals as goal

-- the highest ranges are normal
pub invariant_of-self : goal.invariant_of-self
invariant_of-self c = latest_normal _ _ _ _ c.insert_one.ensures.numbers.1 c.insert_one.ensures.numbers.2

-- and they are those of the old numbers and this one
pub returns : goal.returns
returns c = insertion_is _ _ _ _ c.self.invariant c.insert_one.ensures.numbers.1 c.insert_one.ensures.numbers.2 ∙ ap (λ (x : List NumberRange). latest (with_number c.args.number x)) c.self.view_is
