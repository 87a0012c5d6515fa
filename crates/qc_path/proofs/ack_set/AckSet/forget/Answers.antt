use Rattle.std.proofs.Common.{ap, ◌∙◌, ℕ, List}
use Rattle.qc_base.specs.declared.range_set.NumberRange.{NumberRange}
use Rattle.qc_base.specs.Time.{plus}
use Rattle.qc_path.specs.AckRanges.{from_number}
use Rattle.qc_path.proofs.RangesWith.{keeps_is}
use Rattle.qc_path.proofs.ack_set.AckSet.forget.Goals as goal

pub returns : goal.returns
returns c =
    keeps_is _ _ _ c.self.invariant c.subtract_below.ensures
    ∙ ap (λ (n : ℕ). from_number n c.self.inside.ranges) c.after-first.ensures
    ∙ ap (λ (x : List NumberRange). from_number (plus c.args.largest 1) x) c.self.view_is
