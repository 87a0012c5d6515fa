use Rattle.std.proofs.Common.{◌≡◌}
use Rattle.std.specs.Prelude.{◌&&◌, nat_le}
use Rattle.std.specs.List.{list_any}
use Rattle.qc_base.specs.declared.range_set.NumberRange.{NumberRange}
use Rattle.qc_frame.specs.AckRanges.{ranges_of}
use Rattle.qc_frame.specs.Frame.{ack_map}
use Rattle.qc_admit.proofs.stops.acknowledges.Given as goal

-- the ranges that are left decide
abbrev pub invariant-loop-range : goal.invariant-loop-range
invariant-loop-range l =
    list_any (λ (range : NumberRange). nat_le range.first l.number && nat_le l.number range.last) l.range-iterator
    ≡ list_any (λ (range : NumberRange). nat_le range.first l.number && nat_le l.number range.last) (ranges_of (ack_map (λ bytes. bytes.now) l.ack))
