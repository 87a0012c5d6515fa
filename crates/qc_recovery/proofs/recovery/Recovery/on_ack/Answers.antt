use Rattle.std.proofs.Common.{◌∙◌}
use Rattle.qc_recovery.proofs.AckedRanges.{up_to_largest}
use Rattle.qc_recovery.proofs.recovery.Recovery.on_ack.Goals as goal

pub on_ranges-requires-clause-largest : goal.on_ranges-requires-clause-largest
on_ranges-requires-clause-largest g c =
    let is = c.as_slice.ensures.value ∙ c.in_ok-ranges.ensures in
    rw (c.values-values.ensures, is) (up_to_largest _ _ (c.ranges_lie_apart.ensures.within _ c.requires))
