use Rattle.std.proofs.Common.{◌-◌, ◌∙◌, length, refl}
use Rattle.qc_frame.proofs.RangesUp.{set_ack}
use Rattle.qc_frame.proofs.ack_ranges.ack_of.Goals as goal

pub returns-clause-says : goal.returns-clause-says
returns-clause-says c =
    set_ack c.args.ranges.now (length c.args.ranges.now - 1) c.new-additional.result.items c.in_ok-additional.additional
    c.requires.normal c.requires.some c.requires.small refl c.new-additional.ensures.items (c.in_ok-additional.ensures.ok ∙ c.in_ok-put_ranges.ensures)
