use Rattle.std.proofs.Common.{◌∙◌, ap, length, reverse}
use Rattle.qc_recovery.proofs.Places.{written_over}
use Rattle.qc_recovery.proofs.ack.turn.Goals as goal

pub returns : goal.returns
returns c =
    let size = c.args.ranges.now.ok in
    written_over c.reverse.new.self c.args.ranges.now.items c.args.ranges.now.len size.0 (c.reverse.ensures.len ∙ ap length c.as_mut_slice.ensures.value)
    ∙ (c.reverse.ensures.after ∙ ap reverse c.as_mut_slice.ensures.value)
