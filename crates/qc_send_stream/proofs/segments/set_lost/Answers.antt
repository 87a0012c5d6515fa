use Rattle.std.proofs.Common.{◌∙◌, sym}
use Rattle.qc_send_stream.specs.Segments.{with_lost}
use Rattle.qc_send_stream.proofs.Cutting.{set_changed, none_changed}
use Rattle.qc_send_stream.proofs.segments.set_lost.Goals as goal

pub returns-in-Some : goal.returns-in-Some
unfolding with_lost
returns-in-Some c =
    (c.get_mut.follows.holds (with_lost c.args.lost c.in-Some.segment.now)).0
    ∙ set_changed c.args.end (with_lost c.args.lost) c.in-Some.segment.now c.args.segments.now.entries c.in-Some.ensures.value

pub returns-in_default : goal.returns-in_default
returns-in_default c =
    rw c.get_mut.follows.holds-at-none (sym (none_changed c.args.end (with_lost c.args.lost) c.args.segments.now.entries c.in_default.ensures.value))
