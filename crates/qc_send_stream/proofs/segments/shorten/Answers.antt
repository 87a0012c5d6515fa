use Rattle.std.proofs.Common.{◌∙◌, ℕ, List, ap, sym}
use Rattle.std.specs.Map.{set_value}
use Rattle.std.specs.BTreeMap.{is_at}
use Rattle.std.specs.Ordering.{nat_cmp}
use Rattle.qc_send_stream.specs.declared.segments.Segment.{Segment}
use Rattle.qc_send_stream.specs.Segments.{without_front}
use Rattle.qc_send_stream.proofs.Cutting.{set_changed, none_changed, held}
use Rattle.qc_send_stream.proofs.segments.shorten.Goals as goal

pub advance-requires : goal.advance-requires
advance-requires c = held c.args.count c.args.end c.in-Some.segment.now c.args.segments.now.entries c.in-Some.ensures.value c.requires

pub returns-in-Some : goal.returns-in-Some
unfolding without_front
returns-in-Some c =
    (c.get_mut.follows.holds (record { bytes = c.advance.new.self; lost = c.in-Some.segment.now.lost })).0
    ∙ ap (λ (p : List ℕ). (let s : Segment = record { bytes = p; lost = c.in-Some.segment.now.lost } in set_value (is_at (nat_cmp c.args.end)) c.args.segments.now.entries s)) c.advance.ensures
    ∙ set_changed c.args.end (without_front c.args.count) c.in-Some.segment.now c.args.segments.now.entries c.in-Some.ensures.value

pub returns-in_default : goal.returns-in_default
returns-in_default c =
    rw c.get_mut.follows.holds-at-none (sym (none_changed c.args.end (without_front c.args.count) c.args.segments.now.entries c.in_default.ensures.value))
