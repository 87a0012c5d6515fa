use Rattle.std.proofs.Common.{◌∙◌, ◌+◌, ◌<◌, ◌≤◌, ap, length, drop, List, arith}
use Rattle.qc_flight.specs.Packets.{Entry, earliest_from, earliest_of, is_below, those}
use Rattle.qc_flight.proofs.Earliest.{earliest_step, earliest_stop, earliest_end}
use Rattle.qc_flight.proofs.flight.Flight.earliest_below.Goals as goal

pub returns-then-limit-entry : goal.returns-then-limit-entry
returns-then-limit-entry c =
    let size = c.self.inside.packets.ok.0 in
    let within : c.loop-place.place < length c.self.inside.packets.items = omega arith in
    let all = λ (es : List Entry). earliest_of (those (is_below c.args.limit) es) in
    earliest_stop _ _ _ _ c.index-entry.result.now c.index-entry.ensures within c.if-limit-entry.true c.self.invariant.order ∙ c.loop-place.invariant.1 ∙ ap all c.self.view_is

pub loop-place-preserved : goal.loop-place-preserved
loop-place-preserved c =
    let size = c.self.inside.packets.ok.0 in
    let within : c.loop-place.place < length c.self.inside.packets.items = omega arith in
    (omega arith, ap (λ x. earliest_from x (those (is_below c.args.limit) (drop (c.loop-place.place + 1) c.self.inside.packets.items))) c.earlier-earliest.ensures ∙ earliest_step _ _ _ _ c.index-entry.result.now c.index-entry.ensures within c.if-limit-entry.false ∙ c.loop-place.invariant.1)

pub returns : goal.returns
returns c =
    let size = c.self.inside.packets.ok.0 in
    let end : length c.self.inside.packets.items ≤ c.loop-place.place = omega arith in
    let all = λ (es : List Entry). earliest_of (those (is_below c.args.limit) es) in
    earliest_end _ _ _ _ end ∙ c.loop-place.invariant.1 ∙ ap all c.self.view_is
