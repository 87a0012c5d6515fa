use Rattle.std.proofs.Common.{◌∙◌, ◌+◌, ◌<◌, ◌≤◌, ap, sym, length, drop, arith}
use Rattle.qc_flight.specs.Packets.{counts_minus}
use Rattle.qc_flight.proofs.Sums.{minus_more, minus_none}
use Rattle.qc_flight.proofs.counts.minus.Goals as goal

pub loop-place-preserved : goal.loop-place-preserved
loop-place-preserved c =
    let size = c.args.taken.now.ok.0 in
    let within : c.loop-place.place < length c.args.taken.now.items = omega arith in
    (omega arith, ap (λ x. counts_minus x (drop (c.loop-place.place + 1) c.args.taken.now.items)) c.less-left.ensures ∙ minus_more c.loop-place.left c.args.taken.now.items c.loop-place.place c.index-entry.result.now c.index-entry.ensures within ∙ c.loop-place.invariant.1)

pub returns : goal.returns
returns c =
    let size = c.args.taken.now.ok.0 in
    let all : length c.args.taken.now.items ≤ c.loop-place.place = omega arith in
    sym (minus_none c.loop-place.left c.args.taken.now.items c.loop-place.place all) ∙ c.loop-place.invariant.1
