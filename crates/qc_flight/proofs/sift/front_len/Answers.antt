use Rattle.std.proofs.Common.{◌<◌, ◌≤◌, length, arith}
use Rattle.qc_flight.proofs.Sifting.{above_from}
use Rattle.qc_flight.proofs.Fronts.{front_step, front_end, front_stop}
use Rattle.qc_flight.proofs.sift.front_len.Goals as goal

pub returns-then-limit-entry-clause-above : goal.returns-then-limit-entry-clause-above
returns-then-limit-entry-clause-above c =
    let size = c.args.row.now.ok.0 in
    above_from _ _ _ c.index-entry.result.now c.index-entry.ensures c.if-limit-entry.true (omega arith)

pub returns-then-limit-entry-clause-value : goal.returns-then-limit-entry-clause-value
returns-then-limit-entry-clause-value c =
    let size = c.args.row.now.ok.0 in
    let within : c.loop-count.count < length c.args.row.now.items = omega arith in
    front_stop _ _ _ c.index-entry.result.now c.index-entry.ensures within c.if-limit-entry.true c.loop-count.invariant.1

pub loop-count-preserved : goal.loop-count-preserved
loop-count-preserved c =
    let size = c.args.row.now.ok.0 in
    let within : c.loop-count.count < length c.args.row.now.items = omega arith in
    (omega arith, front_step _ _ _ c.index-entry.result.now c.index-entry.ensures within c.if-limit-entry.false c.loop-count.invariant.1)

pub returns-clause-value : goal.returns-clause-value
returns-clause-value c =
    let size = c.args.row.now.ok.0 in
    let end : length c.args.row.now.items ≤ c.loop-count.count = omega arith in
    front_end _ _ _ end c.loop-count.invariant.1
