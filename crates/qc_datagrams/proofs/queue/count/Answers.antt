use Rattle.std.proofs.Common.{◌<◌, ◌≤◌, length, arith}
use Rattle.qc_datagrams.proofs.Room.{total_next, total_past}
use Rattle.qc_datagrams.proofs.queue.count.Goals as goal

pub overflow_add-sum : goal.overflow_add-sum
overflow_add-sum c =
    let size = c.args.items.now.ok.0 in
    let within : c.loop-place.place < length c.args.items.now.items = omega arith in
    let next = total_next c.args.items.now.items c.loop-place.place c.index.result.now c.index.ensures within in
    omega (arith, next, c.weight-sum.ensures.value, c.loop-place.invariant.1, c.requires, c.ranges.most.fits)

pub loop-place-preserved : goal.loop-place-preserved
loop-place-preserved c =
    let size = c.args.items.now.ok.0 in
    let within : c.loop-place.place < length c.args.items.now.items = omega arith in
    let next = total_next c.args.items.now.items c.loop-place.place c.index.result.now c.index.ensures within in
    (omega arith, omega (arith, next, c.weight-sum.ensures.value, c.loop-place.invariant.1))

pub returns : goal.returns
returns c =
    let size = c.args.items.now.ok.0 in
    let all : length c.args.items.now.items ≤ c.loop-place.place = omega arith in
    omega (arith, total_past c.args.items.now.items c.loop-place.place all, c.loop-place.invariant.1)
