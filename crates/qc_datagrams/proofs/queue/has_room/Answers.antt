use Rattle.std.proofs.Common.{◌≡◌, sym, ◌<◌, length, arith}
use Rattle.std.proofs.lemmas.Bool.{eqb-true, eqb-false}
use Rattle.std.proofs.lemmas.Grind.{common_steps}
use Rattle.std.specs.VecDeque.{deque_len}
use Rattle.qc_datagrams.proofs.Room.{total_none, fits_with, fits_without}
use Rattle.qc_datagrams.proofs.queue.has_room.Goals as goal

pub returns-then-is_empty-clause-small : goal.returns-then-is_empty-clause-small
returns-then-is_empty-clause-small c =
    λ _.
    let z : deque_len c.args.items.now ≡ 0 = eqb-true (deque_len c.args.items.now) 0 (sym c.if-is_empty.ensures) in
    let none : length c.args.items.now.items ≡ 0 = grind (arith, common_steps, z) in
    omega (arith, total_none c.args.items.now.items none, c.weight-weight.ensures.value)

pub returns-then-weight-limit-clause-room : goal.returns-then-weight-limit-clause-room
returns-then-weight-limit-clause-room c =
    let z = eqb-false (deque_len c.args.items.now) 0 (sym c.if-is_empty.ensures) in
    let some : 0 < length c.args.items.now.items = grind (arith, common_steps, z) in
    fits_with c.args.limit c.args.bytes c.weight-weight.result c.args.datagram.now c.args.items.now.items some c.requires c.weight-weight.ensures.value (omega arith)

pub returns-else-weight-limit-clause-room : goal.returns-else-weight-limit-clause-room
returns-else-weight-limit-clause-room c =
    let z = eqb-false (deque_len c.args.items.now) 0 (sym c.if-is_empty.ensures) in
    let some : 0 < length c.args.items.now.items = grind (arith, common_steps, z) in
    fits_without c.args.limit c.weight-weight.result c.args.datagram.now c.args.items.now.items some c.weight-weight.ensures.value (omega arith)
