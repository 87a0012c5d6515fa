use Rattle.std.proofs.Common.{◌≡◌, ◌∙◌, ap, sym, ℕ, ◌-◌, ◌<◌, List, length, arith, length-drop}
use Rattle.qc_datagrams.specs.Queue.{with_room}
use Rattle.qc_datagrams.proofs.Room.{room_there, room_missing, room_missing_some}
use Rattle.qc_datagrams.proofs.queue.make_room.Goals as goal

pub loop-items-smaller : goal.loop-items-smaller
loop-items-smaller c =
    let some : 0 < length c.loop-items.items.items = room_missing_some c.args.limit c.args.datagram.now c.loop-items.items.items (sym c.loop-items-test.ensures.room) in
    let shorter : length c.drop_oldest.new.items.items ≡ length c.loop-items.items.items - 1 = ap length c.drop_oldest.ensures.rest ∙ length-drop 1 c.loop-items.items.items in
    omega arith

pub loop-items-preserved : goal.loop-items-preserved
loop-items-preserved c = record {
  room =
      ap (λ (l : List (List ℕ)). with_room c.args.limit c.args.datagram.now l) c.drop_oldest.ensures.rest
      ∙ room_missing c.args.limit c.args.datagram.now c.loop-items.items.items (sym c.loop-items-test.ensures.room) ∙ c.loop-items.invariant.room;
  bytes = c.drop_oldest.ensures.bytes;
  capacity = c.drop_oldest.ensures.capacity ∙ c.loop-items.invariant.capacity;
  len = omega arith;
}

pub returns-clause-room : goal.returns-clause-room
returns-clause-room c =
    sym (room_there c.args.limit c.args.datagram.now c.loop-items.items.items (sym c.loop-items-test.ensures.room)) ∙ c.loop-items.invariant.room
