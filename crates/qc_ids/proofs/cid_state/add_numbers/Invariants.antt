use Rattle.std.proofs.Common.{◌≡◌, ◌-◌, ◌++◌, take, length}
use Rattle.smallvec.specs.SmallVec.{HasRoomFor}
use Rattle.qc_ids.specs.LocalCids.{sequences}
use Rattle.qc_ids.proofs.cid_state.add_numbers.Given as goal

abbrev pub invariant-loop-id : goal.invariant-loop-id
invariant-loop-id l = record {
  items : l.active.items ≡ l.fn.active.items ++ sequences (take l.id-index l.ids);
  room : HasRoomFor l.active (length l.ids - l.id-index);
}
