use Rattle.std.proofs.Common.{◌≡◌, ◌++◌, map, Ok}
use Rattle.qc_frame.specs.Payload.{items_of, untyped}
use Rattle.qc_frame.proofs.list.FrameList.read_all.Given as goal

abbrev pub invariant-loop-item : goal.invariant-loop-item
invariant-loop-item l = map Ok l.list ++ map untyped (items_of l.item-iterator) ≡ map untyped (items_of l.fn.frames)
