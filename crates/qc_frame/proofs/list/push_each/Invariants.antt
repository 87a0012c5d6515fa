use Rattle.std.proofs.Common.{◌≡◌, ◌-◌, ◌++◌, length, map, replicate, take}
use Rattle.qc_frame.specs.Frame.{owned}
use Rattle.qc_frame.specs.declared.frames.FrameOf.TheVariants.{Padding}
use Rattle.qc_frame.proofs.list.push_each.Given as goal

abbrev pub invariant-loop-i : goal.invariant-loop-i
invariant-loop-i l = record {
  frames : map owned l.frames.items ++ replicate (l.padding - l.i) Padding ≡ map owned l.fn.frames.items ++ replicate l.padding Padding;
  kept : take (length l.fn.frames.items) l.frames.items ≡ l.fn.frames.items;
}
