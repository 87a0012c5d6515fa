use Rattle.std.proofs.Common.{◌≡◌, ◌++◌, map, drop}
use Rattle.qc_frame.specs.Frame.{owned}
use Rattle.qc_frame.proofs.list.copy_each.Given as goal

abbrev pub invariant-loop-frame : goal.invariant-loop-frame
invariant-loop-frame l = map owned l.copies.items ++ map owned (drop l.frame-index l.frames) ≡ map owned l.fn.copies.items ++ map owned l.frames
