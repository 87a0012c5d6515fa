use Rattle.std.proofs.Common.{◌≡◌, ◌++◌, length, map, take, drop}
use Rattle.qc_frame.specs.Frame.{owned}
use Rattle.qc_frame.specs.FrameSpelling.{frames_spelling}
use Rattle.qc_frame.proofs.list.put_each.Given as goal

abbrev pub invariant-loop-frame : goal.invariant-loop-frame
invariant-loop-frame l = record {
  written : l.out.items ++ frames_spelling (map owned (drop l.frame-index l.frames)) ≡ l.fn.out.items ++ frames_spelling (map owned l.frames);
  kept : take (length l.fn.out.items) l.out.items ≡ l.fn.out.items;
}
