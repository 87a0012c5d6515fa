use Rattle.std.proofs.Common.{◌≡◌, ◌≤◌, ◌++◌, map, take, drop, replicate}
use Rattle.std.specs.List.{All}
use Rattle.qc_frame.specs.Frame.{owned}
use Rattle.qc_frame.specs.declared.frames.FrameOf.TheVariants.{Padding}
use Rattle.qc_text.specs.TraceText.{padded_text}
use Rattle.qc_text.proofs.InRange.{IsOwnedInRange}
use Rattle.qc_text.proofs.frames.put_padded.Given as goal

abbrev pub invariant-loop-frame : goal.invariant-loop-frame
invariant-loop-frame l = record {
  written : l.out.items ++ padded_text l.run (map owned (drop l.frame-index l.frames) ++ replicate l.padding Padding) ≡ l.fn.out.items ++ padded_text 0 (map owned l.frames ++ replicate l.padding Padding);
  short : l.run ≤ l.frame-index;
  in_range : All IsOwnedInRange (take l.frame-index l.frames);
}
