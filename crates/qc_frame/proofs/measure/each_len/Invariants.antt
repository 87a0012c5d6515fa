use Rattle.std.proofs.Common.{◌≡◌, ◌+◌, ◌≤◌, length, map, min, drop}
use Rattle.qc_frame.specs.Frame.{owned}
use Rattle.qc_frame.specs.FrameSpelling.{frames_spelling}
use Rattle.qc_frame.proofs.measure.each_len.Given as goal

abbrev pub invariant-loop-frame : goal.invariant-loop-frame
invariant-loop-frame l = record {
  measured : min (l.len + length (frames_spelling (map owned (drop l.frame-index l.frames)))) 18446744073709551615
      ≡ min (length (frames_spelling (map owned l.frames))) 18446744073709551615;
  most : l.len ≤ 18446744073709551615;
}
