use Rattle.std.proofs.Common.{◌≡◌, ◌++◌, ◌-◌, ◌≤◌, length, take, drop}
use Rattle.std.specs.List.{concat}
use Rattle.qc_send_stream.specs.Buffer.{bytes_written}
use Rattle.qc_streams.proofs.Fronts.{before, emptied}
use Rattle.qc_streams.proofs.chunks.write_front.Given as goal

-- the chunks below `at` are taken whole
abbrev pub invariant-loop-at : goal.invariant-loop-at
invariant-loop-at l =
    let old = l.fn.chunks in
    record {
      within : l.at ≤ length old;
      count : l.bytes ≡ before l.at old;
      spared : l.bytes ≤ l.most;
      chunks : l.chunks ≡ emptied (take l.at old) ++ drop l.at old;
      written : l.buffer ≡ bytes_written (concat (take l.at old)) l.fn.buffer;
    }

abbrev pub decreases-loop-at : goal.decreases-loop-at
decreases-loop-at l = length l.fn.chunks - l.at
