use Rattle.std.proofs.Common.{◌≡◌, map, drop}
use Rattle.qc_state.specs.StreamFrames.{meta_lost}
use Rattle.qc_streams.specs.Waits.{after}
use Rattle.qc_state.proofs.stream_settling.metas_lost.Given as goal

-- the frames that are left lead to where all do
abbrev pub invariant-loop-meta : goal.invariant-loop-meta
invariant-loop-meta l = after (map meta_lost (drop l.meta-index l.metas)) l.streams ≡ after (map meta_lost l.metas) l.fn.streams
