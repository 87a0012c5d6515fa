use Rattle.std.proofs.Common.{◌≢◌, ℕ, ◌<◌, slice_index}
use Rattle.qc_ids.specs.LocalCids.{sequences}
use Rattle.qc_cids.proofs.issued_list.place_of.Given as goal

abbrev pub invariant-loop-place : goal.invariant-loop-place
invariant-loop-place l = (k : ℕ) → k < l.place → slice_index (sequences l.cids) k ≢ l.sequence
