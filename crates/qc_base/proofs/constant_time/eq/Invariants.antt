use Rattle.std.proofs.Common.{◌≡◌, ℕ, ◌<◌, slice_index}
use Rattle.qc_base.proofs.constant_time.eq.Given as goal

abbrev pub invariant-loop-i : goal.invariant-loop-i
invariant-loop-i l = record {
  agree : l.different ≡ 0 → (k : ℕ) → k < l.i → slice_index l.a k ≡ slice_index l.b k;
  same : l.a ≡ l.b → l.different ≡ 0;
}
