use Rattle.std.proofs.Common.{◌≡◌, ◌≢◌, ℕ, ◌*◌, ◌<◌, ◌≤◌, length, take, get_or, slice_index}
use Rattle.hex.specs.Hex.{encode_lower, lower_digits}
use Rattle.qc_script.proofs.fields.decode.Given as goal

abbrev pub invariant-loop-place : goal.invariant-loop-place
invariant-loop-place l = record {
  spelled : l.greatest < 16 → take (2 * l.place) l.digits ≡ encode_lower (take l.place l.bytes);
  other : 16 ≤ l.greatest → (k : ℕ) × (k < length l.digits) × ((v : ℕ) → v < 16 → slice_index lower_digits v ≢ get_or l.digits k 0);
}
