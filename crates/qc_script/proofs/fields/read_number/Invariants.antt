use Rattle.std.proofs.Common.{◌≡◌, ℕ, ◌<◌, ◌^◌, drop, get_or}
use Rattle.std.specs.Int.{IsInRange}
use Rattle.qc_script.proofs.NumberLemmas.{read_on}
use Rattle.qc_script.proofs.fields.read_number.Given as goal

abbrev pub invariant-loop-byte : goal.invariant-loop-byte
invariant-loop-byte l = record {
  so_far : read_on l.number (drop l.byte-index l.digits) ≡ read_on 0 l.digits;
  small : l.number < 2 ^ 64;
  digits : (k : ℕ) → k < l.byte-index → IsInRange 48 57 (get_or l.digits k 0);
}
