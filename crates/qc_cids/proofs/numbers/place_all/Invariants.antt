use Rattle.std.proofs.Common.{◌≡◌, ◌+◌, ◌-◌, ◌≤◌, vec_len, vec_capacity}
use Rattle.qc_cids.specs.Cids.{numbers_placed}
use Rattle.qc_ids.specs.Numbers.{numbers_on}
use Rattle.qc_cids.proofs.numbers.place_all.Given as goal

abbrev pub invariant-loop-n : goal.invariant-loop-n
invariant-loop-n l = record {
  room : vec_len l.numbers + (l.end - l.n) ≤ vec_capacity l.numbers;
  placed : numbers_placed (numbers_on l.n (l.end - l.n)) l.numbers.items ≡ numbers_placed (numbers_on l.start (l.end - l.start)) l.fn.numbers.items;
}
