-- The bytes that all streams keep, where one stream changes, comes or leaves
use Rattle.std.proofs.Common.{◌≡◌, ◌∙◌, ℕ, ◌+◌, ◌-◌, ◌≤◌, Option, None, Some, ap, sym, arith, refl}
use Rattle.std.specs.BTreeMap.{is_at}
use Rattle.std.specs.List.Sorted.{IsStrictlySortedBy}
use Rattle.std.specs.Map.{keys_of}
use Rattle.std.specs.Option.{option_map, unwrap_or}
use Rattle.std.specs.Ordering.{nat_cmp}
use Rattle.std.proofs.lemmas.Cmp.{nat_cmp_total}
use Rattle.std.proofs.lemmas.Map.Entries.{sum_by-set_value, sum_by-insert_entry, sum_by-remove_entry}
use Rattle.qc_streams.specs.declared.stream.Stream.{Stream}
use Rattle.qc_streams.specs.Kept.{kept_of, kept_at, kept_in}
use Rattle.qc_streams.specs.Lending.{AllRecords}
use Rattle.qc_streams.specs.Records.{record_of, with_record, with_new, without}

at_is : (found : Option Stream) → unwrap_or (option_map kept_of found) 0 ≡ kept_at found
at_is None = refl
at_is (Some st) = refl

changed_sum : (id : ℕ) (all : AllRecords) (st st' : Stream) → record_of id all ≡ Some st
    → kept_in (with_record id st' all) + kept_of st ≡ kept_in all + kept_of st'
unfolding kept_in
changed_sum id all st st' is = sum_by-set_value kept_of (is_at (nat_cmp id)) all st st' is

new_sum : (id : ℕ) (all : AllRecords) (st : Stream) → IsStrictlySortedBy nat_cmp (keys_of all)
    → kept_in (with_new id st all) + kept_at (record_of id all) ≡ kept_in all + kept_of st
unfolding kept_in
new_sum id all st sorted =
    ap (λ (n : ℕ). kept_in (with_new id st all) + n) (sym (at_is (record_of id all)))
    ∙ sum_by-insert_entry kept_of nat_cmp_total all id st sorted

without_sum : (id : ℕ) (all : AllRecords) → kept_in (without id all) + kept_at (record_of id all) ≡ kept_in all
unfolding kept_in
without_sum id all =
    ap (λ (n : ℕ). kept_in (without id all) + n) (sym (at_is (record_of id all))) ∙ sum_by-remove_entry kept_of (is_at (nat_cmp id)) all

-- a stream keeps as many as before
pub same : (id k : ℕ) (all all' : AllRecords) (st st' : Stream) → k ≡ kept_in all → record_of id all ≡ Some st → all' ≡ with_record id st' all
    → kept_of st' ≡ kept_of st → k ≡ kept_in all'
same id k all all' st st' is found changed keeps =
    omega (arith, is, keeps, changed_sum id all st st' found, ap (λ (l : AllRecords). kept_in l) changed)

-- a stream keeps more
pub more : (id k n : ℕ) (all all' : AllRecords) (st st' : Stream) → k ≡ kept_in all → record_of id all ≡ Some st → all' ≡ with_record id st' all
    → kept_of st' ≡ kept_of st + n → k + n ≡ kept_in all'
more id k n all all' st st' is found changed keeps =
    omega (arith, is, keeps, changed_sum id all st st' found, ap (λ (l : AllRecords). kept_in l) changed)

-- a stream keeps less
pub less : (id k n : ℕ) (all all' : AllRecords) (st st' : Stream) → k ≡ kept_in all → record_of id all ≡ Some st → all' ≡ with_record id st' all
    → n + kept_of st' ≡ kept_of st → k - n ≡ kept_in all'
less id k n all all' st st' is found changed keeps =
    omega (arith, is, keeps, changed_sum id all st st' found, ap (λ (l : AllRecords). kept_in l) changed)

-- a stream keeps no more than all do
pub at_most : (id : ℕ) (all : AllRecords) (st : Stream) → record_of id all ≡ Some st → kept_of st ≤ kept_in all
at_most id all st found = omega (arith, without_sum id all, ap (λ (o : Option Stream). kept_at o) found)

-- a stream lets go of no more than all keep
pub spared : (id k n : ℕ) (all : AllRecords) (st st' : Stream) → k ≡ kept_in all → record_of id all ≡ Some st → n + kept_of st' ≡ kept_of st → n ≤ k
spared id k n all st st' is found keeps = omega (arith, is, keeps, at_most id all st found)

-- what had an id keeps no more than all do
pub before_at_most : (id n k : ℕ) (all : AllRecords) (found : Option Stream) → k ≡ kept_in all → found ≡ record_of id all → n ≡ kept_at found → n ≤ k
before_at_most id n k all found is had keeps =
    omega (arith, is, keeps, without_sum id all, ap (λ (o : Option Stream). kept_at o) had)

-- a stream comes that keeps nothing
pub added : (id k n : ℕ) (all all' : AllRecords) (st : Stream) (found : Option Stream) → k ≡ kept_in all → found ≡ record_of id all
    → n ≡ kept_at found → IsStrictlySortedBy nat_cmp (keys_of all) → all' ≡ with_new id st all → kept_of st ≡ 0 → k - n ≡ kept_in all'
added id k n all all' st found is had keeps sorted new none =
    omega
    (arith, is, keeps, none, ap (λ (o : Option Stream). kept_at o) had, new_sum id all st sorted, ap (λ (l : AllRecords). kept_in l) new)

-- a stream leaves
pub removed : (id k n : ℕ) (all all' : AllRecords) (found : Option Stream) → k ≡ kept_in all → found ≡ record_of id all
    → n ≡ kept_at found → all' ≡ without id all → k - n ≡ kept_in all'
removed id k n all all' found is had keeps gone =
    omega (arith, is, keeps, ap (λ (o : Option Stream). kept_at o) had, without_sum id all, ap (λ (l : AllRecords). kept_in l) gone)
