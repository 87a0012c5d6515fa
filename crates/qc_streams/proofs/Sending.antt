-- How many streams are sent on, where one stream changes, comes or leaves
use Rattle.std.proofs.Common.{◌≡◌, ◌∙◌, ℕ, ◌+◌, ◌-◌, ◌^◌, ◌<◌, ◌≤◌, Option, None, Some, length, ap, sym, subst, arith, refl}
use Rattle.std.specs.BTreeMap.{is_at}
use Rattle.std.specs.List.Sorted.{IsStrictlySortedBy}
use Rattle.std.specs.Map.{keys_of, values_of}
use Rattle.std.specs.Option.{option_map, unwrap_or}
use Rattle.std.specs.Ordering.{nat_cmp}
use Rattle.std.proofs.lemmas.Cmp.{nat_cmp_total}
use Rattle.std.proofs.lemmas.List.{length-map}
use Rattle.std.proofs.lemmas.List.Sums.{count_by-le-length}
use Rattle.std.proofs.lemmas.Map.Entries.{sum_by-set_value, sum_by-insert_entry, sum_by-remove_entry}
use Rattle.qc_streams.specs.declared.stream.Stream.{Stream}
use Rattle.qc_streams.specs.Counts.{saturated}
use Rattle.qc_streams.specs.Lending.{AllRecords}
use Rattle.qc_streams.specs.Records.{record_of, with_record, with_new, without}
use Rattle.qc_streams.specs.Sends.{sends, sends_of, sends_at, sends_in, recounted}

at_is : (found : Option Stream) → unwrap_or (option_map sends_of found) 0 ≡ sends_at found
at_is None = refl
at_is (Some st) = refl

changed_sum : (id : ℕ) (all : AllRecords) (st st' : Stream) → record_of id all ≡ Some st
    → sends_in (with_record id st' all) + sends_of st ≡ sends_in all + sends_of st'
unfolding sends_in
changed_sum id all st st' is = sum_by-set_value sends_of (is_at (nat_cmp id)) all st st' is

new_sum : (id : ℕ) (all : AllRecords) (st : Stream) → IsStrictlySortedBy nat_cmp (keys_of all)
    → sends_in (with_new id st all) + sends_at (record_of id all) ≡ sends_in all + sends_of st
unfolding sends_in
new_sum id all st sorted =
    ap (λ (n : ℕ). sends_in (with_new id st all) + n) (sym (at_is (record_of id all)))
    ∙ sum_by-insert_entry sends_of nat_cmp_total all id st sorted

without_sum : (id : ℕ) (all : AllRecords) → sends_in (without id all) + sends_at (record_of id all) ≡ sends_in all
unfolding sends_in
without_sum id all =
    ap (λ (n : ℕ). sends_in (without id all) + n) (sym (at_is (record_of id all))) ∙ sum_by-remove_entry sends_of (is_at (nat_cmp id)) all

-- no more streams are sent on than there are
bound : (all : AllRecords) → sends_in all ≤ length all
unfolding sends_in
bound all = subst (λ (n : ℕ). sends_in all ≤ n) (length-map all (λ e. e.1)) (count_by-le-length sends (values_of all))

held_is : (n most : ℕ) → n ≤ most → most < 2 ^ 64 → saturated n ≡ n
unfolding saturated
held_is n most within fits = omega (arith, within, fits)

-- a stream counts as before
pub still : (id m : ℕ) (all all' : AllRecords) (st st' : Stream) → m ≡ sends_in all → record_of id all ≡ Some st → all' ≡ with_record id st' all
    → sends_of st' ≡ sends_of st → m ≡ sends_in all'
still id m all all' st st' is found changed counts =
    omega (arith, is, counts, changed_sum id all st st' found, ap (λ (l : AllRecords). sends_in l) changed)

-- a stream counts otherwise, among so many
pub recounts : (id m n before after most : ℕ) (all all' : AllRecords) (st st' : Stream) → m ≡ sends_in all → record_of id all ≡ Some st
    → all' ≡ with_record id st' all → before ≡ sends_of st → after ≡ sends_of st' → most ≡ length all' → most < 2 ^ 64
    → n ≡ recounted m before after → n ≡ sends_in all'
recounts id m n before after most all all' st st' is found changed had has all_are fits counted =
    let now : m - before + after ≡ sends_in all' =
    omega (arith, is, had, has, changed_sum id all st st' found, without_sum id all, ap (λ (o : Option Stream). sends_at o) found, ap (λ (l : AllRecords). sends_in l) changed) in
    counted ∙ held_is (m - before + after) most (omega (arith, now, all_are, bound all')) fits ∙ now

-- a stream comes, among so many
pub comes : (id m n before after most : ℕ) (all all' : AllRecords) (st : Stream) (found : Option Stream) → m ≡ sends_in all → found ≡ record_of id all
    → before ≡ sends_at found → after ≡ sends_of st → IsStrictlySortedBy nat_cmp (keys_of all) → all' ≡ with_new id st all
    → most ≡ length all' → most < 2 ^ 64 → n ≡ recounted m before after → n ≡ sends_in all'
comes id m n before after most all all' st found is had gone counts sorted new all_are fits counted =
    let now : m - before + after ≡ sends_in all' =
    omega (arith, is, gone, counts, ap (λ (o : Option Stream). sends_at o) had, without_sum id all, new_sum id all st sorted, ap (λ (l : AllRecords). sends_in l) new) in
    counted ∙ held_is (m - before + after) most (omega (arith, now, all_are, bound all')) fits ∙ now

-- a stream leaves
pub leaves : (id m n : ℕ) (all all' : AllRecords) (found : Option Stream) → m ≡ sends_in all → found ≡ record_of id all
    → n ≡ sends_at found → all' ≡ without id all → m - n ≡ sends_in all'
leaves id m n all all' found is had counts gone =
    omega (arith, is, counts, ap (λ (o : Option Stream). sends_at o) had, without_sum id all, ap (λ (l : AllRecords). sends_in l) gone)
