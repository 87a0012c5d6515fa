-- A stream that is lent and doesn't change leaves the records as they were
use Rattle.std.proofs.Common.{◌≡◌, ℕ, Bool, true, false, cond, [], ◌∷◌, Option, Some, ap, sym, refl}
use Rattle.std.specs.BTreeMap.{is_at}
use Rattle.std.specs.Map.{lookup, set_value}
use Rattle.std.specs.Option.{unwrap_or}
use Rattle.std.specs.Ordering.{nat_cmp}
use Rattle.qc_streams.specs.declared.stream.Stream.{Stream}
use Rattle.qc_streams.specs.Lending.{AllRecords}
use Rattle.qc_streams.specs.Records.{record_of, with_record}

back_step : (b : Bool) (e : ℕ × Stream) (es rest : AllRecords) (st : Stream) (found : Option Stream)
    → cond b (Some e.1) found ≡ Some st → (found ≡ Some st → rest ≡ es) → cond b ((e.0, st) ∷ es) (e ∷ rest) ≡ e ∷ es
back_step true e es rest st found is back = ap (λ (v : Stream). (e.0, v) ∷ es) (sym (ap (λ (o : Option Stream). unwrap_or o e.1) is))
back_step false e es rest st found is back = ap (λ (l : AllRecords). e ∷ l) (back is)

back_with : (test : ℕ → Bool) (all : AllRecords) (st : Stream) → lookup test all ≡ Some st → set_value test all st ≡ all
back_with test [] st is = refl
back_with test (e ∷ es) st is =
    back_step (test e.0) e es (set_value test es st) st (lookup test es) is (λ found. back_with test es st found)

pub record_back : (id : ℕ) (all : AllRecords) (st st' : Stream) → record_of id all ≡ Some st → st' ≡ st → with_record id st' all ≡ all
record_back id all st st' is same = rw same (back_with (is_at (nat_cmp id)) all st is)
