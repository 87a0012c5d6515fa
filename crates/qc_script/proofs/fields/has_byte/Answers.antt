use Rattle.std.proofs.Common.{◌≡◌, false, Bool, true, refl, get_or, nat_eq, ℕ, List, ◌+◌, ◌<◌, length, take, arith}
use mathlib.Core.Bool.{◌||◌}
use Rattle.std.proofs.lemmas.Bool.{eqb-false, eqb-true}
use Rattle.std.specs.Bool.{MatchBool}
use Rattle.qc_script.specs.Fields.{Lacks}
use Rattle.qc_script.proofs.NumberLemmas.{lacks_more, lacks_less}
use Rattle.qc_script.proofs.fields.has_byte.Goals as goal

-- one byte more is looked at
step : (b i : ℕ) (xs : List ℕ) (found here : Bool) → i < length xs → nat_eq (get_or xs i 0) b ≡ here → MatchBool found (Lacks b (take i xs) → ⊥) (Lacks b (take i xs))
    → MatchBool (found || here) (Lacks b (take (i + 1) xs) → ⊥) (Lacks b (take (i + 1) xs))
step b i xs true here inside is has = λ lacks. has (lacks_less b i xs inside lacks).1
step b i xs false true inside is front = λ lacks. (lacks_less b i xs inside lacks).0 (eqb-true (get_or xs i 0) b is)
step b i xs false false inside is front = lacks_more b i xs inside (eqb-false (get_or xs i 0) b is) front

pub loop-b-preserved : goal.loop-b-preserved
loop-b-preserved c = step c.args.byte c.loop-b.b-index c.args.chunk.now c.loop-b.found _ (omega arith) refl c.loop-b.invariant
