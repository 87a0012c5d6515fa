use Rattle.std.proofs.Common.{◌≡◌, ℕ, List, [], ◌∷◌, length, sym, ◌-◌, Some, None, refl}
use Rattle.std.specs.Prelude.{◌==◌, false}
use Rattle.qc_assembler.specs.Parts.{first_part, starts_at}
use Rattle.qc_assembler.proofs.Placing.{same_place}
use Rattle.qc_assembler.proofs.FirstPart.{first_bounds}
use Rattle.qc_assembler.proofs.front.starts_at.Goals as goal

pub overflow_sub-result : goal.overflow_sub-result
overflow_sub-result c = (first_bounds 0 c.in-Some.end c.in-Some.held c.args.parts.now.entries c.requires (sym c.in-Some.ensures.value)).0

begins : (end held o : ℕ) (es : List (ℕ × List ℕ)) → first_part es ≡ Some (end, held) → (end - held == o) ≡ starts_at o es
unfolding first_part starts_at
begins end held o [] first = absurd (let no : ⊥ = cc in no)
begins end held o (x ∷ xs) first = let same = same_place x.0 (length x.1) end held first in rw (same.0, same.1) refl

begins_not : (o : ℕ) (es : List (ℕ × List ℕ)) → first_part es ≡ None → false ≡ starts_at o es
unfolding first_part starts_at
begins_not o [] first = refl
begins_not o (x ∷ xs) first = absurd (let no : ⊥ = cc in no)

pub returns-in-Some : goal.returns-in-Some
returns-in-Some c = begins c.in-Some.end c.in-Some.held c.args.offset c.args.parts.now.entries (sym c.in-Some.ensures.value)

pub returns-in-None : goal.returns-in-None
returns-in-None c = begins_not c.args.offset c.args.parts.now.entries (sym c.in-None.ensures.value)
