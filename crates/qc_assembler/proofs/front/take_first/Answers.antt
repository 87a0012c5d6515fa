use Rattle.std.proofs.Common.{◌≡◌, ◌∙◌, ℕ, List, [], ◌∷◌, ◌<◌, length, arith, sym, ap, Some}
use Rattle.std.proofs.lemmas.Bool.{false≢true}
use Rattle.qc_assembler.specs.Parts.{first_part, starts_at, one}
use Rattle.qc_assembler.proofs.Placing.{same_place}
use Rattle.qc_assembler.proofs.FirstPart.{kept_left, left_whole, whole_bytes, whole_behind}
use Rattle.qc_assembler.proofs.front.take_first.Goals as goal

some_there : (end held : ℕ) (es : List (ℕ × List ℕ)) → first_part es ≡ Some (end, held) → 0 < length es
unfolding first_part
some_there end held [] first = absurd (let no : ⊥ = cc in no)
some_there end held (x ∷ xs) first = omega arith

-- what was taken ended there
taken_at : (end held k : ℕ) (p : List ℕ) (es left : List (ℕ × List ℕ)) → first_part es ≡ Some (end, held) → es ≡ (k, p) ∷ left → k ≡ end
unfolding first_part
taken_at end held k p es left first split = (same_place k (length p) end held (ap first_part (sym split) ∙ first)).0

at_end : (end held k : ℕ) (p : List ℕ) (es left : List (ℕ × List ℕ)) → first_part es ≡ Some (end, held) → es ≡ (k, p) ∷ left → es ≡ (end, p) ∷ left
at_end end held k p es left first split =
    split ∙ ap (λ (i : ℕ). (let r : List (ℕ × List ℕ) = (i, p) ∷ left in r)) (taken_at end held k p es left first split)

pub unreachable-requires : goal.unreachable-requires
unreachable-requires c =
    false≢true (c.in_default.ensures.variant.1 (some_there c.args.end c.args.held c.args.parts.now.entries c.requires.first))

pub starts_at-requires : goal.starts_at-requires
starts_at-requires c =
    (kept_left c.args.end c.args.joined.now c.in-Some.part c.args.parts.now.entries c.pop_first.new.self.entries
    (at_end c.args.end c.args.held c.in-Some.field-0-0 c.in-Some.part c.args.parts.now.entries c.pop_first.new.self.entries c.requires.first c.in-Some.ensures.removal) c.requires.kept).0

pub overflow_sub-joined : goal.overflow_sub-joined
overflow_sub-joined c =
    let left = kept_left c.args.end c.args.joined.now c.in-Some.part c.args.parts.now.entries c.pop_first.new.self.entries
    (at_end c.args.end c.args.held c.in-Some.field-0-0 c.in-Some.part c.args.parts.now.entries c.pop_first.new.self.entries c.requires.first c.in-Some.ensures.removal) c.requires.kept in
    let now : c.one.result ≡ one (starts_at c.args.end c.pop_first.new.self.entries) = c.one.ensures.value ∙ ap one c.starts_at.ensures in
    omega (arith, left.1, now)

pub returns-clause-front : goal.returns-clause-front
returns-clause-front c =
    whole_bytes c.args.end c.args.held c.in-Some.part c.args.parts.now.entries c.pop_first.new.self.entries
    (at_end c.args.end c.args.held c.in-Some.field-0-0 c.in-Some.part c.args.parts.now.entries c.pop_first.new.self.entries c.requires.first c.in-Some.ensures.removal) c.requires.first

pub returns-clause-left : goal.returns-clause-left
returns-clause-left c =
    left_whole c.args.end c.args.held c.in-Some.part c.args.parts.now.entries c.pop_first.new.self.entries
    (at_end c.args.end c.args.held c.in-Some.field-0-0 c.in-Some.part c.args.parts.now.entries c.pop_first.new.self.entries c.requires.first c.in-Some.ensures.removal) c.requires.first

pub returns-clause-kept : goal.returns-clause-kept
returns-clause-kept c =
    let left = kept_left c.args.end c.args.joined.now c.in-Some.part c.args.parts.now.entries c.pop_first.new.self.entries
    (at_end c.args.end c.args.held c.in-Some.field-0-0 c.in-Some.part c.args.parts.now.entries c.pop_first.new.self.entries c.requires.first c.in-Some.ensures.removal) c.requires.kept in
    let now : c.one.result ≡ one (starts_at c.args.end c.pop_first.new.self.entries) = c.one.ensures.value ∙ ap one c.starts_at.ensures in
    record { apart = left.0; count = omega (arith, left.1, now) }

pub returns-clause-behind : goal.returns-clause-behind
returns-clause-behind c =
    whole_behind c.args.end c.args.joined.now c.in-Some.part c.args.parts.now.entries c.pop_first.new.self.entries
    (at_end c.args.end c.args.held c.in-Some.field-0-0 c.in-Some.part c.args.parts.now.entries c.pop_first.new.self.entries c.requires.first c.in-Some.ensures.removal) c.requires.kept
