use Rattle.std.proofs.Common.{◌≡◌, ◌∙◌, ℕ, List, ◌+◌, drop, arith, sym, ap, subst, refl}
use Rattle.qc_assembler.specs.Parts.{flat, Apart, first_begin}
use Rattle.qc_assembler.proofs.FirstPart.{first_bounds, front_length, left_front, kept_cut, cut_behind, first_sizes, no_first}
use Rattle.qc_assembler.proofs.front.discard_front.Goals as goal

pub returns-in_default-clause-left : goal.returns-in_default-clause-left
unfolding flat
returns-in_default-clause-left c =
    let none = no_first c.args.parts.now.entries (sym c.first_part.ensures.value ∙ c.in_default.is) in
    let n : c.args.count ≡ 0 = omega arith in
    rw (n, none.0) refl

pub returns-in_default-clause-behind : goal.returns-in_default-clause-behind
unfolding Apart
returns-in_default-clause-behind c =
    let none = no_first c.args.parts.now.entries (sym c.first_part.ensures.value ∙ c.in_default.is) in
    subst (λ (l : List (ℕ × List ℕ)). Apart (first_begin c.args.parts.now.entries + c.args.count) l) (sym none.0) tt

pub advance_first-requires-clause-within : goal.advance_first-requires-clause-within
advance_first-requires-clause-within c = omega (arith, first_sizes c.in-Some.end c.in-Some.held c.args.parts.now.entries (sym c.in-Some.ensures.value))

pub returns-then-count-held-clause-behind : goal.returns-then-count-held-clause-behind
returns-then-count-held-clause-behind c =
    let sizes = first_sizes c.in-Some.end c.in-Some.held c.args.parts.now.entries (sym c.in-Some.ensures.value) in
    let bounds = first_bounds 0 c.in-Some.end c.in-Some.held c.args.parts.now.entries c.requires.kept.apart (sym c.in-Some.ensures.value) in
    let e : c.in-Some.end ≡ first_begin c.args.parts.now.entries + c.args.count = omega arith in
    subst (λ (i : ℕ). Apart i c.take_first.new.parts.entries) e c.take_first.ensures.behind

pub returns-else-count-held-clause-left : goal.returns-else-count-held-clause-left
returns-else-count-held-clause-left c =
    let sizes = first_sizes c.in-Some.end c.in-Some.held c.args.parts.now.entries (sym c.in-Some.ensures.value) in
    rw c.advance_first.ensures
    (left_front c.args.count c.in-Some.end c.in-Some.held c.args.parts.now.entries c.requires.kept.apart (sym c.in-Some.ensures.value) (omega arith)
    ∙ ap (λ (i : ℕ). drop i (flat c.args.parts.now.entries)) (front_length c.args.count c.in-Some.end c.in-Some.held c.args.parts.now.entries (sym c.in-Some.ensures.value) (omega arith)))

pub returns-else-count-held-clause-behind : goal.returns-else-count-held-clause-behind
returns-else-count-held-clause-behind c =
    let sizes = first_sizes c.in-Some.end c.in-Some.held c.args.parts.now.entries (sym c.in-Some.ensures.value) in
    rw (c.advance_first.ensures, sizes.0)
    (cut_behind c.args.count c.in-Some.end c.in-Some.held c.args.parts.now.entries (sym c.in-Some.ensures.value) (omega arith) c.requires.kept.apart)

pub returns-else-count-held-clause-kept : goal.returns-else-count-held-clause-kept
returns-else-count-held-clause-kept c =
    let sizes = first_sizes c.in-Some.end c.in-Some.held c.args.parts.now.entries (sym c.in-Some.ensures.value) in
    rw c.advance_first.ensures (kept_cut c.args.count c.in-Some.end c.in-Some.held c.args.joined.now c.args.parts.now.entries (sym c.in-Some.ensures.value) (omega arith) c.requires.kept)
