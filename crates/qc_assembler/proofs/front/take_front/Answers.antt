use Rattle.std.proofs.Common.{◌≡◌, ℕ, ◌+◌, ◌-◌, ◌∙◌, length, arith, sym, ap, refl, subst}
use Rattle.qc_assembler.specs.Assembly.{chunk_bytes, chunk_offset}
use Rattle.qc_assembler.specs.Parts.{Apart}
use Rattle.qc_assembler.proofs.FirstPart.{cut_behind, first_bounds, front_none, front_some, front_length, left_front, kept_cut}
use Rattle.qc_assembler.proofs.front.take_front.Goals as goal

pub returns-in_default-clause-front : goal.returns-in_default-clause-front
returns-in_default-clause-front c = front_none c.args.most c.args.parts.now.entries (sym c.first_part.ensures.value ∙ c.in_default.is)

pub returns-in_default-clause-left : goal.returns-in_default-clause-left
unfolding chunk_bytes
returns-in_default-clause-left c = refl

pub returns-in_default-clause-fits : goal.returns-in_default-clause-fits
unfolding chunk_bytes chunk_offset
returns-in_default-clause-fits c = omega arith

pub overflow_sub-start : goal.overflow_sub-start
overflow_sub-start c = (first_bounds 0 c.in-Some.end c.in-Some.held c.args.parts.now.entries c.requires.kept.apart (sym c.in-Some.ensures.value)).0

pub returns-then-held-most-clause-front : goal.returns-then-held-most-clause-front
returns-then-held-most-clause-front c =
    let bounds = first_bounds 0 c.in-Some.end c.in-Some.held c.args.parts.now.entries c.requires.kept.apart (sym c.in-Some.ensures.value) in
    rw c.take_first.ensures.front
    (front_some c.args.most c.in-Some.held c.in-Some.end c.in-Some.held c.args.parts.now.entries c.requires.kept.apart (sym c.in-Some.ensures.value) (omega arith) (omega arith) (λ _. bounds.1))

pub returns-then-held-most-clause-left : goal.returns-then-held-most-clause-left
unfolding chunk_bytes
returns-then-held-most-clause-left c =
    rw (c.take_first.ensures.left, c.take_first.ensures.front, front_length c.in-Some.held c.in-Some.end c.in-Some.held c.args.parts.now.entries (sym c.in-Some.ensures.value) (omega arith)) refl

pub returns-then-held-most-clause-fits : goal.returns-then-held-most-clause-fits
unfolding chunk_bytes chunk_offset
returns-then-held-most-clause-fits c =
    let bounds = first_bounds 0 c.in-Some.end c.in-Some.held c.args.parts.now.entries c.requires.kept.apart (sym c.in-Some.ensures.value) in
    let long = ap length c.take_first.ensures.front ∙ front_length c.in-Some.held c.in-Some.end c.in-Some.held c.args.parts.now.entries (sym c.in-Some.ensures.value) (omega arith) in
    omega (arith, c.in-Some.ensures.fits)

pub returns-clause-front : goal.returns-clause-front
returns-clause-front c =
    rw c.in_ok-piece.ensures.front
    (front_some c.args.most c.args.most c.in-Some.end c.in-Some.held c.args.parts.now.entries c.requires.kept.apart (sym c.in-Some.ensures.value) (omega arith) (omega arith) (λ h. h))

pub returns-clause-left : goal.returns-clause-left
unfolding chunk_bytes
returns-clause-left c =
    rw (c.in_ok-piece.ensures.left, c.in_ok-piece.ensures.front)
    (left_front c.args.most c.in-Some.end c.in-Some.held c.args.parts.now.entries c.requires.kept.apart (sym c.in-Some.ensures.value) (omega arith))

pub returns-clause-fits : goal.returns-clause-fits
unfolding chunk_bytes chunk_offset
returns-clause-fits c =
    let bounds = first_bounds 0 c.in-Some.end c.in-Some.held c.args.parts.now.entries c.requires.kept.apart (sym c.in-Some.ensures.value) in
    let long = ap length c.in_ok-piece.ensures.front ∙ front_length c.args.most c.in-Some.end c.in-Some.held c.args.parts.now.entries (sym c.in-Some.ensures.value) (omega arith) in
    omega (arith, c.in-Some.ensures.fits)

pub returns-clause-kept : goal.returns-clause-kept
returns-clause-kept c =
    rw c.in_ok-piece.ensures.left (kept_cut c.args.most c.in-Some.end c.in-Some.held c.args.joined.now c.args.parts.now.entries (sym c.in-Some.ensures.value) (omega arith) c.requires.kept)

pub returns-in_default-clause-behind : goal.returns-in_default-clause-behind
unfolding chunk_bytes chunk_offset
returns-in_default-clause-behind c = c.requires.kept.apart

pub returns-then-held-most-clause-behind : goal.returns-then-held-most-clause-behind
unfolding chunk_bytes chunk_offset
returns-then-held-most-clause-behind c =
    let bounds = first_bounds 0 c.in-Some.end c.in-Some.held c.args.parts.now.entries c.requires.kept.apart (sym c.in-Some.ensures.value) in
    let long = ap length c.take_first.ensures.front ∙ front_length c.in-Some.held c.in-Some.end c.in-Some.held c.args.parts.now.entries (sym c.in-Some.ensures.value) (omega arith) in
    let e : c.in-Some.end ≡ c.in-Some.end - c.in-Some.held + length c.take_first.result = omega arith in
    subst (λ (i : ℕ). Apart i c.take_first.new.parts.entries) e c.take_first.ensures.behind

pub returns-clause-behind : goal.returns-clause-behind
unfolding chunk_bytes chunk_offset
returns-clause-behind c =
    let long = ap length c.in_ok-piece.ensures.front ∙ front_length c.args.most c.in-Some.end c.in-Some.held c.args.parts.now.entries (sym c.in-Some.ensures.value) (omega arith) in
    rw (c.in_ok-piece.ensures.left, long)
    (cut_behind c.args.most c.in-Some.end c.in-Some.held c.args.parts.now.entries (sym c.in-Some.ensures.value) (omega arith) c.requires.kept.apart)
