use Rattle.std.proofs.Common.{◌∙◌, length, arith, sym, ap, refl}
use Rattle.qc_assembler.specs.Assembly.{chunk_bytes, chunk_offset}
use Rattle.qc_assembler.specs.Parts.{first_begin}
use Rattle.qc_assembler.proofs.FirstPart.{first_bounds, front_none, front_some, front_length, first_sizes, no_first}
use Rattle.qc_assembler.proofs.front.peek_front.Goals as goal

pub returns-in_default-clause-front : goal.returns-in_default-clause-front
returns-in_default-clause-front c = front_none c.args.most c.args.parts.now.entries (sym c.first_part.ensures.value ∙ c.in_default.is)

pub returns-in_default-clause-fits : goal.returns-in_default-clause-fits
unfolding chunk_bytes chunk_offset
returns-in_default-clause-fits c = omega arith

pub overflow_sub-result : goal.overflow_sub-result
overflow_sub-result c = (first_bounds 0 c.in-Some.end c.in-Some.held c.args.parts.now.entries c.requires (sym c.in-Some.ensures.value)).0

pub returns-clause-front : goal.returns-clause-front
returns-clause-front c =
    let bounds = first_bounds 0 c.in-Some.end c.in-Some.held c.args.parts.now.entries c.requires (sym c.in-Some.ensures.value) in
    rw c.in_ok-piece.ensures
    (front_some c.args.most c.min.result c.in-Some.end c.in-Some.held c.args.parts.now.entries c.requires (sym c.in-Some.ensures.value) (omega arith) (omega arith) (λ h. omega arith))

pub returns-clause-fits : goal.returns-clause-fits
unfolding chunk_bytes chunk_offset
returns-clause-fits c =
    let bounds = first_bounds 0 c.in-Some.end c.in-Some.held c.args.parts.now.entries c.requires (sym c.in-Some.ensures.value) in
    let long = ap length c.in_ok-piece.ensures ∙ front_length c.min.result c.in-Some.end c.in-Some.held c.args.parts.now.entries (sym c.in-Some.ensures.value) (omega arith) in
    omega (arith, c.in-Some.ensures.fits)

pub returns-in_default-clause-within : goal.returns-in_default-clause-within
unfolding chunk_bytes
returns-in_default-clause-within c = omega arith

pub returns-in_default-clause-begin : goal.returns-in_default-clause-begin
unfolding chunk_offset first_begin
returns-in_default-clause-begin c = rw (no_first c.args.parts.now.entries (sym c.first_part.ensures.value ∙ c.in_default.is)).0 refl

pub returns-clause-within : goal.returns-clause-within
unfolding chunk_bytes
returns-clause-within c =
    let sizes = first_sizes c.in-Some.end c.in-Some.held c.args.parts.now.entries (sym c.in-Some.ensures.value) in
    let long = ap length c.in_ok-piece.ensures ∙ front_length c.min.result c.in-Some.end c.in-Some.held c.args.parts.now.entries (sym c.in-Some.ensures.value) (omega arith) in
    omega arith

pub returns-clause-begin : goal.returns-clause-begin
unfolding chunk_offset
returns-clause-begin c = sym (first_sizes c.in-Some.end c.in-Some.held c.args.parts.now.entries (sym c.in-Some.ensures.value)).0
