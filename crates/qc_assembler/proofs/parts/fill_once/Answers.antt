use Rattle.std.proofs.Common.{◌≡◌, ◌∙◌, ap, sym, refl, length, arith}
use Rattle.qc_assembler.specs.Parts.{flat, HasRoom, part_begins}
use Rattle.std.proofs.lemmas.List.{length-take-le}
use Rattle.qc_assembler.proofs.Adding.{add_split}
use Rattle.qc_assembler.proofs.Placing.{past_bounds, trim_flat}
use Rattle.qc_assembler.proofs.parts.fill_once.Goals as goal

pub place-requires-clause-room : goal.place-requires-clause-room
unfolding HasRoom
place-requires-clause-room c = rw (sym c.first_past.ensures ∙ c.in_default.is) tt

pub place-requires-clause-next : goal.place-requires-clause-next
unfolding part_begins
place-requires-clause-next c = rw (sym c.first_past.ensures ∙ c.in_default.is) refl

pub returns-in_default-clause-came : goal.returns-in_default-clause-came
returns-in_default-clause-came c =
    rw (c.in_ok-piece.ensures.rest, c.in_ok-place.ensures.came, c.in_ok-piece.ensures.front)
    (sym (add_split c.args.offset c.len-len.result c.args.bytes.now (flat c.args.parts.now.entries) (omega arith)))

pub overflow_sub-start : goal.overflow_sub-start
overflow_sub-start c = (past_bounds 0 c.args.offset c.in-Some.end c.in-Some.held c.args.parts.now.entries c.requires.kept.apart (sym c.in-Some.ensures)).1

pub overflow_sub-end : goal.overflow_sub-end
overflow_sub-end c = omega (arith, past_bounds 0 c.args.offset c.in-Some.end c.in-Some.held c.args.parts.now.entries c.requires.kept.apart (sym c.in-Some.ensures))

pub returns-then-start-offset-clause-taken : goal.returns-then-start-offset-clause-taken
returns-then-start-offset-clause-taken c =
    let bounds = past_bounds 0 c.args.offset c.in-Some.end c.in-Some.held c.args.parts.now.entries c.requires.kept.apart (sym c.in-Some.ensures) in
    (omega arith, omega arith, c.advance.ensures)

pub returns-then-start-offset-clause-came : goal.returns-then-start-offset-clause-came
returns-then-start-offset-clause-came c =
    let bounds = past_bounds 0 c.args.offset c.in-Some.end c.in-Some.held c.args.parts.now.entries c.requires.kept.apart (sym c.in-Some.ensures) in
    rw c.advance.ensures
    (sym (trim_flat 0 c.args.offset c.min-known.result c.in-Some.end c.in-Some.held c.args.bytes.now c.args.parts.now.entries c.requires.kept.apart (sym c.in-Some.ensures)
    (omega arith) (omega arith) (omega arith)))

pub place-requires-2-clause-room : goal.place-requires-2-clause-room
unfolding HasRoom
place-requires-2-clause-room c =
    let bounds = past_bounds 0 c.args.offset c.in-Some.end c.in-Some.held c.args.parts.now.entries c.requires.kept.apart (sym c.in-Some.ensures) in
    let long : length c.in_ok-piece-2.piece ≡ c.min-room.result = ap length c.in_ok-piece-2.ensures.front ∙ length-take-le c.min-room.result c.args.bytes.now (omega arith) in
    rw (sym c.in-Some.ensures) (omega arith)

pub place-requires-2-clause-next : goal.place-requires-2-clause-next
unfolding part_begins
place-requires-2-clause-next c =
    let long : length c.in_ok-piece-2.piece ≡ c.min-room.result = ap length c.in_ok-piece-2.ensures.front ∙ length-take-le c.min-room.result c.args.bytes.now (omega arith) in
    rw (sym c.in-Some.ensures, long) refl

pub returns-clause-came : goal.returns-clause-came
returns-clause-came c =
    rw (c.in_ok-piece-2.ensures.rest, c.in_ok-place-2.ensures.came, c.in_ok-piece-2.ensures.front)
    (sym (add_split c.args.offset c.min-room.result c.args.bytes.now (flat c.args.parts.now.entries) (omega arith)))
