use Rattle.std.proofs.Common.{ℕ, ◌∙◌, List, ap, sym, arith}
use Rattle.qc_assembler.specs.Assembly.{add}
use Rattle.qc_assembler.specs.Parts.{flat}
use Rattle.qc_assembler.specs.Ahead.{assembled}
use Rattle.qc_assembler.proofs.Segments.{skip_step, fill_step, read_below, read_inside, unread_before, unread_beyond, range_bounds}
use Rattle.qc_assembler.proofs.insert.insert_once.Goals as goal

pub returns-then-offset-read-clause-came : goal.returns-then-offset-read-clause-came
returns-then-offset-read-clause-came c =
    rw c.advance.ensures
    (sym (skip_step c.args.offset c.min-known.result c.args.bytes.now (assembled c.args.read c.args.ranges.now.entries c.args.parts.now.entries) (omega arith)
    (read_below c.args.offset c.min-known.result c.args.read c.args.ranges.now.entries c.args.parts.now.entries (omega arith))))

pub returns-in_default-clause-came : goal.returns-in_default-clause-came
returns-in_default-clause-came c =
    rw c.in_ok-piece.ensures.rest
    (sym (fill_step c.args.offset c.len-len.result c.args.read c.args.ranges.now.entries c.args.bytes.now c.args.parts.now.entries c.fill.new.parts.entries (omega arith)
    (unread_beyond c.args.offset c.len-len.result c.args.read c.args.ranges.now.entries c.args.parts.now.entries c.requires.ranges (sym c.range_past.ensures ∙ c.in_default.is) (omega arith))
    (c.in_ok-fill.ensures.came ∙ ap (λ (p : List ℕ). add c.args.offset p (flat c.args.parts.now.entries)) c.in_ok-piece.ensures.front)))

pub overflow_sub-end : goal.overflow_sub-end
overflow_sub-end c = omega (arith, range_bounds 0 c.args.offset (c.in-Some.end, c.in-Some.start) c.args.ranges.now.entries c.requires.ranges (sym c.in-Some.ensures))

pub returns-then-start-offset-clause-taken : goal.returns-then-start-offset-clause-taken
returns-then-start-offset-clause-taken c =
    let bounds = range_bounds 0 c.args.offset (c.in-Some.end, c.in-Some.start) c.args.ranges.now.entries c.requires.ranges (sym c.in-Some.ensures) in
    (omega arith, omega arith, c.advance-then-start-offset.ensures)

pub returns-then-start-offset-clause-came : goal.returns-then-start-offset-clause-came
returns-then-start-offset-clause-came c =
    let bounds = range_bounds 0 c.args.offset (c.in-Some.end, c.in-Some.start) c.args.ranges.now.entries c.requires.ranges (sym c.in-Some.ensures) in
    rw c.advance-then-start-offset.ensures
    (sym (skip_step c.args.offset c.min-known-then-start-offset.result c.args.bytes.now (assembled c.args.read c.args.ranges.now.entries c.args.parts.now.entries) (omega arith)
    (read_inside c.args.offset c.min-known-then-start-offset.result c.args.read (c.in-Some.end, c.in-Some.start) c.args.ranges.now.entries c.args.parts.now.entries c.requires.ranges (sym c.in-Some.ensures) (omega arith) (omega arith))))

pub returns-clause-came : goal.returns-clause-came
returns-clause-came c =
    rw c.in_ok-piece-2.ensures.rest
    (sym (fill_step c.args.offset c.min-room.result c.args.read c.args.ranges.now.entries c.args.bytes.now c.args.parts.now.entries c.fill-2.new.parts.entries (omega arith)
    (unread_before c.args.offset c.min-room.result c.args.read (c.in-Some.end, c.in-Some.start) c.args.ranges.now.entries c.args.parts.now.entries c.requires.ranges (sym c.in-Some.ensures) (omega arith) (omega arith))
    (c.in_ok-fill-2.ensures.came ∙ ap (λ (p : List ℕ). add c.args.offset p (flat c.args.parts.now.entries)) c.in_ok-piece-2.ensures.front)))
